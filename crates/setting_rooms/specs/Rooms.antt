-- What a session holds as numbers: a flag is 1 or 0. Assumes nothing.
use Rattle.std.specs.Prelude.{List, [], ◌∷◌, ℕ, eqb, ltb, get_or, Result, Ok, Err}
use Rattle.laws.specs.Choice.{pick}
use Rattle.refusal.specs.Number.{number_of}
use Rattle.refusal.specs.Told.{Told, gives, refuses}
use Rattle.refusal.specs.Crossing.{flag}
use Rattle.command.specs.Table.{header_of}
use Rattle.command.specs.Known.{if_known}
use Rattle.state.specs.State.{Party, Shared, Buffer, Tally, unset}
use Rattle.queries.specs.Queries.{setting_of}
use Rattle.queries.specs.declared.Setting.{Setting}
use Rattle.refusal.specs.declared.Refusal.{Refusal}

-- the header of the open command's line; 0 where none is open, since 21 is past the table
abbrev pub open_header : ℕ → ℕ
open_header line = header_of line

-- where a session stands: words taken, stopped or not, the open command's header and how many of its parameters were taken,
-- which of 0, 7, 8 and 9 the settings alone give a start, and the edition
unfoldable pub standing_numbers : Party → List ℕ
standing_numbers p =
    p.taken ∷ flag (eqb p.stopped 1) ∷ open_header p.opened.line ∷ p.opened.count ∷ p.readiness.number ∷
    p.birth.edition ∷ []

abbrev pub tally_numbers : Tally → List ℕ
tally_numbers t = t.runs ∷ t.claims ∷ []

unfoldable pub domain_numbers : Party → List ℕ
domain_numbers p =
    flag (eqb p.domain.is_set 1) ∷ p.domain.i0 ∷ p.domain.j0 ∷ p.domain.i1 ∷ p.domain.j1 ∷ []

unfoldable pub mask_numbers : Shared → List ℕ
mask_numbers h =
    h.mask ∷ flag (eqb h.conditional_mask_set 1) ∷ h.conditional_mask ∷ flag (eqb h.test_set 1) ∷ h.test ∷ []

-- a format in four numbers: set or not, base, format word and height
unfoldable pub format_numbers : Setting → List ℕ
format_numbers s = flag s.present ∷ s.base ∷ s.format ∷ s.height ∷ []

abbrev pub format_told : Buffer → Told
format_told b = gives (format_numbers (setting_of b))

-- an input or output by its number; 4 where there is none with it
abbrev pub numbered_told : List Buffer → ℕ → ℕ → Told
numbered_told buffers count number = pick (ltb number count) (format_told (get_or buffers number unset)) (refuses 4)

-- the format that the commands of a line set; 2 for a line that sets none
unfoldable pub format_at : Party → Shared → ℕ → ℕ → Told
format_at p h line number =
    pick (eqb line 3) (format_told p.instructions)
    (pick (eqb line 4) (numbered_told h.inputs 16 number)
    (pick (eqb line 5) (numbered_told h.outputs 4 number)
    (pick (eqb line 6) (format_told h.conditional)
    (pick (eqb line 7) (format_told h.floats)
    (pick (eqb line 8) (format_told h.integers)
    (pick (eqb line 9) (format_told h.booleans) (refuses 2)))))))

abbrev pub format_of : Party → Shared → ℕ → ℕ → Told
format_of p h header number = if_known header (λ line. format_at p h line number)

abbrev pub told_found : Result Setting Refusal → Told
told_found (Ok setting) = gives (format_numbers setting)
told_found (Err why) = refuses (number_of why)
