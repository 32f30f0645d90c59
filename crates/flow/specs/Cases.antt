-- Document 01's worked steps C9 to C12, by the definition of a step. crates/demands/specs/Cases.antt has what the document says of
-- them, with C1 to C8. Assumes nothing.
use Rattle.std.specs.Prelude.{[], ◌∷◌, ℕ, replicate}
use Rattle.laws.specs.Masks.{digit, pack}
use Rattle.refusal.specs.Told.{Told, gives, refuses}
use Rattle.group.specs.Proc.{is_active, most_processors}
use Rattle.group.specs.Modes.{Full}
use Rattle.group.specs.Group.{Outcome, Steps, Fails, Program, fresh, store_slots, group_step}

-- "N is 4, second words and other masks 0": the word stands in every slot, so that the position doesn't matter
unfoldable pub one_word : ℕ → Program
one_word first = record { firsts = replicate store_slots first; seconds = replicate store_slots 0; slots = 4; integers = [] }

unfoldable pub c9 : Outcome
c9 = group_step Full (one_word 0x02000F00) 3 0 0 (fresh 4)

unfoldable pub c10 : Outcome
c10 = group_step Full (one_word 0x02000F00) 0 0 0 (fresh 4)

-- a step made on the state that another one left
abbrev pub next : ℕ → Outcome → Outcome
next first (Steps jump g) = group_step Full (one_word first) 0 0 0 g
next first (Fails why) = Fails why

unfoldable pub c11 : Outcome
c11 = next 0x00000010 c9

unfoldable pub c12 : Outcome
c12 = next 0x01010020 c11

-- jump (1) or stay (0), and the mask of the active processors
abbrev pub seen : Outcome → Told
seen (Steps jump g) = gives (digit jump ∷ pack most_processors (λ i. is_active (g.procs i)) ∷ [])
seen (Fails why) = refuses why
