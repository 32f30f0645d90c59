-- What follows from a header that stands in the command table, and from one that doesn't. Assumes nothing.
use Rattle.std.specs.Prelude.{[], ◌∷◌, ℕ}
use Rattle.refusal.specs.Told.{Told, gives, refuses}
use Rattle.command.specs.Table.{line_with}

-- what follows from the line that a search in the command table found; `other` where it found none
abbrev pub on_line {ℓ} : {A : Type ℓ} → Told → (ℕ → A) → A → A
on_line (gives (line ∷ rest)) found other = found line
on_line (gives []) found other = other
on_line (refuses number) found other = other

-- what is told of the line that a header stands in; "2: a header word stands in no line of the command table"
abbrev pub if_known : ℕ → (ℕ → Told) → Told
if_known header answer = on_line (line_with header) answer (refuses 2)
