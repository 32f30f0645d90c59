-- What an answer of the writer tells, in document 01's numbers and values. Assumes nothing.
use Rattle.std.specs.Prelude.{[], ◌∷◌, ℕ, Result, Ok, Err}
use Rattle.refusal.specs.declared.Refusal.{Refusal}
use Rattle.refusal.specs.Number.{number_of}
use Rattle.refusal.specs.Told.{Told, gives, refuses}

-- what the writer tells, case by case
abbrev pub told_written : Result ℕ Refusal → Told
told_written (Ok n) = gives (n ∷ [])
told_written (Err why) = refuses (number_of why)
