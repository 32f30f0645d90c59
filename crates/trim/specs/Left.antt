-- What trimming leaves in the arrays that it is lent, whatever session they stand beside. Assumes nothing.
use Rattle.std.specs.Prelude.{◌≡◌, List, ℕ}
use Rattle.state.specs.State.{Session}
use Rattle.replay.specs.Cells.{viewed, log_cells}
use Rattle.trim.specs.Trim.{trimmed}

-- the ten numbers and the marks of the trimmed replay, exactly
pub record Trims (log marks log' marks' : List ℕ) : Type 0 where
  pub log_cells_lem : (s : Session) → log' ≡ log_cells (trimmed (viewed log marks s))
  pub mark_cells : (s : Session) → marks' ≡ (trimmed (viewed log marks s)).marks

-- the same as a status and arrays: nothing is refused
pub record TrimCrosses (log marks : List ℕ) (r : ℕ) (log' marks' : List ℕ) : Type 0 where
  pub status : r ≡ 0
  pub left : Trims log marks log' marks'
