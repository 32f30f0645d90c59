-- Programs and groups as a status and rooms: the status with its room, and the lent state before and after. Assumes nothing.
use Rattle.std.specs.Prelude.{◌≡◌, List, ℕ}
use Rattle.group.specs.Group.{Outcome, Run, step_told, run_told, begin_told}
use Rattle.group.specs.Cells.{step_leaves, run_leaves, begin_leaves}
use Rattle.flow.specs.Store.{load_told, firsts_left, seconds_left}
use Rattle.refusal.specs.Crossing.{Crosses, status_of}

pub record LoadCrosses (words : List ℕ) (r : ℕ) (firsts firsts' seconds seconds' slots slots' : List ℕ) : Type 0 where
  pub answer : Crosses (load_told words) r slots slots'
  pub left_firsts : firsts' ≡ firsts_left firsts words
  pub left_seconds : seconds' ≡ seconds_left seconds words

pub record BeginCrosses (size mode r : ℕ) (cells cells' : List ℕ) : Type 0 where
  pub status : r ≡ status_of (begin_told size mode)
  pub left : cells' ≡ begin_leaves cells size mode

pub record StepCrosses (o : Outcome) (r : ℕ) (cells cells' taken taken' : List ℕ) : Type 0 where
  pub answer : Crosses (step_told o) r taken taken'
  pub left : cells' ≡ step_leaves cells o

pub record RunCrosses (o : Run) (r : ℕ) (cells cells' report report' : List ℕ) : Type 0 where
  pub answer : Crosses (run_told o) r report report'
  pub left : cells' ≡ run_leaves cells o
