-- A kill as a status and a room: the status with who was killed, and the group's cells before and after. Assumes nothing.
use Rattle.std.specs.Prelude.{◌≡◌, List, ℕ}
use Rattle.refusal.specs.Crossing.{Crosses}
use Rattle.kill.specs.Kill.{Outcome, kill_told, kill_leaves}

pub record KillCrosses (o : Outcome) (r : ℕ) (cells cells' room room' : List ℕ) : Type 0 where
  pub answer : Crosses (kill_told o) r room room'
  pub left : cells' ≡ kill_leaves cells o
