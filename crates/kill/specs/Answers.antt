-- What the answer of a kill tells, and what its routines leave in the cells. Assumes nothing.
use Rattle.std.specs.Prelude.{◌≡◌, List, [], ◌∷◌, ℕ, ◌*◌, length, Float, Result, Ok, Err}
use Rattle.refusal.specs.declared.Refusal.{Refusal}
use Rattle.refusal.specs.Number.{number_of}
use Rattle.refusal.specs.Told.{Told, gives, refuses}
use Rattle.registers.specs.Registers.{channel_count}
use Rattle.group.specs.Cells.{mode_in, group_of, cells_of, GroupGiven}
use Rattle.kill.specs.Kill.{Outcome, killed_now, after_kill, start_size, kill_told, kill_leaves}

abbrev pub told_killed : Result ℕ Refusal → Told
told_killed (Ok mask) = gives (mask ∷ [])
told_killed (Err why) = refuses (number_of why)

pub record KillDone (entry leaves : List ℕ) (r : Result ℕ Refusal) (o : Outcome) : Type 0 where
  pub told : told_killed r ≡ kill_told o
  pub left : leaves ≡ kill_leaves entry o

-- a group's cells and its registers, four channels a processor of the starting group
pub record TakesOut (cells : List ℕ) (registers : List Float) : Type 0 where
  pub given : GroupGiven cells
  pub whole : length registers ≡ start_size (group_of cells) * channel_count

-- those who are killed, and the cells of the group then, in the same mode
pub record TakenOut (entry leaves : List ℕ) (registers : List Float) (mask gone : ℕ) : Type 0 where
  pub now : gone ≡ killed_now registers mask (group_of entry)
  pub left : leaves ≡ cells_of (mode_in entry) (after_kill registers mask (group_of entry))
