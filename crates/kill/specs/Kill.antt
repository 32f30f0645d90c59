-- Request 11, "Kill test on float registers": who is killed, the group then, and the order of the refusals. Assumes nothing.
use Rattle.std.specs.Prelude.{Bool, List, [], ◌∷◌, ℕ, ◌*◌, eqb, leb, ltb, length, Float}
use Rattle.laws.specs.Choice.{◌and◌, pick}
use Rattle.laws.specs.Below.{count}
use Rattle.laws.specs.Masks.{◌or◌, on, pack}
use Rattle.refusal.specs.Told.{Told, gives, refuses}
use Rattle.registers.specs.Registers.{channel_count, killed_by, masked_at}
use Rattle.group.specs.Proc.{Absent, is_active, most_processors}
use Rattle.group.specs.Group.{Group}
use Rattle.group.specs.Cells.{mode_in, at_start, cells_of}

-- "An active processor with a channel under the mask less than zero is killed, and no other."
abbrev pub is_killed : List Float → ℕ → Group → ℕ → Bool
is_killed registers mask g i = is_active (g.procs i) and killed_by (masked_at registers i mask)

-- those who are killed now, as a mask
abbrev pub killed_now : List Float → ℕ → Group → ℕ
killed_now registers mask g = pack most_processors (is_killed registers mask g)

-- "they count as not in the group. The flow state gains the mask of the killed; the position stays."
unfoldable pub after_kill : List Float → ℕ → Group → Group
after_kill registers mask g =
    record {
      procs = λ i. pick (is_killed registers mask g i) Absent (g.procs i);
      position = g.position;
      returns = g.returns;
      loops = g.loops;
      killed = pack most_processors (λ i. on i g.killed or is_killed registers mask g i);
    }

-- how many processors the starting group had: those in the group and the killed
unfoldable pub start_size : Group → ℕ
start_size g = count most_processors (at_start g.procs g.killed)

-- the answer of a kill: those who are killed now and the state then, or the refusal
pub data Outcome : Type 0 where
  Kills : ℕ → Group → Outcome
  Fails : ℕ → Outcome

-- "a write mask of four bits"
abbrev pub all_channels : ℕ
all_channels = 15

-- "An ended program gets 16, a write mask over 15 gets 13, a register list not of the starting group's length 11, in that order."
-- "A program has ended when the position is N or above"; a register is four floats of the list.
unfoldable pub kill_of : ℕ → List Float → ℕ → Group → Outcome
kill_of slots registers mask g =
    pick (leb slots g.position) (Fails 16)
    (pick (ltb all_channels mask) (Fails 13)
    (pick (eqb (length registers) (start_size g * channel_count)) (Kills (killed_now registers mask g) (after_kill registers mask g)) (Fails 11)))

-- what a kill tells: the mask of those it killed
abbrev pub kill_told : Outcome → Told
kill_told (Kills now g) = gives (now ∷ [])
kill_told (Fails why) = refuses why

-- the cells after it, in the same mode; a refusal leaves them as they were
abbrev pub kill_leaves : List ℕ → Outcome → List ℕ
kill_leaves l (Kills now g) = cells_of (mode_in l) g
kill_leaves l (Fails why) = l
