-- Request 11, "Killed processors are never active again: B_ELSE, decrement and all else skip them, and they count as not in the group.":
-- what a kill leaves, why it is refused, the ways on which a group goes on, and a group with another mask of the killed. Assumes nothing.
use Rattle.std.specs.Prelude.{◌≡◌, Bool, List, ℕ, ◌*◌, ◌<◌, ◌≤◌, length, Float}
use Rattle.laws.specs.Choice.{pick}
use Rattle.laws.specs.Masks.{◌or◌, on}
use Rattle.group.specs.Proc.{Absent, most_processors}
use Rattle.group.specs.Modes.{Mode}
use Rattle.group.specs.Group as group
use Rattle.group.specs.Group.{Group, Program, Steps, Makes, group_step, group_run}
use Rattle.registers.specs.Registers.{channel_count}
use Rattle.kill.specs.Kill.{Kills, is_killed, start_size, all_channels, kill_of}

-- a kill that is made, processor by processor: who is killed now, who is left, and who was killed so far; all else stays
pub record Made (registers : List Float) (mask : ℕ) (g : Group) (now : ℕ) (g' : Group) : Type 0 where
  pub who : (i : ℕ) → i < most_processors → on i now ≡ is_killed registers mask g i
  pub each_processor : (i : ℕ) → g'.procs i ≡ pick (is_killed registers mask g i) Absent (g.procs i)
  pub so_far : (i : ℕ) → i < most_processors → on i g'.killed ≡ (on i g.killed or is_killed registers mask g i)
  -- "the position stays"
  pub position : g'.position ≡ g.position
  pub returns : g'.returns ≡ g.returns
  pub loops : g'.loops ≡ g.loops

-- a kill that is refused. "An ended program gets 16, a write mask over 15 gets 13, a register list not of the starting group's length
-- 11, in that order."
pub data Refused (slots : ℕ) (registers : List Float) (mask : ℕ) (g : Group) : ℕ → Type 0 where
  has_ended : slots ≤ g.position → Refused slots registers mask g 16
  bad_mask : g.position < slots → all_channels < mask → Refused slots registers mask g 13
  bad_length :
      g.position < slots → mask ≤ all_channels → (length registers ≡ start_size g * channel_count → ⊥) → Refused slots registers mask g 11

-- from one state to another by any number of steps, runs and kills in a mode, under any programs
pub data Leads (mode : Mode) (g : Group) : Group → Type 0 where
  stays : Leads mode g g
  steps :
      {h k : Group} → Leads mode g h → (program : Program) (alu predicate booleans : ℕ) (jump : Bool) →
      group_step mode program alu predicate booleans h ≡ Steps jump k → Leads mode g k
  runs :
      {h k : Group} → Leads mode g h → (program : Program) (booleans : ℕ) (masks : List ℕ) (made : ℕ) →
      group_run mode program booleans masks h ≡ Makes made k → Leads mode g k
  kills :
      {h k : Group} → Leads mode g h → (slots : ℕ) (registers : List Float) (mask now : ℕ) →
      kill_of slots registers mask h ≡ Kills now k → Leads mode g k

-- the same group with another mask of the killed
abbrev pub with_killed : Group → ℕ → Group
with_killed g killed =
    record { procs = g.procs; position = g.position; returns = g.returns; loops = g.loops; killed = killed }

abbrev pub with_killed_after : ℕ → group.Outcome → group.Outcome
with_killed_after killed (group.Steps jump g) = group.Steps jump (with_killed g killed)
with_killed_after killed (group.Fails why) = group.Fails why
