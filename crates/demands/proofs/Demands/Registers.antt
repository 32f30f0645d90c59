-- Registers: the kill test, and maximum and choice by bits (request 11).
-- A page behind Demands.antt, made as that one is: each statement under its sentence, each proof a citation. Assumes nothing.
use mathlib.Core.Path.{◌≡◌, ◌∙◌}
use mathlib.Core.Bool.{true, false}
use mathlib.Core.List.{List, map}
use Prim.Native.Nat.{ℕ, ◌^◌, ◌<◌, ◌≤◌}
use lib.Ieee.{Float, lt}
use lib.ListN.{get_or}
use Rattle.laws.specs.Choice.{pick}
use Rattle.laws.specs.Masks.{on}
use Rattle.group.specs.Proc.{Absent}
use Rattle.group.specs.Modes.{Mode}
use Rattle.group.specs.Group.{Program, Group, fresh, group_step as step_of_flow}
use Rattle.registers.specs.Registers.{float, less_than_zero, at_least_zero, maximum_of, choice_of, killed_by, masked_at}
use Rattle.registers.specs.Pattern.{below_zero, not_below_zero, less_than, no_number, killed_by_bits}
use Rattle.registers.proofs.Order.{less_than_lem}
use Rattle.registers.proofs.Patterns.{below_zero_lem, at_least_zero_lem, less_than_zero_cases, maximum_pattern, choice_pattern, killed_pattern}
use Rattle.kill.specs.Kill.{Kills, start_size, kill_of}
use Rattle.kill.specs.Kill as killing
use Rattle.kill.specs.Through.{Leads, with_killed, with_killed_after}
use Rattle.kill.specs.Through as kills
use Rattle.group.specs.Cells as cells
use Rattle.kill.proofs.Through as through

-- REQUEST 11, "Kill test on float registers"

-- A kill that is refused has the cause of its number: 16, 13, 11, in that order.
pub kill_refused :
    (slots : ℕ) (registers : List Float) (mask : ℕ) (g : Group) (why : ℕ) → kill_of slots registers mask g ≡ killing.Fails why →
    kills.Refused slots registers mask g why
kill_refused = through.refused

-- "Killed processors are never active again: B_ELSE, decrement and all else skip them": whoever a kill kills is absent from then on,
-- through any number of steps, runs and kills, under any programs.
pub kill_for_good :
    {mode : Mode} (slots : ℕ) (registers : List Float) (mask now : ℕ) (g h k : Group) → kill_of slots registers mask g ≡ Kills now h →
    Leads mode h k → (i : ℕ) → i < 32 → on i now ≡ true → k.procs i ≡ Absent
kill_for_good = through.never_again

-- "they count as not in the group": a step doesn't ask who was killed; it is the step of a group that never had them. (`flow_masks`
-- above has it that their bits of the masks are ignored.)
pub kill_outside :
    (mode : Mode) (p : Program) (alu predicate booleans : ℕ) (g : Group) (dead : ℕ) →
    step_of_flow mode p alu predicate booleans (with_killed g dead) ≡ with_killed_after dead (step_of_flow mode p alu predicate booleans g)
kill_outside = through.step_blind

-- A kill asks for no mode, so that partial and full mode kill alike, and it leaves the group in the mode that it had.
pub kill_keeps_mode : (l : List ℕ) (o : killing.Outcome) → cells.mode_in (killing.kill_leaves l o) ≡ cells.mode_in l
kill_keeps_mode = through.kill_mode

-- "the starting group's length": what 11 asks for is the size that the group began with, whoever was killed since.
pub kill_start : {mode : Mode} (size : ℕ) → size ≤ 32 → (g : Group) → Leads mode (fresh size) g → start_size g ≡ size
kill_start size h g way = through.start_stays way ∙ through.start_fresh size h

-- Floats by their bits: less than zero is 80000000 < bits ≤ FF800000, at least zero is a number that isn't, and B < A is as signs and
-- magnitudes say, for every pattern of 32 bits.
pub float_below_zero : (bits : ℕ) → bits < 2 ^ 32 → less_than_zero (float bits) ≡ below_zero bits
float_below_zero = below_zero_lem

pub float_at_least_zero : (bits : ℕ) → bits < 2 ^ 32 → at_least_zero (float bits) ≡ not_below_zero bits
float_at_least_zero = at_least_zero_lem

pub float_order : (a b : ℕ) → lt (float a) (float b) ≡ less_than a b
float_order = less_than_lem

-- "Minus zero and NaN are not less than zero; minus infinity is."; nor is a NaN with its sign set, and the least negative number is.
pub float_cases :
    (less_than_zero (float 0x80000000) ≡ false) × (less_than_zero (float 0x7FC00000) ≡ false) ×
    (less_than_zero (float 0xFFC00000) ≡ false) × (less_than_zero (float 0xFF800000) ≡ true) ×
    (less_than_zero (float 0x80000001) ≡ true)
float_cases = less_than_zero_cases

-- So who is killed is known by the bits of the registers alone.
pub kill_by_bits :
    (mask : ℕ) (bits : List ℕ) (i : ℕ) → ((k : ℕ) → get_or bits k no_number < 2 ^ 32) →
    killed_by (masked_at (map float bits) i mask) ≡ killed_by_bits mask bits i
kill_by_bits = killed_pattern

-- Which of them it is goes by the bits alone.
pub maximum_by_bits : (a b : ℕ) → maximum_of a b ≡ pick (less_than b a) a b
maximum_by_bits = maximum_pattern

pub choice_by_bits : (a b third : ℕ) → third < 2 ^ 32 → choice_of a b third ≡ pick (not_below_zero third) a b
choice_by_bits = choice_pattern
