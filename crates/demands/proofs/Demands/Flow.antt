-- Flow: steps and runs, the mask count (request 3), loops (request 4) and the two modes (request 7).
-- A page behind Demands.antt, made as that one is: each statement under its sentence, each proof a citation. Assumes nothing.
use mathlib.Core.Path.{◌≡◌}
use mathlib.Core.Bool.{Bool, true, false}
use mathlib.Core.List.{List, ◌∷◌}
use Prim.Native.Nat.{ℕ, ◌+◌, ◌-◌, ◌*◌, ◌<◌, ◌≤◌}
use lib.Count.{count_trailing_zeros}
use Rattle.group.specs.Proc.{most_processors}
use Rattle.group.specs.Modes.{Mode, Full as FullMode, Partial as PartialMode, mode_of}
use Rattle.group.specs.Group.{Program, Group, Outcome, Steps, Fails, Run, Makes, Breaks, first_active, with_loops, group_run, group_step as step_of_flow}
use Rattle.group.specs.Cells.{active_mask}
use Rattle.group.specs.Cells as cells
use Rattle.group.specs.Causes.{Cause, FirstMet}
use Rattle.group.proofs.Firsts.{run_shared, run_first_cause, first_cause_refuses, one_number}
use Rattle.group.proofs.Modes.{step_shared, step_cause, cause_refuses}
use Rattle.group_rooms.specs.Rooms.{BeginCrosses as GroupBegins}
use Rattle.loops.specs.Loops.{Opened, Looping, turn_of, shown_aL}
use Rattle.judges_group.specs.Judged.{JudgesGroup, zero_cells}
use Rattle.judges_group.proofs.Judging.{zeros_refused}
use Rattle.flow.specs.Looping.{op_at, integer_at, count_at, open_op, LedBy, Turning, Inside as InLoop, Opens, Closes}
use Rattle.flow.proofs.Looping.{step_led, opened, turns_fewer, close_turn, al_turns_up, al_turns_down}
use Rattle.flow.specs.Plain.{AllPlain, plain_run, loops_after}
use Rattle.flow.proofs.Plain.{old_run, plain_run_loops}
use Rattle.flow.proofs.Counting.{mask_first, mask_none}
use Rattle.demands.specs.Flow.{Agree, AllAgree, Ran}
use Rattle.demands.specs.Flow as flow
use Rattle.demands.proofs.Flow.{run_walks, same_step, same_run, handed_made, begun_mode, step_mode, run_mode}

-- FLOW

-- A run is its steps, up to the list's or the program's end; if one is refused, the whole run is (and by demand 1 leaves the cells as
-- they were).
pub flow_run :
    (mode : Mode) (p : Program) (booleans : ℕ) (masks : List ℕ) (g : Group) → Ran mode p booleans masks g (group_run mode p booleans masks g)
flow_run = run_walks

-- "Mask bits above the group are ignored": masks that say the same of every processor in the group give the same step and the same run.
pub flow_masks :
    (mode : Mode) (p : Program) (booleans : ℕ) (g : Group) (alu predicate alu' predicate' : ℕ) → Agree g alu alu' →
    Agree g predicate predicate' → step_of_flow mode p alu predicate booleans g ≡ step_of_flow mode p alu' predicate' booleans g
flow_masks = same_step

pub flow_run_masks :
    (mode : Mode) (p : Program) (booleans : ℕ) (ms ms' : List ℕ) (g : Group) → AllAgree g ms ms' →
    group_run mode p booleans ms g ≡ group_run mode p booleans ms' g
flow_run_masks = same_run

-- The cells given out are those taken: what begin, step, run and kill left, or the check said yes to, is what step, run and kill ask for.
pub flow_given : {l : List ℕ} → flow.Handed l → cells.GroupGiven l
flow_given = handed_made

-- Cells that were kept elsewhere: the check says yes just where step, run, kill and the loops told may have them; so it does of all that
-- begin, step, run and kill left, and never of 20 zeros.
pub flow_checked : {l : List ℕ} {answer : Bool} → JudgesGroup l answer → answer ≡ true → cells.GroupGiven l
flow_checked j = j.sound

pub flow_checks : {l : List ℕ} {answer : Bool} → JudgesGroup l answer → cells.GroupGiven l → answer ≡ true
flow_checks j = j.complete

pub flow_checks_own : {l : List ℕ} {answer : Bool} → JudgesGroup l answer → flow.Handed l → answer ≡ true
flow_checks_own j h = j.complete (handed_made h)

pub flow_checks_zeros : (answer : Bool) → JudgesGroup zero_cells answer → answer ≡ false
flow_checks_zeros = zeros_refused

-- REQUEST 3, "The mask count in the stepper's hot path"

-- And its trailing zeros are the first active processor, 32 for the empty mask.
pub mask_zeros :
    (mask : ℕ) (g : Group) → mask ≡ active_mask g.procs →
    (count_trailing_zeros most_processors mask ≡ first_active g) × (mask ≡ 0 → first_active g ≡ 32)
mask_zeros mask g shown = (mask_first mask g shown, mask_none mask g shown)

-- REQUEST 4, "Loops in the stepper"

-- "These decisions override the processors' wishes": a step of another op is refused, or its decision and the loops that it leaves are
-- those of its turn, whatever the masks. (`flow_step` and `flow_refused` above have the whole step and its order.)
pub loops_decide :
    (mode : Mode) (p : Program) (alu predicate booleans : ℕ) (g : Group) → (op_at p g ≡ 0 → ⊥) →
    LedBy (turn_of (op_at p g) (integer_at p g) g.loops) (step_of_flow mode p alu predicate booleans g)
loops_decide = step_led

-- So a run of slots whose ops are all 0 is document 01's run, whatever integer words are lent; and that run looks at no open loop: with others
-- open it answers the same, and leaves those.
pub loops_op_0_runs :
    (p : Program) → AllPlain p → (booleans : ℕ) (masks : List ℕ) (g : Group) →
    group_run FullMode p booleans masks g ≡ plain_run p.firsts p.seconds p.slots booleans masks g
loops_op_0_runs p plain booleans = old_run p plain booleans

pub loops_op_0_blind :
    (firsts seconds : List ℕ) (slots booleans : ℕ) (loops : List Opened) (masks : List ℕ) (g : Group) →
    plain_run firsts seconds slots booleans masks (with_loops g loops) ≡ loops_after loops (plain_run firsts seconds slots booleans masks g)
loops_op_0_blind = plain_run_loops

-- "Opening: count 0 jumps; otherwise stay and push count and, for LOOP, aL and step.": so of an opening that is made, LOOP's (true) or REP's.
pub loops_open :
    (mode : Mode) (p : Program) (alu predicate booleans : ℕ) (loop : Bool) (o g : Group) (jump : Bool) → op_at p o ≡ open_op loop →
    step_of_flow mode p alu predicate booleans o ≡ Steps jump g → Opens loop (integer_at p o) o.loops jump g.loops
loops_open = opened

-- "Closing: the count falls by one; if it is then above 0 jump, else pop and stay.": a loop of count n, opened at o, around a body that comes
-- back to the loop's close with the loops as they were runs the body exactly n times. After k closes that jumped k is below n, so that
-- the n-th close can't jump; and a close that is made after k that jumped jumps where k + 1 is below n, and stays where k + 1 is n, so that no
-- earlier close can stay. Then the loops are those that were open at o.
pub loops_turns :
    (mode : Mode) (p : Program) (booleans : ℕ) (Body : Group → Group → Type 0) (loop : Bool) → InLoop p loop Body →
    (alu predicate : ℕ) (o g : Group) → op_at p o ≡ open_op loop → step_of_flow mode p alu predicate booleans o ≡ Steps false g →
    (k : ℕ) (s : Group) → Turning mode p booleans Body k g s → k < count_at p o
loops_turns = turns_fewer

pub loops_close :
    (mode : Mode) (p : Program) (booleans : ℕ) (Body : Group → Group → Type 0) (loop : Bool) → InLoop p loop Body →
    (alu predicate : ℕ) (o g : Group) → op_at p o ≡ open_op loop → step_of_flow mode p alu predicate booleans o ≡ Steps false g →
    (k : ℕ) (s c g' : Group) (jump : Bool) (alu' predicate' : ℕ) → Turning mode p booleans Body k g s → Body s c →
    step_of_flow mode p alu' predicate' booleans c ≡ Steps jump g' → Closes (count_at p o) o.loops k jump g'
loops_close = close_turn

-- After k turns the aL shown is its start and k steps, and within 0 to 255; a step of 128 or more is itself less 256.
pub al_rises :
    (mode : Mode) (p : Program) (booleans : ℕ) (Body : Group → Group → Type 0) → InLoop p true Body →
    (n al step : ℕ) (loops : List Opened) (k : ℕ) (g s : Group) → 1 ≤ n → al ≤ 255 → g.loops ≡ Looping n al step ∷ loops →
    Turning mode p booleans Body k g s → step < 128 → (shown_aL s.loops ≡ al + k * step) × (al + k * step ≤ 255)
al_rises = al_turns_up

pub al_falls :
    (mode : Mode) (p : Program) (booleans : ℕ) (Body : Group → Group → Type 0) → InLoop p true Body →
    (n al step : ℕ) (loops : List Opened) (k : ℕ) (g s : Group) → 1 ≤ n → g.loops ≡ Looping n al step ∷ loops →
    Turning mode p booleans Body k g s → 128 ≤ step → step ≤ 255 →
    (shown_aL s.loops ≡ al - k * (256 - step)) × (k * (256 - step) ≤ al)
al_falls = al_turns_down

-- REQUEST 7, "Partial flow control"

-- The mode is chosen at the start and never changed: a group begins in the mode that its begin was given, and a step or a run leaves it in
-- the mode that it had.
pub mode_chosen :
    (size mode r : ℕ) (l l' : List ℕ) → GroupBegins size mode r l l' → r ≡ 0 → cells.mode_in l' ≡ mode_of mode
mode_chosen = begun_mode

pub mode_stays : (l : List ℕ) (o : Outcome) → cells.mode_in (cells.step_leaves l o) ≡ cells.mode_in l
mode_stays = step_mode

pub mode_stays_in_runs : (l : List ℕ) (o : Run) → cells.mode_in (cells.run_leaves l o) ≡ cells.mode_in l
mode_stays_in_runs = run_mode

-- "from flow states that differ only in the mode, whatever partial mode accepts, full mode answers identically, the mode aside": a step, and
-- a whole run. (The mode is no part of a state, so the same state under both modes is two flow states that differ only in the mode.)
pub partial_shared :
    (p : Program) (alu predicate booleans : ℕ) (g : Group) (jump : Bool) (g' : Group) →
    step_of_flow PartialMode p alu predicate booleans g ≡ Steps jump g' → step_of_flow FullMode p alu predicate booleans g ≡ Steps jump g'
partial_shared = step_shared

pub partial_run_shared :
    (p : Program) (booleans : ℕ) (masks : List ℕ) (g g' : Group) (n : ℕ) →
    group_run PartialMode p booleans masks g ≡ Makes n g' → group_run FullMode p booleans masks g ≡ Makes n g'
partial_run_shared = run_shared

-- "Partial mode refuses what full mode accepts for the three causes above and no other.": where full mode makes the step, partial mode refuses it
-- with a number exactly where there is a cause of that number.
pub partial_causes :
    (p : Program) (alu predicate booleans : ℕ) (g : Group) (n : ℕ) (jump : Bool) (g' : Group) →
    step_of_flow PartialMode p alu predicate booleans g ≡ Fails n → step_of_flow FullMode p alu predicate booleans g ≡ Steps jump g' →
    Cause p g alu predicate booleans n
partial_causes = step_cause

pub partial_refuses :
    (p : Program) (alu predicate booleans : ℕ) (g : Group) (n : ℕ) (jump : Bool) (g' : Group) →
    Cause p g alu predicate booleans n → step_of_flow FullMode p alu predicate booleans g ≡ Steps jump g' →
    step_of_flow PartialMode p alu predicate booleans g ≡ Fails n
partial_refuses = cause_refuses

-- And a run that full mode makes: partial mode refuses it with a number exactly where the run comes to a step with a cause before the program's
-- end, and the first such step has a cause of that number. (A step's causes have one number.)
pub partial_run_causes :
    (p : Program) (booleans : ℕ) (masks : List ℕ) (g g' : Group) (k : ℕ) → group_run FullMode p booleans masks g ≡ Makes k g' →
    (n : ℕ) → group_run PartialMode p booleans masks g ≡ Breaks n → FirstMet p booleans masks g n
partial_run_causes = run_first_cause

pub partial_run_refuses :
    (p : Program) (booleans : ℕ) (masks : List ℕ) (g g' : Group) (k : ℕ) → group_run FullMode p booleans masks g ≡ Makes k g' →
    (n : ℕ) → FirstMet p booleans masks g n → group_run PartialMode p booleans masks g ≡ Breaks n
partial_run_refuses = first_cause_refuses

pub partial_one_number :
    {p : Program} {g : Group} {alu predicate booleans n m : ℕ} → Cause p g alu predicate booleans n → Cause p g alu predicate booleans m → n ≡ m
partial_one_number = one_number
