-- What the answer of a step tells, in document 01's numbers and values, and what a step leaves in the cells. Assumes nothing.
use Rattle.std.specs.Prelude.{◌≡◌, Bool, true, false, List, [], ◌∷◌, ℕ, ◌≤◌, eqb, leb, length, get_or, set, Option, unwrap_or, Result, Ok, Err}
use Rattle.laws.specs.Choice.{pick}
use Rattle.laws.specs.Masks.{digit, on}
use Rattle.refusal.specs.declared.Refusal.{Refusal}
use Rattle.refusal.specs.declared.Refusal.TheVariants.{AtLimit, PastEnd, FlowField, Ended}
use Rattle.refusal.specs.Number.{number_of}
use Rattle.refusal.specs.Told.{Told, gives, refuses}
use Rattle.group.specs.Proc.{is_active, decided, counter_limit}
use Rattle.group.specs.Group.{Group, Outcome, Steps, Fails, Program, Way, Goes, Stuck, Run, most_returns, group_step, group_run, step_told}
use Rattle.group.specs.Group.{b_else, jump_any, jump_func, boolean_number, fits_first, turned_if, wish_of, settled}
use Rattle.group.specs.Modes.{limit_of}
use Rattle.group.specs.Cells.{mode_in, with_active, group_of, are_returns, with_place, step_leaves}
use Rattle.group.specs.Masks.{some_at_limit_in, some_at_own_limit}
use Rattle.stepper.specs.declared.Stepped.{Stepped}

-- a jump tells 1, a stay 0, and both the next position
abbrev pub told_stepped : Result Stepped Refusal → Told
told_stepped (Ok s) = gives (digit s.jumped ∷ s.next.0 ∷ [])
told_stepped (Err why) = refuses (number_of why)

-- a step's refusal by its number, 13 to 16
unfoldable pub refusal_of : ℕ → Refusal
refusal_of n = pick (eqb n 13) FlowField (pick (eqb n 14) AtLimit (pick (eqb n 15) PastEnd Ended))

-- a step's answer before its place is told: whether the group jumped, or the refusal
abbrev pub step_answer : Outcome → Result Bool Refusal
step_answer (Steps jump g) = Ok jump
step_answer (Fails why) = Err (refusal_of why)

pub record MoveDone (entry leaves : List ℕ) (r : Result Bool Refusal) (o : Outcome) : Type 0 where
  pub answer : r ≡ step_answer o
  pub left : leaves ≡ step_leaves entry o

-- a step is told as its outcome says, and leaves the cells that its outcome leads to
pub record StepDone (entry leaves : List ℕ) (r : Result Stepped Refusal) (o : Outcome) : Type 0 where
  pub told : told_stepped r ≡ step_told o
  pub left : leaves ≡ step_leaves entry o

-- the returns in four cells
pub record Stack (rs : List ℕ) (r0 r1 r2 r3 : ℕ) : Type 0 where
  pub return0 : r0 ≡ get_or rs 0 0
  pub return1 : r1 ≡ get_or rs 1 0
  pub return2 : r2 ≡ get_or rs 2 0
  pub return3 : r3 ≡ get_or rs 3 0
  pub depth : length rs ≤ most_returns
  pub slots : are_returns rs ≡ true

-- going on by a way: 14 where the stack is at its limit, 15 past the end, else the new place
abbrev pub gone_answer : ℕ → Way → Result (Unit {0}) Refusal
gone_answer slots (Goes at rs) = pick (leb at slots) (Ok tt) (Err PastEnd)
gone_answer slots Stuck = Err AtLimit

abbrev pub gone_cells : ℕ → List ℕ → Way → List ℕ
gone_cells slots l (Goes at rs) = pick (leb at slots) (with_place l at rs) l
gone_cells slots l Stuck = l

pub record GoDone (entry leaves : List ℕ) (r : Result (Unit {0}) Refusal) (slots : ℕ) (w : Way) : Type 0 where
  pub answer : r ≡ gone_answer slots w
  pub left : leaves ≡ gone_cells slots entry w

-- the limit of the counters in these cells: their mode's
abbrev pub own_limit : List ℕ → ℕ
own_limit l = limit_of (mode_in l)

-- the rest of a step on the group in these cells, with the active processors after B_ELSE and the wishes as words
abbrev pub settled_in : ℕ → ℕ → ℕ → ℕ → Bool → ℕ → ℕ → List ℕ → Outcome
settled_in limit slots first second jump wish active l =
    settled limit slots first second jump (λ i. on i wish) (with_active l active) (group_of l)

-- the limit of a step of ops 1 to 4, which full mode alone has, or of op 0
abbrev pub limit_by : Bool → List ℕ → ℕ
limit_by true l = counter_limit
limit_by false l = own_limit l

-- and whether some counter is at it
abbrev pub some_at_limit_by : Bool → List ℕ → Bool
some_at_limit_by true l = some_at_limit_in l
some_at_limit_by false l = some_at_own_limit (mode_in l) l

-- a step on a slot's words but their op and their second word's gaps, with a loop's decision; where there is none the wishes decide
unfoldable pub decided_step : ℕ → ℕ → ℕ → ℕ → Option Bool → ℕ → ℕ → ℕ → Group → Outcome
decided_step limit slots first second decision alu predicate booleans g =
    let procs = turned_if (b_else first) g.procs in
    let wish = wish_of (jump_func first) (on (boolean_number second) booleans) alu predicate in
    pick (fits_first first)
    (settled limit slots first second (unwrap_or decision (decided (jump_any first) (λ i. is_active (procs i)) wish)) wish procs g)
    (Fails 13)

-- the cells with other loops
abbrev pub set_loops : List ℕ → ℕ → ℕ → ℕ → ℕ → List ℕ
set_loops l l0 l1 l2 l3 = set (set (set (set l 14 l0) 15 l1) 16 l2) 17 l3

-- a program in its two lent arrays, with the integer words lent beside it
abbrev pub program_of : List ℕ → List ℕ → ℕ → List ℕ → Program
program_of firsts seconds slots integers = record { firsts = firsts; seconds = seconds; slots = slots; integers = integers }

-- the step, and the run, of the group in these cells, in their mode, under the program in these arrays
abbrev pub step_in : List ℕ → List ℕ → ℕ → List ℕ → ℕ → ℕ → ℕ → List ℕ → Outcome
step_in firsts seconds slots cells alu predicate booleans integers =
    group_step (mode_in cells) (program_of firsts seconds slots integers) alu predicate booleans (group_of cells)

abbrev pub run_in : List ℕ → List ℕ → ℕ → List ℕ → List ℕ → ℕ → List ℕ → Run
run_in firsts seconds slots cells masks booleans integers =
    group_run (mode_in cells) (program_of firsts seconds slots integers) booleans masks (group_of cells)
