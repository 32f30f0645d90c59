-- A step, a run and a group's cells as a host has them, in the order of document 01 and request 4, in either mode of request 7. Assumes nothing.
use Rattle.std.specs.Prelude.{◌≡◌, Bool, true, false, List, [], ◌∷◌, ℕ, ◌<◌, ◌≤◌, eqb, get_or, Float}
use Rattle.laws.specs.Choice.{◌and◌, pick}
use Rattle.laws.specs.Masks.{on}
use Rattle.loops.specs.Loops.{Opened, Turn, Turns, NoRoom, NoWord, turn_of}
use Rattle.group.specs.Proc.{Proc, is_live, is_active, decided, branched}
use Rattle.group.specs.Modes.{Mode, limit_of}
use Rattle.group.specs.Group.{
  Program,
  Group,
  Outcome,
  Steps,
  Fails,
  Way,
  Goes,
  Stuck,
  Run,
  Makes,
  Breaks,
  once_more,
  permits,
  allowed,
  allowed_loop,
  a_op,
  jump_func,
  pop_count,
  branch_op,
  boolean_number,
  jump_address,
  turned_if,
  wish_of,
  over_limit,
  way_of,
  b_else,
  jump_any,
  ended,
  group_step,
  group_run,
}
use Rattle.group.specs.Cells.{mode_in, group_of}
use Rattle.flow.specs.Looping.{op_at, integer_at}
use Rattle.kill.specs.Kill.{kill_of}
use Rattle.group_rooms.specs.Rooms.{BeginCrosses, StepCrosses, RunCrosses}
use Rattle.register_rooms.specs.Rooms.{KillCrosses}
use Rattle.judges_group.specs.Judged.{JudgesGroup}

-- the words of the slot that a group stands at
abbrev pub first_at : Program → Group → ℕ
first_at p g = get_or p.firsts g.position 0

abbrev pub second_at : Program → Group → ℕ
second_at p g = get_or p.seconds g.position 0

-- the slot's words are allowed: the first by the mode, as request 7 says, and both: those of op 0 as document 01 says, those of ops 1 to
-- 4 as request 4 does
abbrev pub fitting : Mode → Program → Group → Bool
fitting mode p g =
    permits mode (first_at p g) and
    pick (eqb (op_at p g) 0) (allowed (first_at p g) (second_at p g)) (allowed_loop (first_at p g) (second_at p g))

-- 1. the processors once B_ELSE has done its work
abbrev pub elsed : Program → Group → ℕ → Proc
elsed p g = turned_if (b_else (first_at p g)) g.procs

module _ (mode : Mode) (p : Program) (alu predicate booleans : ℕ) (g : Group) where
  -- 2. each processor's wish
  abbrev pub wishes : ℕ → Bool
  wishes = wish_of (jump_func (first_at p g)) (on (boolean_number (second_at p g)) booleans) alu predicate

  -- 3. the decision that the wishes come to
  abbrev pub wanted : Bool
  wanted = decided (jump_any (first_at p g)) (λ i. is_active (elsed p g i)) wishes

  -- what decides, and the open loops then: with op 0 the wishes, which leave the loops as they are, with ops 1 to 4 the loops, whose
  -- "decisions override the processors' wishes"; or 13 for an integer word, or 14 for the loops
  abbrev pub decision : Turn
  decision = pick (eqb (op_at p g) 0) (Turns wanted g.loops) (turn_of (op_at p g) (integer_at p g) g.loops)

  -- 5. where the step goes on, and the returns stored then
  abbrev pub next : Bool → Way
  next jump = way_of (a_op (first_at p g)) jump g.position (jump_address (second_at p g)) g.returns

  -- a step that is made, in document 01's order
  pub record Made (jump : Bool) (g' : Group) : Type 0 where
    -- the program hasn't ended, and the slot's words are allowed
    pub running : g.position < p.slots
    pub fields : fitting mode p g ≡ true
    -- 2. and 3. the decision is that of the processors' wishes, once 1. is done, or the loops'; and the loops then
    pub decides : decision ≡ Turns jump g'.loops
    -- 4. no counter is at its limit where it must gain 1, and each processor does what the operation says
    pub counters : over_limit (limit_of mode) (branch_op jump (first_at p g)) (elsed p g) ≡ false
    pub each_processor :
        (i : ℕ) → g'.procs i ≡ branched (branch_op jump (first_at p g)) (pop_count (first_at p g)) jump (wishes i) (elsed p g i)
    -- 5. the return stack and the place that it leads to
    pub stack : next jump ≡ Goes g'.position g'.returns
    -- 6. "The next position may equal N, which ends the program"
    pub place : g'.position ≤ p.slots

  -- a step that is refused. "Order: 16, 13, 14, 15."
  pub data Refused : ℕ → Type 0 where
    has_ended : p.slots ≤ g.position → Refused 16
    -- a store has 512 slots
    too_many : g.position < p.slots → 512 < p.slots → Refused 15
    bad_field : g.position < p.slots → fitting mode p g ≡ false → Refused 13
    bad_integer : g.position < p.slots → fitting mode p g ≡ true → decision ≡ NoWord → Refused 13
    loops_at_limit : g.position < p.slots → fitting mode p g ≡ true → decision ≡ NoRoom → Refused 14
    counter_at_limit : g.position < p.slots → fitting mode p g ≡ true → (jump : Bool) (loops : List Opened) → decision ≡ Turns jump loops →
        over_limit (limit_of mode) (branch_op jump (first_at p g)) (elsed p g) ≡ true → Refused 14
    stack_at_limit : g.position < p.slots → fitting mode p g ≡ true → (jump : Bool) (loops : List Opened) → decision ≡ Turns jump loops →
        over_limit (limit_of mode) (branch_op jump (first_at p g)) (elsed p g) ≡ false → next jump ≡ Stuck → Refused 14
    past_end : g.position < p.slots → fitting mode p g ≡ true → (jump : Bool) (loops : List Opened) → decision ≡ Turns jump loops →
        over_limit (limit_of mode) (branch_op jump (first_at p g)) (elsed p g) ≡ false →
        (at : ℕ) (returns : List ℕ) → next jump ≡ Goes at returns → p.slots < at → Refused 15

-- a run is its steps: "alu then predicate for each step"
module _ (mode : Mode) (p : Program) (booleans : ℕ) where
  pub data Walk : List ℕ → Group → Run → Type 0 where
    -- "It ends with the list"
    list_out : (g : Group) → Walk [] g (Makes 0 g)
    -- "a last alu without its predicate counts as the list's end"
    half_pair : (alu : ℕ) (g : Group) → Walk (alu ∷ []) g (Makes 0 g)
    -- "or with the program; masks left over aren't read"
    program_out : (alu predicate : ℕ) (masks : List ℕ) (g : Group) → ended p g ≡ true → Walk (alu ∷ (predicate ∷ masks)) g (Makes 0 g)
    one_more : (alu predicate : ℕ) (masks : List ℕ) (g g' : Group) (jump : Bool) (r : Run) → ended p g ≡ false →
        group_step mode p alu predicate booleans g ≡ Steps jump g' → Walk masks g' r → Walk (alu ∷ (predicate ∷ masks)) g (once_more r)
    -- "If any step is refused, the whole run gets that number"
    step_fails : (alu predicate : ℕ) (masks : List ℕ) (g : Group) (why : ℕ) → ended p g ≡ false →
        group_step mode p alu predicate booleans g ≡ Fails why → Walk (alu ∷ (predicate ∷ masks)) g (Breaks why)

  -- "it then gets 16, whatever the list"; else it is its steps
  pub data Ran (masks : List ℕ) (g : Group) : Run → Type 0 where
    over : ended p g ≡ true → Ran masks g (Breaks 16)
    walked : (r : Run) → ended p g ≡ false → Walk masks g r → Ran masks g r

-- two masks that say the same of every processor in the group
pub record Agree (g : Group) (m m' : ℕ) : Type 0 where
  pub same_bits : (i : ℕ) → is_live (g.procs i) ≡ true → on i m ≡ on i m'

-- two lists of masks that do, mask by mask
abbrev pub AllAgree : Group → List ℕ → List ℕ → Type 0
AllAgree g [] [] = Unit {0}
AllAgree g [] (m' ∷ ms') = ⊥
AllAgree g (m ∷ ms) [] = ⊥
AllAgree g (m ∷ ms) (m' ∷ ms') = Agree g m m' × AllAgree g ms ms'

-- a group's cells that came from the calls: a begin that was accepted, and steps, runs and kills, refused or not; or cells that were kept
-- elsewhere, of which egretfold_group_check said yes
pub data Handed : List ℕ → Type 0 where
  begun : (size mode : ℕ) (cells cells' : List ℕ) → BeginCrosses size mode 0 cells cells' → Handed cells'
  stepped : {cells : List ℕ} → Handed cells → (p : Program) (alu predicate booleans r : ℕ) (cells' taken taken' : List ℕ) →
      StepCrosses (group_step (mode_in cells) p alu predicate booleans (group_of cells)) r cells cells' taken taken' → Handed cells'
  ran : {cells : List ℕ} → Handed cells → (p : Program) (booleans : ℕ) (masks : List ℕ) (r : ℕ) (cells' report report' : List ℕ) →
      RunCrosses (group_run (mode_in cells) p booleans masks (group_of cells)) r cells cells' report report' → Handed cells'
  killed : {cells : List ℕ} → Handed cells → (slots : ℕ) (registers : List Float) (mask r : ℕ) (cells' room room' : List ℕ) →
      KillCrosses (kill_of slots registers mask (group_of cells)) r cells cells' room room' → Handed cells'
  checked : (cells : List ℕ) → JudgesGroup cells true → Handed cells
