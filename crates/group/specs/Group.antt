-- Document 01, "Stepping a group", request 4, "Loops in the stepper", and request 7, "Partial flow control": the words of a slot, the
-- state of a group, a step and a run. The mode is no part of the state here: a step and a run take it, as they take the program, so that
-- "flow states that differ only in the mode" are one state under two modes. (Request 11's kill, of which the state has the mask, is
-- crates/kill's.) Assumes nothing.
use Rattle.std.specs.Prelude.{Bool, true, List, [], ◌∷◌, ℕ, suc, ◌+◌, eqb, leb, ltb, length, get_or}
use Rattle.laws.specs.Choice.{◌and◌, pick}
use Rattle.laws.specs.Below.{some, count, least}
use Rattle.laws.specs.Masks.{digit, on}
use Rattle.refusal.specs.Told.{Told, gives, refuses}
use Rattle.loops.specs.Loops.{field, Opened, Turn, Turns, NoRoom, NoWord, word_at, turn_of}
use Rattle.group.specs.Modes.{Mode, Full, Partial, limit_of, is_mode}
use Rattle.group.specs.Proc.{Proc, Active, Absent, is_active, turned, wants, decided, at_limit, increment, branched, most_processors}

-- "First word: op 3:0 (only 0, JUMP, here), B_ELSE 4, JUMP_ANY 5, A_OP 7:6 (0 none, 1 pop, 2 push), JUMP_FUNC 15:8, B_POP_CNT
-- 20:16, B_OP0 25:24, B_OP1 27:26 (0 none, 1 decrement, 2 increment). Second: boolean number 4:0, jump address 24:16. Other
-- bits and codes: 13."
unfoldable pub allowed : ℕ → ℕ → Bool
allowed first second =
    eqb (field 3 0 first) 0 and leb (field 7 6 first) 2 and eqb (field 23 21 first) 0 and leb (field 25 24 first) 2 and
    leb (field 27 26 first) 2 and eqb (field 31 28 first) 0 and eqb (field 15 5 second) 0 and eqb (field 31 25 second) 0

-- Request 4's words: "ops 1 LOOP, 2 ENDLOOP, 3 REP, 4 ENDREP, with the integer number in second-word bits 12:8 of ops 1 and 3".
-- Every other field is as of op 0; ops 2 and 4 have no integer number, so that these bits are other bits.
unfoldable pub fits_first : ℕ → Bool
fits_first first =
    leb (field 7 6 first) 2 and eqb (field 23 21 first) 0 and leb (field 25 24 first) 2 and leb (field 27 26 first) 2 and
    eqb (field 31 28 first) 0

-- the second word of op 0, and of ops 1 to 4
unfoldable pub plain_second : ℕ → Bool
plain_second second = eqb (field 15 5 second) 0 and eqb (field 31 25 second) 0

unfoldable pub fits_second : Bool → ℕ → Bool
fits_second opens second =
    eqb (field 7 5 second) 0 and eqb (field 15 13 second) 0 and eqb (field 31 25 second) 0 and
    pick opens true (eqb (field 12 8 second) 0)

-- ops 1 and 3 are the odd ones
unfoldable pub allowed_loop : ℕ → ℕ → Bool
allowed_loop first second = leb (field 3 0 first) 4 and fits_first first and fits_second (on 0 first) second

abbrev pub op_of : ℕ → ℕ
op_of first = field 3 0 first

abbrev pub integer_number : ℕ → ℕ
integer_number second = field 12 8 second

-- the fields by name: B_ELSE, JUMP_ANY, A_OP, JUMP_FUNC, B_POP_CNT, B_OP1 on a jump and B_OP0 on a stay, boolean number, jump
-- address
abbrev pub b_else : ℕ → Bool
b_else first = on 4 first

abbrev pub jump_any : ℕ → Bool
jump_any first = on 5 first

abbrev pub a_op : ℕ → ℕ
a_op first = field 7 6 first

abbrev pub jump_func : ℕ → ℕ
jump_func first = field 15 8 first

abbrev pub pop_count : ℕ → ℕ
pop_count first = field 20 16 first

abbrev pub branch_op : Bool → ℕ → ℕ
branch_op jump first = pick jump (field 27 26 first) (field 25 24 first)

abbrev pub boolean_number : ℕ → ℕ
boolean_number second = field 4 0 second

abbrev pub jump_address : ℕ → ℕ
jump_address second = field 24 16 second

-- Request 7: "ops 1 to 4 and A_OP other than 0 get 13" in partial mode, on a stay too, and before the integer word is looked at
abbrev pub permits : Mode → ℕ → Bool
permits Full first = true
permits Partial first = eqb (op_of first) 0 and eqb (a_op first) 0

-- the state of a group: processor `i`, absent from 32 on; the position; the stored returns, the last one first; and by request 4
-- the open loops, the innermost first ("The flow state gains the loop stack and aL": aL is the loops' `shown_aL`); and by request 11
-- "the mask of the killed", who are absent too
pub record Group : Type 0 where
  pub procs : ℕ → Proc
  pub position : ℕ
  pub returns : List ℕ
  pub loops : List Opened
  pub killed : ℕ

-- "A group has 1 to 32 processors (else 13), all active at the start, position 0, empty stack"
unfoldable pub fresh : ℕ → Group
fresh size = record { procs = λ i. pick (ltb i size) Active Absent; position = 0; returns = []; loops = []; killed = 0 }

-- the size is one that a group may have
unfoldable pub is_group_size : ℕ → Bool
is_group_size size = leb 1 size and leb size most_processors

-- and so is the mode: "Add it as a mode chosen at the start"; what another number gets isn't said, and a group's start knows only 13
unfoldable pub may_begin : ℕ → ℕ → Bool
may_begin size mode = is_group_size size and is_mode mode

-- the answer of a step: the decision and the state after it, or the refusal
pub data Outcome : Type 0 where
  Steps : Bool → Group → Outcome
  Fails : ℕ → Outcome

-- 1. the group once B_ELSE has done its work
unfoldable pub turned_if : Bool → (ℕ → Proc) → ℕ → Proc
turned_if else procs i = pick else (turned (procs i)) (procs i)

-- 2. each processor's wish, by its bits of the two masks and the step's boolean
unfoldable pub wish_of : ℕ → Bool → ℕ → ℕ → ℕ → Bool
wish_of func boolean alu predicate i = wants func (on i alu) (on i predicate) boolean

-- 4. "Increment: each inactive counter gains 1 (from 31: 14)": one at the limit is enough
unfoldable pub over_limit : ℕ → ℕ → (ℕ → Proc) → Bool
over_limit limit op procs = eqb op increment and some most_processors (λ i. at_limit limit (procs i))

-- where a step goes on, with the returns stored then; or the return stack is at its limit
pub data Way : Type 0 where
  Goes : ℕ → List ℕ → Way
  Stuck : Way

-- "pop goes to the stored place (empty: 14)"
abbrev pub popped : List ℕ → Way
popped [] = Stuck
popped (r ∷ rs) = Goes r rs

-- "empty stack of at most 4 returns"
abbrev pub most_returns : ℕ
most_returns = 4

-- "push stores position + 1 (full: 14)"
abbrev pub pushed : ℕ → ℕ → List ℕ → Way
pushed position address returns =
    pick (ltb (length returns) most_returns) (Goes address ((position + 1) ∷ returns)) Stuck

-- A_OP's codes: "0 none, 1 pop, 2 push"
abbrev pub pop_op : ℕ
pop_op = 1

abbrev pub push_op : ℕ
push_op = 2

-- 5. "On a jump: push stores position + 1 (full: 14); pop goes to the stored place (empty: 14). On a stay neither happens."
unfoldable pub way_of : ℕ → Bool → ℕ → ℕ → List ℕ → Way
way_of aop jump position address returns =
    pick jump
    (pick (eqb aop pop_op) (popped returns)
    (pick (eqb aop push_op) (pushed position address returns) (Goes address returns)))
    (Goes (position + 1) returns)

-- 6. "The next position may equal N, which ends the program; above N is 15."
-- `procs` are the processors then; loops and killed are the group's
abbrev pub arrived : ℕ → Bool → (ℕ → Proc) → Group → Way → Outcome
arrived slots jump procs g Stuck = Fails 14
arrived slots jump procs g (Goes next returns) =
    pick (leb next slots)
    (Steps jump (record { procs = procs; position = next; returns = returns; loops = g.loops; killed = g.killed })) (Fails 15)

-- 4. to 6., once the decision is made; `procs` are those after B_ELSE
unfoldable pub settled : ℕ → ℕ → ℕ → ℕ → Bool → (ℕ → Bool) → (ℕ → Proc) → Group → Outcome
settled limit slots first second jump wish procs g =
    let op = branch_op jump first in
    pick (over_limit limit op procs) (Fails 14)
    (arrived slots jump (λ i. branched op (pop_count first) jump (wish i) (procs i)) g
    (way_of (a_op first) jump g.position (jump_address second) g.returns))

-- 1. to 3., on the slot's two words: document 01's step, which allows op 0 alone
unfoldable pub jump_step : ℕ → ℕ → ℕ → ℕ → ℕ → ℕ → ℕ → Group → Outcome
jump_step limit slots first second alu predicate booleans g =
    let procs = turned_if (b_else first) g.procs in
    let wish = wish_of (jump_func first) (on (boolean_number second) booleans) alu predicate in
    pick (allowed first second)
    (settled limit slots first second (decided (jump_any first) (λ i. is_active (procs i)) wish) wish procs g)
    (Fails 13)

-- the refusals of a turn, 14 and 13, or what its decision and its loops lead to
abbrev pub on_turn : Turn → (Bool → List Opened → Outcome) → Outcome
on_turn (Turns jump loops) next = next jump loops
on_turn NoRoom next = Fails 14
on_turn NoWord next = Fails 13

abbrev pub with_loops : Group → List Opened → Group
with_loops g loops = record { procs = g.procs; position = g.position; returns = g.returns; loops = loops; killed = g.killed }

-- "These decisions override the processors' wishes; branch and return work stays as in 01.": the loop decides, before the rest
-- of the step, which an increment measures the wishes against
unfoldable pub loop_step : ℕ → ℕ → ℕ → ℕ → ℕ → ℕ → ℕ → ℕ → Group → Outcome
loop_step limit slots word first second alu predicate booleans g =
    let procs = turned_if (b_else first) g.procs in
    let wish = wish_of (jump_func first) (on (boolean_number second) booleans) alu predicate in
    pick (allowed_loop first second)
    (on_turn (turn_of (op_of first) word g.loops) (λ jump loops. settled limit slots first second jump wish procs (with_loops g loops)))
    (Fails 13)

-- a step on a slot's two words: "With op 0 every old answer stays", and the other ops take an integer word "from a lent list"; by
-- request 7 the mode may forbid the first word, and sets the limit of the counters
unfoldable pub slot_step : Mode → ℕ → List ℕ → ℕ → ℕ → ℕ → ℕ → ℕ → Group → Outcome
slot_step mode slots integers first second alu predicate booleans g =
    pick (permits mode first)
    (pick (eqb (op_of first) 0) (jump_step (limit_of mode) slots first second alu predicate booleans g)
    (loop_step (limit_of mode) slots (word_at (integer_number second) integers) first second alu predicate booleans g))
    (Fails 13)

-- "A program is a store of 512 slots"
abbrev pub store_slots : ℕ
store_slots = 512

-- a program: the first and the second words of its slots, how many slots run (document 01's N), and the integer words lent with it
pub record Program : Type 0 where
  pub firsts : List ℕ
  pub seconds : List ℕ
  pub slots : ℕ
  pub integers : List ℕ

-- "A program has ended when the position is N or above"
unfoldable pub ended : Program → Group → Bool
ended program g = leb program.slots g.position

-- "Order: 16, 13, 14, 15.": of a loop's word 13 for the words and the integer word, 14 for the loops, then for the counters and the
-- returns, and 15. A store has 512 slots: where more are to run, that is no program and gets 15 (house; `load`
-- gives no such number).
unfoldable pub group_step : Mode → Program → ℕ → ℕ → ℕ → Group → Outcome
group_step mode program alu predicate booleans g =
    pick (ended program g) (Fails 16)
    (pick (leb program.slots store_slots)
    (slot_step mode program.slots program.integers (get_or program.firsts g.position 0) (get_or program.seconds g.position 0)
    alu predicate booleans g)
    (Fails 15))

-- what a run comes to: the steps made and the state after them, or the refusal
pub data Run : Type 0 where
  Makes : ℕ → Group → Run
  Breaks : ℕ → Run

abbrev pub once_more : Run → Run
once_more (Makes n g) = Makes (suc n) g
once_more (Breaks why) = Breaks why

abbrev pub go_on : Outcome → (Group → Run) → Run
go_on (Steps jump g) rest = once_more (rest g)
go_on (Fails why) rest = Breaks why

-- "a list of masks, alu then predicate for each step (a last alu without its predicate counts as the list's end)"; "It ends
-- with the list or with the program; masks left over aren't read. If any step is refused, the whole run gets that number"
unfoldable pub group_steps : Mode → Program → ℕ → List ℕ → Group → Run
group_steps mode program booleans [] g = Makes 0 g
group_steps mode program booleans (alu ∷ []) g = Makes 0 g
group_steps mode program booleans (alu ∷ (predicate ∷ masks)) g =
    pick (ended program g) (Makes 0 g)
    (go_on (group_step mode program alu predicate booleans g) (λ g'. group_steps mode program booleans masks g'))

-- "it then gets 16, whatever the list"
unfoldable pub group_run : Mode → Program → ℕ → List ℕ → Group → Run
group_run mode program booleans masks g =
    pick (ended program g) (Breaks 16) (group_steps mode program booleans masks g)

-- "the first active processor (32 if none) and the number of processors active"
unfoldable pub first_active : Group → ℕ
first_active g = least most_processors (λ i. is_active (g.procs i))

unfoldable pub number_active : Group → ℕ
number_active g = count most_processors (λ i. is_active (g.procs i))

-- what a step and a run tell: 1 for a jump, 0 for a stay, and the next position; steps made, first active, number active
abbrev pub step_told : Outcome → Told
step_told (Steps jump g) = gives (digit jump ∷ g.position ∷ [])
step_told (Fails why) = refuses why

abbrev pub run_told : Run → Told
run_told (Makes n g) = gives (n ∷ first_active g ∷ number_active g ∷ [])
run_told (Breaks why) = refuses why

-- a fresh group tells nothing, and another size or mode 13
unfoldable pub begin_told : ℕ → ℕ → Told
begin_told size mode = pick (may_begin size mode) (gives []) (refuses 13)
