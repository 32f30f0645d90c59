-- Request 4: what is said of a loop as a whole: a step of ops 1 to 4 is led by its turn, a close made several times over, and the
-- way of a group through a loop's body and its close. Assumes nothing.
use Rattle.std.specs.Prelude.{◌≡◌, Bool, true, false, List, ◌∷◌, ℕ, zero, suc, ◌-◌, ◌<◌, ◌≤◌, eqb, ltb, get_or}
use Rattle.loops.specs.Loops.{field, Opened, Turn, Turns, NoRoom, NoWord, loop_op, endloop_op, rep_op, endrep_op, entry_of, word_at, closing}
use Rattle.group.specs.Modes.{Mode}
use Rattle.group.specs.Group.{Group, Outcome, Steps, Fails, Program, op_of, integer_number, group_step}

-- the op of the slot at the position
abbrev pub op_at : Program → Group → ℕ
op_at program g = op_of (get_or program.firsts g.position 0)

-- the integer word that it names
abbrev pub integer_at : Program → Group → ℕ
integer_at program g = word_at (integer_number (get_or program.seconds g.position 0)) program.integers

-- the count of that word: "count in bits 7:0"
abbrev pub count_at : Program → Group → ℕ
count_at program g = field 7 0 (integer_at program g)

-- the op of an opening: LOOP, or REP
abbrev pub open_op : Bool → ℕ
open_op true = loop_op
open_op false = rep_op

-- the op of a close: ENDLOOP, or ENDREP
abbrev pub close_op : Bool → ℕ
close_op true = endloop_op
close_op false = endrep_op

-- a step that isn't refused has its turn's decision and its turn's loops; where the turn is refused, so is the step
abbrev pub LedBy : Turn → Outcome → Type 0
LedBy (Turns jump loops) (Steps j g) = (j ≡ jump) × (g.loops ≡ loops)
LedBy (Turns jump loops) (Fails why) = Unit {0}
LedBy NoRoom (Steps j g) = ⊥
LedBy NoRoom (Fails why) = Unit {0}
LedBy NoWord (Steps j g) = ⊥
LedBy NoWord (Fails why) = Unit {0}

-- what a turn leads to where it jumps
abbrev pub on_jump : Turn → (List Opened → Turn) → Turn
on_jump (Turns true loops) next = next loops
on_jump (Turns false loops) next = Turns false loops
on_jump NoRoom next = NoRoom
on_jump NoWord next = NoWord

-- a close, made k times over as long as it jumps
abbrev pub closings : Bool → ℕ → List Opened → Turn
closings loop zero loops = Turns true loops
closings loop (suc k) loops = on_jump (closings loop k loops) (closing loop)

-- a group goes k times through a loop's body and its close, and each time the close jumps; `Body g c` says that the body leads from
-- g, at its start, to c, at the close
pub data Turning (mode : Mode) (program : Program) (booleans : ℕ) (Body : Group → Group → Type 0) : ℕ → Group → Group → Type 0 where
  Begun : (g : Group) → Turning mode program booleans Body zero g g
  Again :
      (k : ℕ) (g s c s' : Group) (alu predicate : ℕ) → Turning mode program booleans Body k g s → Body s c →
      group_step mode program alu predicate booleans c ≡ Steps true s' → Turning mode program booleans Body (suc k) g s'

-- a body inside its loop: it comes back to a close of the loop's kind, with the loops as they were
pub record Inside (program : Program) (loop : Bool) (Body : Group → Group → Type 0) : Type 1 where
  pub closes : (s c : Group) → Body s c → op_at program c ≡ close_op loop
  pub keeps : (s c : Group) → Body s c → c.loops ≡ s.loops

-- an opening that is made, with an integer word: "count 0 jumps; otherwise stay and push"
pub record Opens (loop : Bool) (w : ℕ) (loops : List Opened) (jump : Bool) (after : List Opened) : Type 0 where
  pub decision : jump ≡ eqb (field 7 0 w) 0
  pub skipped : field 7 0 w ≡ 0 → after ≡ loops
  pub pushed : 1 ≤ field 7 0 w → after ≡ entry_of loop w ∷ loops

-- a close that is made, of a loop of count n whose closes have jumped k times: k is below n; it jumps where k + 1 is below n, and stays
-- where k + 1 is n, and then the loops are those that were open before the loop
pub record Closes (n : ℕ) (loops : List Opened) (k : ℕ) (jump : Bool) (g' : Group) : Type 0 where
  pub fewer : k < n
  pub decision : jump ≡ ltb (suc k) n
  pub gone : jump ≡ false → g'.loops ≡ loops

-- from a body's start the body comes back, to a close that is made
pub record Comes (mode : Mode) (program : Program) (booleans : ℕ) (Body : Group → Group → Type 0) (s : Group) : Type 0 where
  pub close : Group
  pub back : Body s close
  pub alu : ℕ
  pub predicate : ℕ
  pub jump : Bool
  pub after : Group
  pub closed : group_step mode program alu predicate booleans close ≡ Steps jump after

-- a loop of count n, entered at g with `loops` open around it, has run its body n times: n - 1 closes jumped, one more time through the
-- body, and that close stayed
pub record RanThrough (mode : Mode) (program : Program) (booleans : ℕ) (Body : Group → Group → Type 0) (n : ℕ) (loops : List Opened) (g : Group) : Type 0 where
  pub start : Group
  pub turns : Turning mode program booleans Body (n - 1) g start
  pub close : Group
  pub back : Body start close
  pub alu : ℕ
  pub predicate : ℕ
  pub after : Group
  pub stays : group_step mode program alu predicate booleans close ≡ Steps false after
  pub gone : after.loops ≡ loops
