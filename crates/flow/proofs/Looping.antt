-- Request 4: a step of ops 1 to 4 is led by its turn, so a loop of count n around a body that stays inside it runs the body exactly n times,
-- and aL after k turns is its start and k steps. Assumes nothing.
use mathlib.Core.Path.{◌≡◌, refl, sym, ap, ◌∙◌, subst}
use mathlib.Core.Bool.{Bool, true, false}
use mathlib.Core.List.{List, ◌∷◌}
use Prim.Native.Nat.{ℕ, zero, suc, ◌+◌, ◌-◌, ◌*◌, ◌<◌, ◌≤◌}
use native.Mathlib.Nat.{suc-mul}
use native.Mathlib.Omega.{arith}
use lib.Dec.{eqb, leb, ltb}
use lib.ListN.{length, get_or}
use borrow.Author.Tests.{leb-true, leb-false, ltb-true, ltb-false, lt-ltb, le-ltb, eqb-true, eqb-false}
use Rattle.laws.specs.Choice.{pick}
use Rattle.laws.proofs.Choice.{Tested, holds, fails, tested, pick_yes, pick_no, by_pick}
use Rattle.loops.specs.Loops.{field, Opened, Looping, Repeating, Turn, Turns, NoRoom, NoWord, most_loops, entry_of, entering, opening, stays, moved_to, closing, turn_of, shown_aL}
use Rattle.group.specs.Proc.{Proc}
use Rattle.group.specs.Modes.{Mode, limit_of}
use Rattle.group.specs.Group.{Group, Steps, Fails, Program, Way, Goes, Stuck, op_of, a_op, branch_op, jump_address}
use Rattle.group.specs.Group.{permits, allowed_loop, over_limit, way_of, arrived, settled, on_turn, with_loops, loop_step, slot_step, ended, group_step}
use Rattle.flow.specs.Looping.{op_at, integer_at, count_at, open_op, close_op, LedBy, on_jump, closings, Turning, Begun, Again, Inside, Opens, Closes, Comes, RanThrough}

-- a refused step is led by any turn
fails_led : (t : Turn) (why : ℕ) → LedBy t (Fails why)
fails_led (Turns jump loops) why = tt
fails_led NoRoom why = tt
fails_led NoWord why = tt

arrived_led :
    (slots : ℕ) (jump : Bool) (procs : ℕ → Proc) (g : Group) (w : Way) →
    LedBy (Turns jump g.loops) (arrived slots jump procs g w)
arrived_led slots jump procs g Stuck = tt
arrived_led slots jump procs g (Goes next rs) = by_pick (LedBy (Turns jump g.loops)) (leb next slots) _ _ (λ e. (refl, refl)) (λ e. tt)

settled_led :
    (limit slots first second : ℕ) (jump : Bool) (wish : ℕ → Bool) (procs : ℕ → Proc) (g : Group) →
    LedBy (Turns jump g.loops) (settled limit slots first second jump wish procs g)
unfolding settled
settled_led limit slots first second jump wish procs g =
    by_pick (LedBy (Turns jump g.loops)) (over_limit limit (branch_op jump first) procs) _ _ (λ e. tt)
    (λ e. arrived_led slots jump _ g (way_of (a_op first) jump g.position (jump_address second) g.returns))

turn_led :
    (limit slots first second : ℕ) (wish : ℕ → Bool) (procs : ℕ → Proc) (g : Group) (t : Turn) →
    LedBy t (on_turn t (λ jump loops. settled limit slots first second jump wish procs (with_loops g loops)))
turn_led limit slots first second wish procs g (Turns jump loops) =
    settled_led limit slots first second jump wish procs (with_loops g loops)
turn_led limit slots first second wish procs g NoRoom = tt
turn_led limit slots first second wish procs g NoWord = tt

loop_led :
    (limit slots word first second alu predicate booleans : ℕ) (g : Group) →
    LedBy (turn_of (op_of first) word g.loops) (loop_step limit slots word first second alu predicate booleans g)
unfolding loop_step
loop_led limit slots word first second alu predicate booleans g =
    by_pick (LedBy (turn_of (op_of first) word g.loops)) (allowed_loop first second) _ _
    (λ a. turn_led limit slots first second _ _ g (turn_of (op_of first) word g.loops))
    (λ a. fails_led (turn_of (op_of first) word g.loops) 13)

-- "These decisions override the processors' wishes": whatever the masks, a step of another op than 0 is refused, or its decision and
-- its loops are those of its turn
pub step_led :
    (mode : Mode) (program : Program) (alu predicate booleans : ℕ) (g : Group) → (op_at program g ≡ 0 → ⊥) →
    LedBy (turn_of (op_at program g) (integer_at program g) g.loops) (group_step mode program alu predicate booleans g)
unfolding group_step slot_step ended
step_led mode program alu predicate booleans g n =
    by_pick (LedBy (turn_of (op_at program g) (integer_at program g) g.loops)) (leb program.slots g.position) _ _
    (λ e. fails_led (turn_of (op_at program g) (integer_at program g) g.loops) 16)
    (λ e.
    by_pick (LedBy (turn_of (op_at program g) (integer_at program g) g.loops)) (leb program.slots 512) _ _
    (λ h.
    by_pick (LedBy (turn_of (op_at program g) (integer_at program g) g.loops)) (permits mode (get_or program.firsts g.position 0)) _ _
    (λ p.
    by_pick (LedBy (turn_of (op_at program g) (integer_at program g) g.loops)) (eqb (op_at program g) 0) _ _
    (λ z. absurd (n (eqb-true (op_at program g) 0 z)))
    (λ z.
    loop_led (limit_of mode) program.slots (integer_at program g) (get_or program.firsts g.position 0)
    (get_or program.seconds g.position 0) alu predicate booleans g))
    (λ p. fails_led (turn_of (op_at program g) (integer_at program g) g.loops) 13))
    (λ h. fails_led (turn_of (op_at program g) (integer_at program g) g.loops) 15))

-- so where the step is made, its turn is known
led_steps : (t : Turn) (jump : Bool) (g : Group) → LedBy t (Steps jump g) → t ≡ Turns jump g.loops
led_steps (Turns j loops) jump g q = λ i. Turns (sym q.0 i) (sym q.1 i)
led_steps NoRoom jump g q = absurd q
led_steps NoWord jump g q = absurd q

-- a close is its kind's
turn_close : (loop : Bool) (word : ℕ) (loops : List Opened) → closing loop loops ≡ turn_of (close_op loop) word loops
unfolding turn_of pick
turn_close true word loops = refl
turn_close false word loops = refl

no_op : (loop : Bool) → close_op loop ≡ 0 → ⊥
no_op true e = omega arith
no_op false e = omega arith

one_less : (k n : ℕ) → suc k < n → n - k - 1 ≡ n - suc k
one_less k n h = omega arith

none_less : (n : ℕ) → n ≡ n - 0
none_less n = omega arith

-- a close that jumps, again and again
closings_rep : (k n : ℕ) (ls : List Opened) → k < n → closings false k (Repeating n ∷ ls) ≡ Turns true (Repeating (n - k) ∷ ls)
closings_rep zero n ls h = ap (λ (m : ℕ). Turns true (Repeating m ∷ ls)) (none_less n)
closings_rep (suc k) n ls h =
    ap (λ (t : Turn). on_jump t (closing false)) (closings_rep k n ls (omega arith)) ∙
    pick_yes _ _ (lt-ltb 1 (n - k) (omega arith)) ∙ ap (λ (m : ℕ). Turns true (Repeating m ∷ ls)) (one_less k n h)

closings_rep_done : (k n : ℕ) (ls : List Opened) → 1 ≤ n → n ≤ k → closings false k (Repeating n ∷ ls) ≡ Turns false ls
closings_rep_done zero n ls s h = absurd (nothing n s h)
  where
    nothing : (n : ℕ) → 1 ≤ n → n ≤ 0 → ⊥
    nothing n s h = omega arith
closings_rep_done (suc k) n ls s h = by (tested (leb n k)) (closings_rep_done k n ls s)
  where
    by : Tested (leb n k) → (n ≤ k → closings false k (Repeating n ∷ ls) ≡ Turns false ls) → closings false (suc k) (Repeating n ∷ ls) ≡ Turns false ls
    by (holds e) ih = ap (λ (t : Turn). on_jump t (closing false)) (ih (leb-true n k e))
    by (fails e) ih =
        let q : k < n = leb-false n k e in
        ap (λ (t : Turn). on_jump t (closing false)) (closings_rep k n ls q) ∙ pick_no _ _ (le-ltb 1 (n - k) (omega arith))

-- the turns of a LOOP: k are made and some are left, or all are made, or aL left 0 to 255
data Left (n step : ℕ) (ls : List Opened) (k : ℕ) : Turn → Type 0 where
  Some : (al : ℕ) → k < n → Left n step ls k (Turns true (Looping (n - k) al step ∷ ls))
  None : n ≤ k → Left n step ls k (Turns false ls)
  Out : Left n step ls k NoRoom

left_next : (n step : ℕ) (ls : List Opened) (k : ℕ) (t : Turn) → Left n step ls k t → Left n step ls (suc k) (on_jump t (closing true))
left_next n step ls k _ (Some al h) =
    by_pick (Left n step ls (suc k)) (ltb 1 (n - k)) _ _
    (λ e.
    let q : 1 < n - k = ltb-true 1 (n - k) e in
    by_pick (Left n step ls (suc k)) (stays al step) _ _
    (λ f.
    subst (λ (m : ℕ). Left n step ls (suc k) (Turns true (Looping m (moved_to al step) step ∷ ls))) (next k n q) (Some (moved_to al step) (fewer k n q)))
    (λ f. Out))
    (λ e. let q : n - k ≤ 1 = ltb-false 1 (n - k) e in None (over k n q))
  where
    next : (k n : ℕ) → 1 < n - k → n - suc k ≡ n - k - 1
    next k n q = omega arith

    fewer : (k n : ℕ) → 1 < n - k → suc k < n
    fewer k n q = omega arith

    over : (k n : ℕ) → n - k ≤ 1 → n ≤ suc k
    over k n q = omega arith
left_next n step ls k _ (None h) = None (later n k h)
  where
    later : (n k : ℕ) → n ≤ k → n ≤ suc k
    later n k h = omega arith
left_next n step ls k _ Out = Out

loop_left : (k n al step : ℕ) (ls : List Opened) → 1 ≤ n → Left n step ls k (closings true k (Looping n al step ∷ ls))
loop_left zero n al step ls s =
    subst (λ (m : ℕ). Left n step ls zero (Turns true (Looping m al step ∷ ls))) (all n) (Some al s)
  where
    all : (n : ℕ) → n - 0 ≡ n
    all n = omega arith
loop_left (suc k) n al step ls s = left_next n step ls k _ (loop_left k n al step ls s)

-- a group in a loop
module _ (mode : Mode) (program : Program) (booleans : ℕ) (loop : Bool) (Body : Group → Group → Type 0) (inside : Inside program loop Body) where
  -- the close of a body makes its loop's turn
  closed :
      (s c s' : Group) (jump : Bool) (alu predicate : ℕ) → Body s c → group_step mode program alu predicate booleans c ≡ Steps jump s' →
      closing loop s.loops ≡ Turns jump s'.loops
  closed s c s' jump alu predicate b e =
      turn_close loop (integer_at program c) s.loops ∙
      (λ i. turn_of (sym (inside.closes s c b) i) (integer_at program c) (sym (inside.keeps s c b) i)) ∙
      led_steps (turn_of (op_at program c) (integer_at program c) c.loops) jump s'
      (subst (LedBy (turn_of (op_at program c) (integer_at program c) c.loops)) e
      (step_led mode program alu predicate booleans c (λ z. no_op loop (sym (inside.closes s c b) ∙ z))))

  -- after k turns the loops are those of k closes
  pub turning_closes : {k : ℕ} {g s : Group} → Turning mode program booleans Body k g s → closings loop k g.loops ≡ Turns true s.loops
  turning_closes (Begun g) = refl
  turning_closes (Again k g s c s' alu predicate way b e) =
      ap (λ (t : Turn). on_jump t (closing loop)) (turning_closes way) ∙ closed s c s' true alu predicate b e

-- a turn's parts
turn_loops : (a b : List Opened) (i j : Bool) → Turns i a ≡ Turns j b → a ≡ b
turn_loops a b i j e = cc

turn_jumps : (a b : List Opened) → Turns true a ≡ Turns false b → ⊥
turn_jumps a b e = let z : ◌≡◌ {A = ℕ} 0 1 = cc in omega arith

turn_room : (j : Bool) (b : List Opened) → NoRoom ≡ Turns j b → ⊥
turn_room j b e = let z : ◌≡◌ {A = ℕ} 0 1 = cc in omega arith

-- by the turns that are left, a close that stays is the last of n
rep_last :
    (k n : ℕ) (ls x y : List Opened) → 1 ≤ n → closings false k (Repeating n ∷ ls) ≡ Turns true x → closing false x ≡ Turns false y →
    (suc k ≡ n) × (y ≡ ls)
rep_last k n ls x y s e f = by (tested (ltb k n))
  where
    last : (m : ℕ) → x ≡ Repeating m ∷ ls → Tested (ltb 1 m) → (m ≤ 1) × (y ≡ ls)
    last m q (holds t) =
        absurd (turn_jumps (Repeating (m - 1) ∷ ls) y (sym (ap (closing false) q ∙ pick_yes _ (Turns false ls) t) ∙ f))
    last m q (fails t) =
        (ltb-false 1 m t, sym (turn_loops ls y false false (sym (ap (closing false) q ∙ pick_no (Turns true (Repeating (m - 1) ∷ ls)) _ t) ∙ f)))

    by : Tested (ltb k n) → (suc k ≡ n) × (y ≡ ls)
    by (holds t) =
        let h : k < n = ltb-true k n t in
        let q = last (n - k) (turn_loops x (Repeating (n - k) ∷ ls) true true (sym e ∙ closings_rep k n ls h)) (tested (ltb 1 (n - k))) in
        (all k n h q.0, q.1)
      where
        all : (k n : ℕ) → k < n → n - k ≤ 1 → suc k ≡ n
        all k n h q = omega arith
    by (fails t) = absurd (turn_jumps x ls (sym e ∙ closings_rep_done k n ls s (ltb-false k n t)))

loop_last :
    (k n step : ℕ) (ls x y : List Opened) (t : Turn) → Left n step ls k t → t ≡ Turns true x → closing true x ≡ Turns false y →
    (suc k ≡ n) × (y ≡ ls)
loop_last k n step ls x y _ Out e f = absurd (turn_room true x e)
loop_last k n step ls x y _ (None h) e f = absurd (turn_jumps x ls (sym e))
loop_last k n step ls x y _ (Some al h) e f = by (tested (ltb 1 (n - k))) (tested (stays al step))
  where
    is : x ≡ Looping (n - k) al step ∷ ls
    is = sym (turn_loops (Looping (n - k) al step ∷ ls) x true true e)

    all : (k n : ℕ) → k < n → n - k ≤ 1 → suc k ≡ n
    all k n h q = omega arith

    inner : Turn
    inner = pick (stays al step) (Turns true (Looping (n - k - 1) (moved_to al step) step ∷ ls)) NoRoom

    by : Tested (ltb 1 (n - k)) → Tested (stays al step) → (suc k ≡ n) × (y ≡ ls)
    by (holds a) (holds b) =
        absurd
        (turn_jumps (Looping (n - k - 1) (moved_to al step) step ∷ ls) y
        (sym (ap (closing true) is ∙ pick_yes inner (Turns false ls) a ∙ pick_yes _ NoRoom b) ∙ f))
    by (holds a) (fails b) =
        absurd
        (turn_room false y
        (sym
        (ap (closing true) is ∙ pick_yes inner (Turns false ls) a ∙
        pick_no (Turns true (Looping (n - k - 1) (moved_to al step) step ∷ ls)) _ b) ∙
        f))
    by (fails a) b =
        (all k n h (ltb-false 1 (n - k) a), sym (turn_loops ls y false false (sym (ap (closing true) is ∙ pick_no inner (Turns false ls) a) ∙ f)))

-- a loop of count n around a body that stays inside it runs the body n times: k closes jump, one more stays, and then k + 1 is n and
-- the loop is gone
rep_times :
    (mode : Mode) (program : Program) (booleans : ℕ) (Body : Group → Group → Type 0) → Inside program false Body →
    (n : ℕ) (ls : List Opened) (k : ℕ) (g s c g' : Group) (alu predicate : ℕ) → 1 ≤ n → g.loops ≡ Repeating n ∷ ls →
    Turning mode program booleans Body k g s → Body s c → group_step mode program alu predicate booleans c ≡ Steps false g' →
    (suc k ≡ n) × (g'.loops ≡ ls)
rep_times mode program booleans Body inside n ls k g s c g' alu predicate h e way b last =
    rep_last k n ls s.loops g'.loops h (ap (closings false k) (sym e) ∙ turning_closes mode program booleans false Body inside way)
    (closed mode program booleans false Body inside s c g' false alu predicate b last)

loop_times :
    (mode : Mode) (program : Program) (booleans : ℕ) (Body : Group → Group → Type 0) → Inside program true Body →
    (n al step : ℕ) (ls : List Opened) (k : ℕ) (g s c g' : Group) (alu predicate : ℕ) → 1 ≤ n → g.loops ≡ Looping n al step ∷ ls →
    Turning mode program booleans Body k g s → Body s c → group_step mode program alu predicate booleans c ≡ Steps false g' →
    (suc k ≡ n) × (g'.loops ≡ ls)
loop_times mode program booleans Body inside n al step ls k g s c g' alu predicate h e way b last =
    loop_last k n step ls s.loops g'.loops _ (loop_left k n al step ls h)
    (ap (closings true k) (sym e) ∙ turning_closes mode program booleans true Body inside way)
    (closed mode program booleans true Body inside s c g' false alu predicate b last)

-- after k turns k is below n: the n-th close can't jump
pub rep_fewer :
    (mode : Mode) (program : Program) (booleans : ℕ) (Body : Group → Group → Type 0) → Inside program false Body →
    (n : ℕ) (ls : List Opened) (k : ℕ) (g s : Group) → 1 ≤ n → g.loops ≡ Repeating n ∷ ls → Turning mode program booleans Body k g s → k < n
rep_fewer mode program booleans Body inside n ls k g s h e way = by (tested (ltb k n))
  where
    is : closings false k (Repeating n ∷ ls) ≡ Turns true s.loops
    is = ap (closings false k) (sym e) ∙ turning_closes mode program booleans false Body inside way

    by : Tested (ltb k n) → k < n
    by (holds t) = ltb-true k n t
    by (fails t) = absurd (turn_jumps s.loops ls (sym is ∙ closings_rep_done k n ls h (ltb-false k n t)))

loop_some : (k n step : ℕ) (ls x : List Opened) (t : Turn) → Left n step ls k t → t ≡ Turns true x → k < n
loop_some k n step ls x _ (Some al h) e = h
loop_some k n step ls x _ (None h) e = absurd (turn_jumps x ls (sym e))
loop_some k n step ls x _ Out e = absurd (turn_room true x e)

pub loop_fewer :
    (mode : Mode) (program : Program) (booleans : ℕ) (Body : Group → Group → Type 0) → Inside program true Body →
    (n al step : ℕ) (ls : List Opened) (k : ℕ) (g s : Group) → 1 ≤ n → g.loops ≡ Looping n al step ∷ ls →
    Turning mode program booleans Body k g s → k < n
loop_fewer mode program booleans Body inside n al step ls k g s h e way =
    loop_some k n step ls s.loops _ (loop_left k n al step ls h)
    (ap (closings true k) (sym e) ∙ turning_closes mode program booleans true Body inside way)

-- so each close's decision is known: where k closes have jumped, the next one that is made jumps if k + 1 is below n, and else stays
decides :
    (k n : ℕ) (jump : Bool) → (jump ≡ true → suc k < n) → (jump ≡ false → suc k ≡ n) → jump ≡ ltb (suc k) n
decides k n true more last = sym (lt-ltb (suc k) n (more refl))
decides k n false more last = sym (le-ltb (suc k) n (at k n (last refl)))
  where
    at : (k n : ℕ) → suc k ≡ n → n ≤ suc k
    at k n e = omega arith

-- a loop of either kind, from its opening on
entry_word : (loop : Bool) (word : ℕ) (loops : List Opened) → opening loop word loops ≡ turn_of (open_op loop) word loops
unfolding turn_of pick
entry_word true word loops = refl
entry_word false word loops = refl

no_open_op : (loop : Bool) → open_op loop ≡ 0 → ⊥
no_open_op true e = omega arith
no_open_op false e = omega arith

turn_same_jump : (a b : List Opened) (i j : Bool) → Turns i a ≡ Turns j b → i ≡ j
turn_same_jump a b i j e = cc

turn_word : (j : Bool) (b : List Opened) → NoWord ≡ Turns j b → ⊥
turn_word j b e = let z : ◌≡◌ {A = ℕ} 0 1 = cc in omega arith

opening_made :
    (loop : Bool) (w : ℕ) (ls : List Opened) (jump : Bool) (after : List Opened) → opening loop w ls ≡ Turns jump after → Opens loop w ls jump after
unfolding opening entering
opening_made loop w ls jump after e = word (tested (eqb (field 31 24 w) 0))
  where
    room : entering loop w ls ≡ Turns jump after → eqb (field 7 0 w) 0 ≡ false → Tested (ltb (length ls) most_loops) → Opens loop w ls jump after
    room q z (holds t) =
        let p : Turns false (entry_of loop w ∷ ls) ≡ Turns jump after = sym (pick_no _ _ z ∙ pick_yes _ _ t) ∙ q in
        record {
          decision = sym (turn_same_jump (entry_of loop w ∷ ls) after false jump p) ∙ sym z;
          skipped = λ n. absurd (eqb-false (field 7 0 w) 0 z n);
          pushed = λ n. sym (turn_loops (entry_of loop w ∷ ls) after false jump p);
        }
    room q z (fails t) = absurd (turn_room jump after (sym (pick_no _ _ z ∙ pick_no _ _ t) ∙ q))

    enter : entering loop w ls ≡ Turns jump after → Tested (eqb (field 7 0 w) 0) → Opens loop w ls jump after
    enter q (holds z) =
        let p : Turns true ls ≡ Turns jump after = sym (pick_yes _ _ z) ∙ q in
        record {
          decision = sym (turn_same_jump ls after true jump p) ∙ sym z;
          skipped = λ n. sym (turn_loops ls after true jump p);
          pushed = λ n. absurd (nothing (field 7 0 w) n (eqb-true (field 7 0 w) 0 z));
        }
      where
        nothing : (n : ℕ) → 1 ≤ n → n ≡ 0 → ⊥
        nothing n h q = omega arith
    enter q (fails z) = room q z (tested (ltb (length ls) most_loops))

    word : Tested (eqb (field 31 24 w) 0) → Opens loop w ls jump after
    word (holds t) = enter (sym (pick_yes _ _ t) ∙ e) (tested (eqb (field 7 0 w) 0))
    word (fails t) = absurd (turn_word jump after (sym (pick_no _ _ t) ∙ e))

-- "Opening: count 0 jumps; otherwise stay and push": so of a step that is made
pub opened :
    (mode : Mode) (program : Program) (alu predicate booleans : ℕ) (loop : Bool) (o g : Group) (jump : Bool) → op_at program o ≡ open_op loop →
    group_step mode program alu predicate booleans o ≡ Steps jump g → Opens loop (integer_at program o) o.loops jump g.loops
opened mode program alu predicate booleans loop o g jump op e =
    opening_made loop (integer_at program o) o.loops jump g.loops
    (entry_word loop (integer_at program o) o.loops ∙
    ap (λ (n : ℕ). turn_of n (integer_at program o) o.loops) (sym op) ∙
    led_steps (turn_of (op_at program o) (integer_at program o) o.loops) jump g
    (subst (LedBy (turn_of (op_at program o) (integer_at program o) o.loops)) e
    (step_led mode program alu predicate booleans o (λ z. no_open_op loop (sym op ∙ z)))))

-- from the opening through k turns to one more close
module _
    (mode : Mode) (program : Program) (booleans : ℕ) (Body : Group → Group → Type 0) (loop : Bool) (inside : Inside program loop Body)
    (alu predicate : ℕ) (o g : Group) (op : op_at program o ≡ open_op loop)
    (stay : group_step mode program alu predicate booleans o ≡ Steps false g) where
  abbrev count : ℕ
  count = count_at program o

  made : Opens loop (integer_at program o) o.loops false g.loops
  made = opened mode program alu predicate booleans loop o g false op stay

  some_turns : 1 ≤ count
  some_turns = above count (eqb-false count 0 (sym made.decision))
    where
      above : (n : ℕ) → (n ≡ 0 → ⊥) → 1 ≤ n
      above n h = omega arith

  pub turns_fewer : (k : ℕ) (s : Group) → Turning mode program booleans Body k g s → k < count
  turns_fewer k s way = by loop inside (made.pushed some_turns)
    where
      by : (l : Bool) → Inside program l Body → g.loops ≡ entry_of l (integer_at program o) ∷ o.loops → k < count
      by true i e = loop_fewer mode program booleans Body i count (field 15 8 (integer_at program o)) (field 23 16 (integer_at program o)) o.loops k g s some_turns e way
      by false i e = rep_fewer mode program booleans Body i count o.loops k g s some_turns e way

  last_turn :
      (k : ℕ) (s c g' : Group) (alu' predicate' : ℕ) → Turning mode program booleans Body k g s → Body s c →
      group_step mode program alu' predicate' booleans c ≡ Steps false g' → (suc k ≡ count) × (g'.loops ≡ o.loops)
  last_turn k s c g' alu' predicate' way b e = by loop inside (made.pushed some_turns)
    where
      by : (l : Bool) → Inside program l Body → g.loops ≡ entry_of l (integer_at program o) ∷ o.loops → (suc k ≡ count) × (g'.loops ≡ o.loops)
      by true i q =
          loop_times mode program booleans Body i count (field 15 8 (integer_at program o)) (field 23 16 (integer_at program o)) o.loops k g s c g' alu' predicate'
          some_turns q way b e
      by false i q = rep_times mode program booleans Body i count o.loops k g s c g' alu' predicate' some_turns q way b e

  -- the close after k turns
  pub close_turn :
      (k : ℕ) (s c g' : Group) (jump : Bool) (alu' predicate' : ℕ) → Turning mode program booleans Body k g s → Body s c →
      group_step mode program alu' predicate' booleans c ≡ Steps jump g' → Closes count o.loops k jump g'
  close_turn k s c g' jump alu' predicate' way b e =
      record {
        fewer = turns_fewer k s way;
        decision =
            decides k count jump
            (λ j.
            turns_fewer (suc k) g'
            (Again k g s c g' alu' predicate' way b (subst (λ (t : Bool). group_step mode program alu' predicate' booleans c ≡ Steps t g') j e)))
            (λ j. (stays_last j).0);
        gone = λ j. (stays_last j).1;
      }
    where
      stays_last : jump ≡ false → (suc k ≡ count) × (g'.loops ≡ o.loops)
      stays_last j =
          last_turn k s c g' alu' predicate' way b (subst (λ (t : Bool). group_step mode program alu' predicate' booleans c ≡ Steps t g') j e)

  -- where the body comes back each time and the closes are made, the loop ends, after n times
  record Gets (k : ℕ) : Type 0 where
    start : Group
    turns : Turning mode program booleans Body k g start

  module _ (comes : (k : ℕ) (s : Group) → Turning mode program booleans Body k g s → Comes mode program booleans Body s) where
    gets : (k : ℕ) → k < count → Gets k
    gets zero h = record { start = g; turns = Begun g }
    gets (suc k) h =
        let from = gets k (less k count h) in
        let c = comes k from.start from.turns in
        let q = close_turn k from.start c.close c.after c.jump c.alu c.predicate from.turns c.back c.closed in
        record {
          start = c.after;
          turns =
              Again k g from.start c.close c.after c.alu c.predicate from.turns c.back
              (subst (λ (t : Bool). group_step mode program c.alu c.predicate booleans c.close ≡ Steps t c.after)
              (q.decision ∙ lt-ltb (suc k) count h) c.closed);
        }
      where
        less : (k n : ℕ) → suc k < n → k < n
        less k n h = omega arith

    pub runs_through : RanThrough mode program booleans Body count o.loops g
    runs_through =
        let from = gets (count - 1) (last count some_turns) in
        let c = comes (count - 1) from.start from.turns in
        let q =
        close_turn (count - 1) from.start c.close c.after c.jump c.alu c.predicate from.turns c.back c.closed in
        let stay : c.jump ≡ false = q.decision ∙ le-ltb (suc (count - 1)) count (all count some_turns) in
        record {
          start = from.start;
          turns = from.turns;
          close = c.close;
          back = c.back;
          alu = c.alu;
          predicate = c.predicate;
          after = c.after;
          stays = subst (λ (t : Bool). group_step mode program c.alu c.predicate booleans c.close ≡ Steps t c.after) stay c.closed;
          gone = q.gone stay;
        }
      where
        last : (n : ℕ) → 1 ≤ n → n - 1 < n
        last n h = omega arith

        all : (n : ℕ) → 1 ≤ n → n ≤ suc (n - 1)
        all n h = omega arith

-- after k turns the aL shown is its start and k steps: each close that jumped kept it within 0 to 255
module _ (n step : ℕ) (ls : List Opened) (al : ℕ → ℕ) (Within : ℕ → Type 0) (more : (k : ℕ) → Within k → stays (al k) step ≡ true → Within (suc k))
    (moves : (k : ℕ) → Within k → stays (al k) step ≡ true → moved_to (al k) step ≡ al (suc k)) where
  data LeftAt (k : ℕ) : Turn → Type 0 where
    SomeAt : k < n → Within k → LeftAt k (Turns true (Looping (n - k) (al k) step ∷ ls))
    NoneAt : LeftAt k (Turns false ls)
    OutAt : LeftAt k NoRoom

  at_next : (k : ℕ) (t : Turn) → LeftAt k t → LeftAt (suc k) (on_jump t (closing true))
  at_next k _ (SomeAt h w) =
      by_pick (LeftAt (suc k)) (ltb 1 (n - k)) _ _
      (λ e.
      let q : 1 < n - k = ltb-true 1 (n - k) e in
      by_pick (LeftAt (suc k)) (stays (al k) step) _ _
      (λ f.
      subst (λ (t : Turn). LeftAt (suc k) t) (λ i. Turns true (Looping (next k n q i) (sym (moves k w f) i) step ∷ ls))
      (SomeAt (fewer k n q) (more k w f)))
      (λ f. OutAt))
      (λ e. NoneAt)
    where
      next : (k n : ℕ) → 1 < n - k → n - suc k ≡ n - k - 1
      next k n q = omega arith

      fewer : (k n : ℕ) → 1 < n - k → suc k < n
      fewer k n q = omega arith
  at_next k _ NoneAt = NoneAt
  at_next k _ OutAt = OutAt

  at_left : (k : ℕ) → 1 ≤ n → Within 0 → LeftAt k (closings true k (Looping n (al 0) step ∷ ls))
  at_left zero s w = subst (λ (m : ℕ). LeftAt zero (Turns true (Looping m (al 0) step ∷ ls))) (all n) (SomeAt s w)
    where
      all : (n : ℕ) → n - 0 ≡ n
      all n = omega arith
  at_left (suc k) s w = at_next k _ (at_left k s w)

  at_turn : (k : ℕ) (x : List Opened) (t : Turn) → LeftAt k t → t ≡ Turns true x → (shown_aL x ≡ al k) × Within k
  at_turn k x _ (SomeAt h w) e = (ap shown_aL (sym (turn_loops (Looping (n - k) (al k) step ∷ ls) x true true e)), w)
  at_turn k x _ NoneAt e = absurd (turn_jumps x ls (sym e))
  at_turn k x _ OutAt e = absurd (turn_room true x e)

stays_up : (a step : ℕ) → step < 128 → stays a step ≡ true → a + step < 256
unfolding stays
stays_up a step p f = ltb-true (a + step) 256 (sym (pick_yes (ltb (a + step) 256) (leb 256 (a + step)) (lt-ltb step 128 p)) ∙ f)

stays_down : (a step : ℕ) → 128 ≤ step → stays a step ≡ true → 256 ≤ a + step
unfolding stays
stays_down a step p f = leb-true 256 (a + step) (sym (pick_no (ltb (a + step) 256) (leb 256 (a + step)) (le-ltb step 128 p)) ∙ f)

moved_up : (a step : ℕ) → step < 128 → moved_to a step ≡ a + step
unfolding moved_to
moved_up a step p = pick_yes (a + step) (a + step - 256) (lt-ltb step 128 p)

moved_down : (a step : ℕ) → 128 ≤ step → moved_to a step ≡ a + step - 256
unfolding moved_to
moved_down a step p = pick_no (a + step) (a + step - 256) (le-ltb step 128 p)

pub al_turns_up :
    (mode : Mode) (program : Program) (booleans : ℕ) (Body : Group → Group → Type 0) → Inside program true Body →
    (n al step : ℕ) (ls : List Opened) (k : ℕ) (g s : Group) → 1 ≤ n → al ≤ 255 → g.loops ≡ Looping n al step ∷ ls →
    Turning mode program booleans Body k g s → step < 128 → (shown_aL s.loops ≡ al + k * step) × (al + k * step ≤ 255)
al_turns_up mode program booleans Body inside n al step ls k g s one low e way p =
    at_turn n step ls (λ j. al + j * step) (λ j. al + j * step ≤ 255) more moves k s.loops _
    (at_left n step ls (λ j. al + j * step) (λ j. al + j * step ≤ 255) more moves k one (omega arith))
    (ap (closings true k) (same ∙ sym e) ∙ turning_closes mode program booleans true Body inside way)
  where
    less : (j : ℕ) → stays (al + j * step) step ≡ true → al + j * step + step < 256
    less j f = stays_up (al + j * step) step p f

    more : (j : ℕ) → al + j * step ≤ 255 → stays (al + j * step) step ≡ true → al + suc j * step ≤ 255
    more j w f = omega (arith, less j f, suc-mul j step)

    moves : (j : ℕ) → al + j * step ≤ 255 → stays (al + j * step) step ≡ true → moved_to (al + j * step) step ≡ al + suc j * step
    moves j w f = moved_up (al + j * step) step p ∙ omega (arith, suc-mul j step)

    same : Looping n (al + 0 * step) step ∷ ls ≡ Looping n al step ∷ ls
    same = ap (λ (a : ℕ). Looping n a step ∷ ls) (omega arith)

pub al_turns_down :
    (mode : Mode) (program : Program) (booleans : ℕ) (Body : Group → Group → Type 0) → Inside program true Body →
    (n al step : ℕ) (ls : List Opened) (k : ℕ) (g s : Group) → 1 ≤ n → g.loops ≡ Looping n al step ∷ ls →
    Turning mode program booleans Body k g s → 128 ≤ step → step ≤ 255 →
    (shown_aL s.loops ≡ al - k * (256 - step)) × (k * (256 - step) ≤ al)
al_turns_down mode program booleans Body inside n al step ls k g s one e way p r =
    at_turn n step ls (λ j. al - j * (256 - step)) (λ j. j * (256 - step) ≤ al) more moves k s.loops _
    (at_left n step ls (λ j. al - j * (256 - step)) (λ j. j * (256 - step) ≤ al) more moves k one (omega arith))
    (ap (closings true k) (same ∙ sym e) ∙ turning_closes mode program booleans true Body inside way)
  where
    less : (j : ℕ) → stays (al - j * (256 - step)) step ≡ true → 256 ≤ al - j * (256 - step) + step
    less j f = stays_down (al - j * (256 - step)) step p f

    more : (j : ℕ) → j * (256 - step) ≤ al → stays (al - j * (256 - step)) step ≡ true → suc j * (256 - step) ≤ al
    more j w f = omega (arith, less j f, suc-mul j (256 - step))

    moves :
        (j : ℕ) → j * (256 - step) ≤ al → stays (al - j * (256 - step)) step ≡ true →
        moved_to (al - j * (256 - step)) step ≡ al - suc j * (256 - step)
    moves j w f = moved_down (al - j * (256 - step)) step p ∙ omega (arith, less j f, suc-mul j (256 - step))

    same : Looping n (al - 0 * (256 - step)) step ∷ ls ≡ Looping n al step ∷ ls
    same = ap (λ (a : ℕ). Looping n a step ∷ ls) (omega arith)
