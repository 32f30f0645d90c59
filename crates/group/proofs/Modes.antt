-- Request 7, proved once over the counter limit: what the two modes make of one state. Whatever partial mode accepts, full mode answers alike,
-- and what full mode accepts and partial mode refuses has one of three causes, of a step; proofs/Firsts.antt has runs. Assumes nothing.
use mathlib.Core.Path.{◌≡◌, refl, sym, ◌∙◌, subst}
use mathlib.Core.Logic.{◌⊎◌, inl, inr}
use mathlib.Core.Bool.{Bool, true, false}
use Prim.Native.Nat.{ℕ, ◌<◌, ◌≤◌}
use native.Mathlib.Omega.{arith}
use lib.Dec.{eqb, leb}
use borrow.Author.Tests.{leb-true, leb-false, lt-leb, eq-eqb, ne_eqb, eqb-true, eqb-false}
use Rattle.laws.specs.Choice.{◌and◌}
use Rattle.laws.specs.Below.{some}
use Rattle.laws.specs.Masks.{◌or◌, on}
use Rattle.laws.proofs.Choice.{Tested, holds, fails, tested, pick_yes, pick_no, and_left, and_right, and_intro, and_yes, and_no_left, and_no_right}
use Rattle.laws.proofs.Below.{some_same, none_at}
use Rattle.loops.specs.Loops.{word_at}
use Rattle.group.specs.Proc.{Proc, Active, Idle, Absent, is_active, at_limit, decided, increment, counter_limit}
use Rattle.group.specs.Modes.{Mode, Full, Partial, partial_limit, limit_of}
use Rattle.group.specs.Group.{Group, Outcome, Steps, Fails, Program, op_of, b_else, jump_any, a_op, jump_func, branch_op, boolean_number, integer_number}
use Rattle.group.specs.Group.{permits, allowed, allowed_loop, turned_if, wish_of, over_limit, settled, jump_step, loop_step, slot_step, store_slots, ended, group_step}
use Rattle.group.specs.Causes.{first_here, second_here, procs_here, wanted_here, Cause, loop_op, return_op, counter_at_five}
use Rattle.group.proofs.State.{jump_permitted}

-- who is not at a lower limit is not at a higher one
below_both : (low high : ℕ) → low ≤ high → (p : Proc) → at_limit low p ≡ false → at_limit high p ≡ false
below_both low high h Active e = refl
below_both low high h (Idle n) e = let q : n < low = leb-false low n e in lt-leb high n (omega arith)
below_both low high h Absent e = refl

none_some : (f : ℕ → Bool) → ((i : ℕ) → i < 32 → f i ≡ false) → some 32 f ≡ false
unfolding some ◌or◌
none_some f h = some_same 32 f (λ i. false) h

-- a refusal is no step
refused_steps : {A : Type 0} {n : ℕ} {jump : Bool} {g : Group} → Fails n ≡ Steps jump g → A
refused_steps e = absurd (let z : ◌≡◌ {A = ℕ} 0 1 = cc in omega arith)

-- under two limits, the lower one first
module _ (low high : ℕ) (h : low ≤ high) where
  free_both : (op : ℕ) (procs : ℕ → Proc) → over_limit low op procs ≡ false → over_limit high op procs ≡ false
  unfolding over_limit
  free_both op procs e = go (tested (eqb op increment))
    where
      go : Tested (eqb op increment) → (eqb op increment and some 32 (λ i. at_limit high (procs i))) ≡ false
      go (fails t) = and_no_left _ t
      go (holds t) =
          and_no_right (eqb op increment)
          (none_some _ (λ i k. below_both low high h (procs i) (none_at 32 (λ j. at_limit low (procs j)) (sym (and_yes _ t) ∙ e) i k)))

  -- the rest of a step: the same, or a counter is at the lower limit
  abbrev Alike : ℕ → (ℕ → Proc) → Outcome → Outcome → Type 0
  Alike op procs below above = (below ≡ above) ⊎ ((over_limit low op procs ≡ true) × (below ≡ Fails 14))

  settled_both :
      (slots first second : ℕ) (jump : Bool) (wish : ℕ → Bool) (procs : ℕ → Proc) (g : Group) →
      Alike (branch_op jump first) procs (settled low slots first second jump wish procs g) (settled high slots first second jump wish procs g)
  unfolding settled
  settled_both slots first second jump wish procs g = go (tested (over_limit low (branch_op jump first) procs))
    where
      go :
          Tested (over_limit low (branch_op jump first) procs) →
          Alike (branch_op jump first) procs (settled low slots first second jump wish procs g) (settled high slots first second jump wish procs g)
      go (holds e) = inr (e, pick_yes _ _ e)
      go (fails e) = inl (pick_no _ _ e ∙ sym (pick_no _ _ (free_both (branch_op jump first) procs e)))

  -- document 01's step: the same, or a counter is at the lower limit
  pub jump_both :
      (slots first second alu predicate booleans : ℕ) (g : Group) →
      Alike
      (branch_op
      (decided (jump_any first) (λ i. is_active (turned_if (b_else first) g.procs i))
      (wish_of (jump_func first) (on (boolean_number second) booleans) alu predicate))
      first)
      (turned_if (b_else first) g.procs) (jump_step low slots first second alu predicate booleans g)
      (jump_step high slots first second alu predicate booleans g)
  unfolding jump_step
  jump_both slots first second alu predicate booleans g = go (tested (allowed first second))
    where
      procs : ℕ → Proc
      procs = turned_if (b_else first) g.procs

      wish : ℕ → Bool
      wish = wish_of (jump_func first) (on (boolean_number second) booleans) alu predicate

      jump : Bool
      jump = decided (jump_any first) (λ i. is_active (procs i)) wish

      by :
          allowed first second ≡ true →
          Alike (branch_op jump first) procs (settled low slots first second jump wish procs g) (settled high slots first second jump wish procs g) →
          Alike (branch_op jump first) procs (jump_step low slots first second alu predicate booleans g)
          (jump_step high slots first second alu predicate booleans g)
      by a (inl e) = inl (pick_yes _ _ a ∙ e ∙ sym (pick_yes _ _ a))
      by a (inr e) = inr (e.0, pick_yes _ _ a ∙ e.1)

      go :
          Tested (allowed first second) →
          Alike (branch_op jump first) procs (jump_step low slots first second alu predicate booleans g)
          (jump_step high slots first second alu predicate booleans g)
      go (fails a) = inl (pick_no _ _ a ∙ sym (pick_no _ _ a))
      go (holds a) = by a (settled_both slots first second jump wish procs g)

-- a step of partial mode and one of full mode from the same state: what partial mode makes, full mode makes alike; what it refuses and full
-- mode makes has a cause
abbrev StepBeside : Program → Group → ℕ → ℕ → ℕ → Outcome → Outcome → Type 0
StepBeside program g alu predicate booleans (Steps jump g') full = full ≡ Steps jump g'
StepBeside program g alu predicate booleans (Fails n) (Steps jump g') = Cause program g alu predicate booleans n
StepBeside program g alu predicate booleans (Fails n) (Fails m) = Unit {0}

-- what full mode accepts has an op up to 4 and an A_OP up to 2
loop_allowed :
    (limit slots word first second alu predicate booleans : ℕ) (g g' : Group) (jump : Bool) →
    loop_step limit slots word first second alu predicate booleans g ≡ Steps jump g' → op_of first ≤ 4
unfolding loop_step allowed_loop
loop_allowed limit slots word first second alu predicate booleans g g' jump e = go (tested (allowed_loop first second))
  where
    go : Tested (allowed_loop first second) → op_of first ≤ 4
    go (holds a) = leb-true (op_of first) 4 (and_left _ _ a)
    go (fails a) = refused_steps (sym (pick_no _ _ a) ∙ e)

jump_allowed :
    (limit slots first second alu predicate booleans : ℕ) (g g' : Group) (jump : Bool) →
    jump_step limit slots first second alu predicate booleans g ≡ Steps jump g' → a_op first ≤ 2
unfolding jump_step allowed
jump_allowed limit slots first second alu predicate booleans g g' jump e = go (tested (allowed first second))
  where
    go : Tested (allowed first second) → a_op first ≤ 2
    go (holds a) = leb-true (a_op first) 2 (and_left _ _ (and_right (eqb (op_of first) 0) _ a))
    go (fails a) = refused_steps (sym (pick_no _ _ a) ∙ e)

module _ (program : Program) (alu predicate booleans : ℕ) (g : Group) where
  abbrev first : ℕ
  first = first_here program g

  abbrev second : ℕ
  second = second_here program g

  abbrev slot : Mode → Outcome
  slot mode = slot_step mode program.slots program.integers first second alu predicate booleans g

  abbrev jump_at : ℕ → Outcome
  jump_at limit = jump_step limit program.slots first second alu predicate booleans g

  abbrev Here : Outcome → Outcome → Type 0
  Here partial full = StepBeside program g alu predicate booleans partial full

  few : partial_limit ≤ counter_limit
  few = omega arith

  -- outcomes by other names
  onto : {p p' f f' : Outcome} → p ≡ p' → f ≡ f' → Here p' f' → Here p f
  onto {p} {p'} {f} {f'} a b q = subst (λ (x : Outcome). Here x f) (sym a) (subst (Here p') (sym b) q)

  -- a step is beside itself
  alike : (o : Outcome) → Here o o
  alike (Steps jump g') = refl
  alike (Fails n) = tt

  -- a refusal with its cause, whatever full mode says
  for : {n : ℕ} → Cause program g alu predicate booleans n → (o : Outcome) → Here (Fails n) o
  for c (Steps jump g') = c
  for c (Fails m) = tt

  -- op 0 and A_OP 0
  plain : eqb (op_of first) 0 ≡ true → eqb (a_op first) 0 ≡ true → Here (slot Partial) (slot Full)
  plain z a =
      onto (old Partial (and_intro z a)) (old Full refl) (by (jump_both partial_limit counter_limit few program.slots first second alu predicate booleans g))
    where
      old : (mode : Mode) → permits mode first ≡ true → slot mode ≡ jump_at (limit_of mode)
      old mode p = jump_permitted mode program.slots program.integers first second alu predicate booleans g (eqb-true (op_of first) 0 z) p

      by :
          Alike partial_limit counter_limit few (branch_op (wanted_here program g alu predicate booleans) first) (procs_here program g)
          (jump_at partial_limit) (jump_at counter_limit) →
          Here (jump_at partial_limit) (jump_at counter_limit)
      by (inl e) = onto e refl (alike (jump_at counter_limit))
      by (inr e) = onto e.1 refl (for (counter_at_five (eqb-true (op_of first) 0 z) (eqb-true (a_op first) 0 a) e.0) (jump_at counter_limit))

  -- another op: what full mode makes of it, its op is at most 4
  other : eqb (op_of first) 0 ≡ false → (o : Outcome) → slot Full ≡ o → Here (Fails 13) o
  unfolding slot_step
  other z (Fails m) e = tt
  other z (Steps jump g') e =
      loop_op (above (op_of first) (eqb-false (op_of first) 0 z))
      (loop_allowed counter_limit program.slots (word_at (integer_number second) program.integers) first second alu predicate booleans g g' jump
      (sym (pick_yes _ _ refl ∙ pick_no _ _ z) ∙ e))
    where
      above : (n : ℕ) → (n ≡ 0 → ⊥) → 1 ≤ n
      above n k = omega arith

  -- op 0 with a pop or a push
  returns : eqb (op_of first) 0 ≡ true → eqb (a_op first) 0 ≡ false → (o : Outcome) → slot Full ≡ o → Here (Fails 13) o
  unfolding slot_step
  returns z a (Fails m) e = tt
  returns z a (Steps jump g') e =
      return_op (above (a_op first) (eqb-false (a_op first) 0 a))
      (jump_allowed counter_limit program.slots first second alu predicate booleans g g' jump (sym (pick_yes _ _ refl ∙ pick_yes _ _ z) ∙ e))
    where
      above : (n : ℕ) → (n ≡ 0 → ⊥) → 1 ≤ n
      above n k = omega arith

  slot_beside : Here (slot Partial) (slot Full)
  unfolding slot_step
  slot_beside = by (tested (eqb (op_of first) 0)) (tested (eqb (a_op first) 0))
    where
      by : Tested (eqb (op_of first) 0) → Tested (eqb (a_op first) 0) → Here (slot Partial) (slot Full)
      by (holds z) (holds a) = plain z a
      by (holds z) (fails a) = onto (pick_no _ _ (and_no_right (eqb (op_of first) 0) a)) refl (returns z a (slot Full) refl)
      by (fails z) t = onto (pick_no _ _ (and_no_left (eqb (a_op first) 0) z)) refl (other z (slot Full) refl)

  pub step_beside : Here (group_step Partial program alu predicate booleans g) (group_step Full program alu predicate booleans g)
  unfolding group_step
  step_beside = by (tested (ended program g)) (tested (leb program.slots store_slots))
    where
      by :
          Tested (ended program g) → Tested (leb program.slots store_slots) →
          Here (group_step Partial program alu predicate booleans g) (group_step Full program alu predicate booleans g)
      by (holds t) u = onto (pick_yes _ _ t) (pick_yes _ _ t) tt
      by (fails t) (holds u) = onto (pick_no _ _ t ∙ pick_yes _ _ u) (pick_no _ _ t ∙ pick_yes _ _ u) slot_beside
      by (fails t) (fails u) = onto (pick_no _ _ t ∙ pick_no _ _ u) (pick_no _ _ t ∙ pick_no _ _ u) tt

  -- "whatever partial mode accepts, full mode answers identically, the mode aside"
  pub step_shared :
      (jump : Bool) (g' : Group) → group_step Partial program alu predicate booleans g ≡ Steps jump g' →
      group_step Full program alu predicate booleans g ≡ Steps jump g'
  step_shared jump g' e = subst (λ (o : Outcome). Here o (group_step Full program alu predicate booleans g)) e step_beside

  -- "Partial mode refuses what full mode accepts for the three causes above and no other"
  pub step_cause :
      (n : ℕ) (jump : Bool) (g' : Group) → group_step Partial program alu predicate booleans g ≡ Fails n →
      group_step Full program alu predicate booleans g ≡ Steps jump g' → Cause program g alu predicate booleans n
  step_cause n jump g' e f =
      subst (Here (Fails n)) f (subst (λ (o : Outcome). Here o (group_step Full program alu predicate booleans g)) e step_beside)

  -- and each of them is a cause: where full mode makes the step, partial mode refuses it with the cause's number
  jump_over :
      {jump : Bool} {g' : Group} → jump_at counter_limit ≡ Steps jump g' →
      over_limit partial_limit (branch_op (wanted_here program g alu predicate booleans) first) (procs_here program g) ≡ true →
      jump_at partial_limit ≡ Fails 14
  unfolding jump_step settled
  jump_over {jump} {g'} f o = by (tested (allowed first second))
    where
      by : Tested (allowed first second) → jump_at partial_limit ≡ Fails 14
      by (holds a) = pick_yes _ _ a ∙ pick_yes _ _ o
      by (fails a) = refused_steps (sym (pick_no _ _ a) ∙ f)

  slot_refuses : {n : ℕ} {jump : Bool} {g' : Group} → Cause program g alu predicate booleans n → slot Full ≡ Steps jump g' → slot Partial ≡ Fails n
  unfolding slot_step
  slot_refuses (loop_op low high) f = pick_no _ _ (and_no_left _ (ne_eqb (op_of first) 0 (λ z. omega arith)))
  slot_refuses (return_op low high) f = pick_no _ _ (and_no_right (eqb (op_of first) 0) (ne_eqb (a_op first) 0 (λ z. omega arith)))
  slot_refuses (counter_at_five z a o) f =
      jump_permitted Partial program.slots program.integers first second alu predicate booleans g z
      (and_intro (eq-eqb (op_of first) 0 z) (eq-eqb (a_op first) 0 a)) ∙
      jump_over (sym (jump_permitted Full program.slots program.integers first second alu predicate booleans g z refl) ∙ f) o

  pub cause_refuses :
      (n : ℕ) (jump : Bool) (g' : Group) → Cause program g alu predicate booleans n → group_step Full program alu predicate booleans g ≡ Steps jump g' →
      group_step Partial program alu predicate booleans g ≡ Fails n
  unfolding group_step
  cause_refuses n jump g' c f = by (tested (ended program g)) (tested (leb program.slots store_slots))
    where
      by : Tested (ended program g) → Tested (leb program.slots store_slots) → group_step Partial program alu predicate booleans g ≡ Fails n
      by (holds t) u = refused_steps (sym (pick_yes _ _ t) ∙ f)
      by (fails t) (holds u) = pick_no _ _ t ∙ pick_yes _ _ u ∙ slot_refuses c (sym (pick_no _ _ t ∙ pick_yes _ _ u) ∙ f)
      by (fails t) (fails u) = refused_steps (sym (pick_no _ _ t ∙ pick_no _ _ u) ∙ f)
