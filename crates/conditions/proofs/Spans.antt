-- The span of each condition with a value. Assumes nothing.
use Rattle.std.proofs.Common.{◌≡◌, ℕ, zero, suc, ◌+◌, ◌-◌, ◌%◌, ◌^◌, ◌<◌, ◌≤◌, Bool, true, false, not, eqb, leb, sym, refl, ap, ◌∙◌, subst, arith, le-ltb, lt-ltb, ne_eqb, eqb-true, le-leb, leb-false, leb-true}
use mathlib.Core.Bool.{beq}
use borrow.Author.Tests.{lt-leb, eqb-false}
use Rattle.laws.specs.Masks.{differ}
use Rattle.laws.proofs.Choice.{Tested, tested, holds, fails}
use Rattle.conditions.specs.Conditions.{passes}
use Rattle.conditions.specs.Spans.{in_span, SpanOf}
use Rattle.conditions.proofs.Opposites.{less_or_not, more_or_not}
use Rattle.conditions.proofs.Tests.{past_tests}

suc_not_zero : (k : ℕ) → suc k ≡ 0 → ⊥
suc_not_zero k e = omega (arith, e)

unequal : (s t : Bool) → not (beq s t) ≡ differ s t
unfolding differ
unequal true true = refl
unequal true false = refl
unequal false true = refl
unequal false false = refl

-- the code's one comparison: `d` is how far the number is from the span's first
pub one_test :
    (low top : ℕ) (outside : Bool) (b d : ℕ) → b < 2 ^ 16 → low < 2 ^ 16 → d < 2 ^ 16 → (d + low) % 2 ^ 16 ≡ b →
    not (beq (leb d top) outside) ≡ in_span low top outside b
unfolding in_span
one_test low top outside b d hb hl hd e =
    unequal (leb d top) outside ∙
    ap (λ (n : ℕ). differ (leb n top) outside) {x = d} {y = (b + (2 ^ 16 - low)) % 2 ^ 16} (omega (arith, e, hb, hl, hd))

differ_false : (t : Bool) → differ t false ≡ t
unfolding differ
differ_false true = refl
differ_false false = refl

differ_true : (t : Bool) → differ t true ≡ not t
unfolding differ
differ_true true = refl
differ_true false = refl

not_not : (t : Bool) → not (not t) ≡ t
not_not true = refl
not_not false = refl

-- how far a number is from the span's first
abbrev far : ℕ → ℕ → ℕ
far low b = (b + (2 ^ 16 - low)) % 2 ^ 16

module _ (v b : ℕ) (hv : v < 2 ^ 16) (hb : b < 2 ^ 16) where
  from_zero : leb (far 0 b) v ≡ leb b v
  from_zero = ap (λ (n : ℕ). leb n v) {x = far 0 b} {y = b} (omega (arith, hb))

  from_value : leb (far v b) (65535 - v) ≡ leb v b
  from_value = go (tested (leb v b))
    where
      go : Tested (leb v b) → leb (far v b) (65535 - v) ≡ leb v b
      go (holds t) = let h : v ≤ b = leb-true v b t in le-leb (far v b) (65535 - v) (omega (arith, h, hv, hb)) ∙ sym t
      go (fails t) = let h : b < v = leb-false v b t in lt-leb (far v b) (65535 - v) (omega (arith, h, hv, hb)) ∙ sym t

  at_value : leb (far v b) 0 ≡ eqb v b
  at_value = go (tested (eqb v b))
    where
      go : Tested (eqb v b) → leb (far v b) 0 ≡ eqb v b
      go (holds t) = let h : v ≡ b = eqb-true v b t in le-leb (far v b) 0 (omega (arith, h, hv, hb)) ∙ sym t
      go (fails t) =
          let h : v ≡ b → ⊥ = eqb-false v b t in
          lt-leb (far v b) 0 (omega (arith, h, hv, hb)) ∙ sym t

-- one law a condition
module _ (v : ℕ) (hv : v < 2 ^ 16) where
  pub span_1 : SpanOf 1 v 0 v true
  unfolding in_span passes
  span_1 =
      record {
        same = λ b hb. differ_true _ ∙ ap not (from_zero v b hv hb ∙ less_or_not v b) ∙ not_not _;
      }

  pub span_2 : SpanOf 2 v v (65535 - v) false
  unfolding in_span passes
  span_2 = record { same = λ b hb. differ_false _ ∙ from_value v b hv hb }

  pub span_3 : SpanOf 3 v v 0 false
  unfolding in_span passes
  span_3 = record { same = λ b hb. differ_false _ ∙ at_value v b hv hb }

  pub span_4 : SpanOf 4 v 0 v false
  unfolding in_span passes
  span_4 = record { same = λ b hb. differ_false _ ∙ from_zero v b hv hb }

  pub span_5 : SpanOf 5 v v (65535 - v) true
  unfolding in_span passes
  span_5 = record { same = λ b hb. differ_true _ ∙ ap not (from_value v b hv hb) ∙ sym (more_or_not v b) }

  pub span_6 : SpanOf 6 v v 0 true
  unfolding in_span passes
  span_6 = record { same = λ b hb. differ_true _ ∙ ap not (at_value v b hv hb) }

-- all numbers, or none
all_far : (b : ℕ) → b < 2 ^ 16 → leb (far 0 b) 65535 ≡ true
all_far b hb = le-leb (far 0 b) 65535 (omega (arith, hb))

true_differs : (t : Bool) → differ true t ≡ not t
unfolding differ
true_differs true = refl
true_differs false = refl

pub span_whole :
    (test v low top : ℕ) (outside none : Bool) → (low ≡ 0) × (top ≡ 65535) × (outside ≡ none) →
    ((b : ℕ) → b < 2 ^ 16 → passes test v b ≡ not none) → SpanOf test v low top outside
unfolding in_span
span_whole test v low top outside none is constant =
    rw (is.0, is.1, is.2) record {
      same = λ b hb. ap (λ (t : Bool). differ t none) (all_far b hb) ∙ true_differs none ∙ sym (constant b hb);
    }

pub by_condition : (test k v low top : ℕ) (outside : Bool) → test ≡ k → SpanOf k v low top outside → SpanOf test v low top outside
by_condition test k v low top outside same h = subst (λ (n : ℕ). SpanOf n v low top outside) (sym same) h

-- a value above every number is greater than each
module _ (v b : ℕ) (above : 65535 < v) (hb : b < 2 ^ 16) where
  above_4 : passes 4 v b ≡ true
  unfolding passes
  above_4 = le-leb b v (omega (arith, above, hb))

  above_5 : passes 5 v b ≡ true
  unfolding passes
  above_5 = lt-ltb b v (omega (arith, above, hb))

  above_6 : passes 6 v b ≡ true
  unfolding passes
  above_6 = ap not (ne_eqb v b (λ e. omega (arith, e, above, hb)))

  above_others :
      (test : ℕ) → (test ≡ 4 → ⊥) → (test ≡ 5 → ⊥) → (test ≡ 6 → ⊥) → (test ≡ 7 → ⊥) → passes test v b ≡ false
  unfolding passes
  above_others zero n4 n5 n6 n7 = refl
  above_others (suc zero) n4 n5 n6 n7 = le-ltb v b (omega (arith, above, hb))
  above_others (suc (suc zero)) n4 n5 n6 n7 = lt-leb v b (omega (arith, above, hb))
  above_others (suc (suc (suc zero))) n4 n5 n6 n7 = ne_eqb v b (λ e. omega (arith, e, above, hb))
  above_others (suc (suc (suc (suc zero)))) n4 n5 n6 n7 = absurd (n4 refl)
  above_others (suc (suc (suc (suc (suc zero))))) n4 n5 n6 n7 = absurd (n5 refl)
  above_others (suc (suc (suc (suc (suc (suc zero)))))) n4 n5 n6 n7 = absurd (n6 refl)
  above_others (suc (suc (suc (suc (suc (suc (suc zero))))))) n4 n5 n6 n7 = absurd (n7 refl)
  above_others (suc (suc (suc (suc (suc (suc (suc (suc k)))))))) n4 n5 n6 n7 = refl

pub always_7 : (test v b : ℕ) → test ≡ 7 → passes test v b ≡ not false
unfolding passes
always_7 test v b e = ap (λ (n : ℕ). passes n v b) e

pub never_left :
    (test v b : ℕ) → (test ≡ 1 → ⊥) → (test ≡ 2 → ⊥) → (test ≡ 3 → ⊥) → (test ≡ 4 → ⊥) → (test ≡ 5 → ⊥) → (test ≡ 6 → ⊥) →
    (test ≡ 7 → ⊥) → passes test v b ≡ not true
unfolding passes
never_left zero v b n1 n2 n3 n4 n5 n6 n7 = refl
never_left (suc k) v b n1 n2 n3 n4 n5 n6 n7 =
    sym (past_tests (suc k) v b (λ e. absurd (suc_not_zero k e)) n1 n2 n3 n4 n5 n6 n7)

module _ (test v : ℕ) (above : 65535 < v) where
  pub always_4 : test ≡ 4 → (b : ℕ) → b < 2 ^ 16 → passes test v b ≡ not false
  always_4 e b hb = ap (λ (n : ℕ). passes n v b) e ∙ above_4 v b above hb

  pub always_5 : test ≡ 5 → (b : ℕ) → b < 2 ^ 16 → passes test v b ≡ not false
  always_5 e b hb = ap (λ (n : ℕ). passes n v b) e ∙ above_5 v b above hb

  pub always_6 : test ≡ 6 → (b : ℕ) → b < 2 ^ 16 → passes test v b ≡ not false
  always_6 e b hb = ap (λ (n : ℕ). passes n v b) e ∙ above_6 v b above hb

  pub never_above :
      (test ≡ 4 → ⊥) → (test ≡ 5 → ⊥) → (test ≡ 6 → ⊥) → (test ≡ 7 → ⊥) → (b : ℕ) → b < 2 ^ 16 → passes test v b ≡ not true
  never_above n4 n5 n6 n7 b hb = above_others v b above hb test n4 n5 n6 n7
