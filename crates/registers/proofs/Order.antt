-- IEEE 754's order of floats, as the logic defines it, is the order of signs and magnitudes; and `at most` is `not above`, where
-- both are numbers. Assumes nothing.
use mathlib.Core.Path.{◌≡◌, refl, sym, ap, ap₂, ◌∙◌, subst}
use mathlib.Core.Logic.{◌⊎◌, inl, inr}
use mathlib.Core.Bool.{Bool, true, false, not, ◌&&◌, ◌||◌, true≢false}
use Prim.Native.Nat.{ℕ, ◌+◌, ◌*◌, ◌^◌, ◌<◌, ◌≤◌}
use native.Mathlib.Nat.{lt_irrefl, eq-zero-or-pos, zero-mul, mul_assoc, mul_comm, mul_right_comm, add-mul, mul-pos, mul-le-mul_right, le_of_mul-le-mul_right}
use native.Mathlib.Omega.{arith}
use lib.Dec.{eqb, leb, ltb}
use lib.Pow.{pow_pos}
use lib.Ieee.{Float, nan, inf, fin, up, down, below, level, is_nan, lt, le}
use lib.Ieee.Exact.{HasValue}
use lib.Ieee.Fits.{down_pos}
use lib.Ieee.Order.{transfer}
use borrow.Author.Tests.{ltb-true, ltb-false, eqb-true, eqb-false, lt-ltb, le-ltb, le-leb, lt-leb, eq-eqb, ne_eqb}
use Rattle.laws.specs.Choice.{◌and◌, pick}
use Rattle.laws.proofs.Choice.{Tested, holds, fails, tested}
use Rattle.registers.specs.Pattern.{magnitude, negative, less_than}
use Rattle.registers.specs.Registers.{float}
use Rattle.registers.proofs.Magnitudes.{size_of, Class, finite, infinite, no_number, classify, size_ltb, size_some}

-- two finite values compare as their sizes do
module _ (X Y a b c p q : ℕ) (C : 0 < c) (P : 0 < p) (Q : 0 < q) (e : X * c ≡ a * p) (f : Y * c ≡ b * q) where
  cross_ltb : ltb (X * q) (Y * p) ≡ ltb a b
  cross_ltb = go (tested (ltb a b))
    where
      go : Tested (ltb a b) → ltb (X * q) (Y * p) ≡ ltb a b
      go (fails t) =
          le-ltb (X * q) (Y * p)
          (transfer Y X q p b a c c C C f e (mul-le-mul_right c (ltb-false a b t))) ∙ sym t
      go (holds t) = by (tested (ltb (X * q) (Y * p)))
        where
          by : Tested (ltb (X * q) (Y * p)) → ltb (X * q) (Y * p) ≡ ltb a b
          by (holds u) = u ∙ sym t
          by (fails u) =
              let l : a < b = ltb-true a b t in
              let z : b ≤ a = le_of_mul-le-mul_right (transfer b a c c Y X q p Q P (sym f) (sym e) (ltb-false (X * q) (Y * p) u)) C in
              absurd (omega arith)

  cross_sum : ltb 0 (X * q + Y * p) ≡ ltb 0 (a + b)
  cross_sum = go (eq-zero-or-pos (X * q + Y * p)) (eq-zero-or-pos (a + b))
    where
      both : (X * q + Y * p) * c ≡ (a + b) * (p * q)
      both =
          add-mul (X * q) (Y * p) c ∙
          ap₂ ◌+◌ (mul_right_comm X q c ∙ ap (λ (n : ℕ). n * q) e ∙ mul_assoc a p q)
          (mul_right_comm Y p c ∙ ap (λ (n : ℕ). n * p) f ∙ mul_assoc b q p ∙ ap (λ (n : ℕ). b * n) (mul_comm q p)) ∙
          sym (add-mul a b (p * q))

      go : (X * q + Y * p ≡ 0) ⊎ (0 < X * q + Y * p) → (a + b ≡ 0) ⊎ (0 < a + b) → ltb 0 (X * q + Y * p) ≡ ltb 0 (a + b)
      go (inl y) (inl z) = ap (ltb 0) (y ∙ sym z)
      go (inl y) (inr z) =
          absurd (lt_irrefl 0 (subst (λ (n : ℕ). 0 < n) (sym both ∙ ap (λ (n : ℕ). n * c) y ∙ zero-mul c) (mul-pos z (mul-pos P Q))))
      go (inr y) (inl z) =
          absurd (lt_irrefl 0 (subst (λ (n : ℕ). 0 < n) (both ∙ ap (λ (n : ℕ). n * (p * q)) z ∙ zero-mul (p * q)) (mul-pos y C)))
      go (inr y) (inr z) = lt-ltb 0 _ y ∙ sym (lt-ltb 0 _ z)

lt_values :
    (x y : Float) (s t : Bool) (a b : ℕ) → HasValue x s a (2 ^ 149) → HasValue y t b (2 ^ 149) → lt x y ≡ below s a t b
unfolding lt
lt_values nan y s t a b h k = absurd h
lt_values (inf u) y s t a b h k = absurd h
lt_values (fin u m e) nan s t a b h k = absurd k
lt_values (fin u m e) (inf v) s t a b h k = absurd k
lt_values (fin u m e) (fin v n d) s t a b h k =
    subst (λ (w : Bool). below w (m * up e * down d) v (n * up d * down e) ≡ below s a t b) (sym h.0)
    (subst (λ (w : Bool). below s (m * up e * down d) w (n * up d * down e) ≡ below s a t b) (sym k.0) (by s t))
  where
    by : (s t : Bool) → below s (m * up e * down d) t (n * up d * down e) ≡ below s a t b
    by false false = cross_ltb (m * up e) (n * up d) a b (2 ^ 149) (down e) (down d) (pow_pos 149) (down_pos e) (down_pos d) h.1 k.1
    by false true = refl
    by true false = cross_sum (m * up e) (n * up d) a b (2 ^ 149) (down e) (down d) (pow_pos 149) (down_pos e) (down_pos d) h.1 k.1
    by true true = cross_ltb (n * up d) (m * up e) b a (2 ^ 149) (down d) (down e) (pow_pos 149) (down_pos d) (down_pos e) k.1 h.1

-- the order on signs and magnitudes
abbrev order : Bool → ℕ → Bool → ℕ → Bool
order s m t k =
    leb m 0x7F800000 and leb k 0x7F800000 and
    pick s (pick t (ltb k m) (ltb 0 (m + k))) (pick t false (ltb m k))

-- both are numbers, or one is none
first_number : (m : ℕ) → m ≤ 0x7F800000 → (b : Bool) → (leb m 0x7F800000 and b) ≡ b
unfolding ◌and◌
first_number m h b = ap (λ (t : Bool). t and b) (le-leb m 0x7F800000 h)

no_first : (m : ℕ) → 0x7F800000 < m → (b : Bool) → (leb m 0x7F800000 and b) ≡ false
unfolding ◌and◌
no_first m h b = ap (λ (t : Bool). t and b) (lt-leb m 0x7F800000 h)

no_second : (a : Bool) (k : ℕ) → 0x7F800000 < k → (b : Bool) → (a and leb k 0x7F800000 and b) ≡ false
unfolding ◌and◌
no_second true k h b = no_first k h b
no_second false k h b = refl

both_numbers : (m k : ℕ) → m ≤ 0x7F800000 → k ≤ 0x7F800000 → (b : Bool) → (leb m 0x7F800000 and leb k 0x7F800000 and b) ≡ b
both_numbers m k h j b = first_number m h (leb k 0x7F800000 and b) ∙ first_number k j b

two_sizes : (s t : Bool) (m k : ℕ) → below s (size_of m) t (size_of k) ≡ pick s (pick t (ltb k m) (ltb 0 (m + k))) (pick t false (ltb m k))
unfolding pick
two_sizes false false m k = size_ltb m k
two_sizes false true m k = refl
two_sizes true true m k = size_ltb k m
two_sizes true false m k = go (tested (ltb 0 m)) (tested (ltb 0 k))
  where
    go : Tested (ltb 0 m) → Tested (ltb 0 k) → ltb 0 (size_of m + size_of k) ≡ ltb 0 (m + k)
    go (holds e) f =
        let a : 0 < size_of m = ltb-true 0 (size_of m) (size_some m ∙ e) in
        let b : 0 < m = ltb-true 0 m e in
        lt-ltb 0 (size_of m + size_of k) (omega arith) ∙ sym (lt-ltb 0 (m + k) (omega arith))
    go (fails e) (holds f) =
        let a : 0 < size_of k = ltb-true 0 (size_of k) (size_some k ∙ f) in
        let b : 0 < k = ltb-true 0 k f in
        lt-ltb 0 (size_of m + size_of k) (omega arith) ∙ sym (lt-ltb 0 (m + k) (omega arith))
    go (fails e) (fails f) =
        let a : size_of m ≤ 0 = ltb-false 0 (size_of m) (size_some m ∙ e) in
        let b : m ≤ 0 = ltb-false 0 m e in
        let p : size_of k ≤ 0 = ltb-false 0 (size_of k) (size_some k ∙ f) in
        let q : k ≤ 0 = ltb-false 0 k f in
        le-ltb 0 (size_of m + size_of k) (omega arith) ∙ sym (le-ltb 0 (m + k) (omega arith))

lt_class : (x y : Float) (s t : Bool) (m k : ℕ) → Class s m x → Class t k y → lt x y ≡ order s m t k
unfolding lt pick
lt_class x y s t m k (no_number h e) d = ap (λ (v : Float). lt v y) e ∙ sym (no_first m h _)
lt_class x y s t m k (finite h e) (no_number j f) = ap (lt x) f ∙ right x ∙ sym (no_second (leb m 0x7F800000) k j _)
  where
    right : (x : Float) → lt x nan ≡ false
    right nan = refl
    right (inf u) = refl
    right (fin u n d) = refl
lt_class x y s t m k (infinite h e) (no_number j f) = ap₂ lt e f ∙ sym (no_second (leb m 0x7F800000) k j _)
lt_class x y s t m k (finite h e) (finite j f) =
    lt_values x y s t (size_of m) (size_of k) e f ∙ two_sizes s t m k ∙ sym (both_numbers m k (omega arith) (omega arith) _)
lt_class x y s t m k (finite h e) (infinite j f) = ap (lt x) f ∙ left x e s t ∙ sym (both_numbers m k (omega arith) (omega arith) _)
  where
    left : (x : Float) → HasValue x s (size_of m) (2 ^ 149) → (s t : Bool) → lt x (inf t) ≡ pick s (pick t (ltb k m) (ltb 0 (m + k))) (pick t false (ltb m k))
    left nan v s t = absurd v
    left (inf u) v s t = absurd v
    left (fin u n d) v true true = sym (le-ltb k m (omega arith))
    left (fin u n d) v true false = sym (lt-ltb 0 (m + k) (omega arith))
    left (fin u n d) v false true = refl
    left (fin u n d) v false false = sym (lt-ltb m k (omega arith))
lt_class x y s t m k (infinite h e) (finite j f) = ap (λ (v : Float). lt v y) e ∙ right y f s t ∙ sym (both_numbers m k (omega arith) (omega arith) _)
  where
    right : (y : Float) → HasValue y t (size_of k) (2 ^ 149) → (s t : Bool) → lt (inf s) y ≡ pick s (pick t (ltb k m) (ltb 0 (m + k))) (pick t false (ltb m k))
    right nan v s t = absurd v
    right (inf u) v s t = absurd v
    right (fin u n d) v true true = sym (lt-ltb k m (omega arith))
    right (fin u n d) v true false = sym (lt-ltb 0 (m + k) (omega arith))
    right (fin u n d) v false true = refl
    right (fin u n d) v false false = sym (le-ltb m k (omega arith))
lt_class x y s t m k (infinite h e) (infinite j f) = ap₂ lt e f ∙ by s t ∙ sym (both_numbers m k (omega arith) (omega arith) _)
  where
    by : (s t : Bool) → (s && not t) ≡ pick s (pick t (ltb k m) (ltb 0 (m + k))) (pick t false (ltb m k))
    by true true = sym (le-ltb k m (omega arith))
    by true false = sym (lt-ltb 0 (m + k) (omega arith))
    by false true = refl
    by false false = sym (le-ltb m k (omega arith))

-- "B < A", for every two patterns
pub less_than_lem : (a b : ℕ) → lt (float a) (float b) ≡ less_than a b
unfolding less_than
less_than_lem a b = lt_class (float a) (float b) (negative a) (negative b) (magnitude a) (magnitude b) (classify a) (classify b)

-- at most is not above, where both are numbers
module _ (a b : ℕ) where
  at_most : (ltb a b || (eqb a b && true)) ≡ not (ltb b a)
  at_most = go (tested (ltb a b)) (tested (eqb a b))
    where
      go : Tested (ltb a b) → Tested (eqb a b) → (ltb a b || (eqb a b && true)) ≡ not (ltb b a)
      go (holds e) q = let l : a < b = ltb-true a b e in rw (e, le-ltb b a (omega arith)) refl
      go (fails e) (holds f) = let z : a ≡ b = eqb-true a b f in rw (e, f, le-ltb b a (omega arith)) refl
      go (fails e) (fails f) =
          let l : b ≤ a = ltb-false a b e in
          let z : a ≡ b → ⊥ = eqb-false a b f in
          rw (e, f, lt-ltb b a (omega arith)) refl

  at_zero : (eqb a b && eqb a 0) ≡ not (ltb 0 (b + a))
  at_zero = go (tested (eqb a b)) (tested (eqb a 0))
    where
      go : Tested (eqb a b) → Tested (eqb a 0) → (eqb a b && eqb a 0) ≡ not (ltb 0 (b + a))
      go (holds e) (holds f) =
          let y : a ≡ b = eqb-true a b e in
          let z : a ≡ 0 = eqb-true a 0 f in
          rw (e, f, le-ltb 0 (b + a) (omega arith)) refl
      go (holds e) (fails f) = let z : a ≡ 0 → ⊥ = eqb-false a 0 f in rw (e, f, lt-ltb 0 (b + a) (omega arith)) refl
      go (fails e) q = let z : a ≡ b → ⊥ = eqb-false a b e in rw (e, lt-ltb 0 (b + a) (omega arith)) refl

  under : (ltb 0 (a + b) || (eqb a b && eqb a 0)) ≡ true
  under = go (tested (ltb 0 (a + b)))
    where
      go : Tested (ltb 0 (a + b)) → (ltb 0 (a + b) || (eqb a b && eqb a 0)) ≡ true
      go (holds e) = rw e refl
      go (fails e) =
          let l : a + b ≤ 0 = ltb-false 0 (a + b) e in
          rw (e, eq-eqb a b (omega arith), eq-eqb a 0 (omega arith)) refl

eqb_turned : (a b : ℕ) → eqb a b ≡ eqb b a
eqb_turned a b = go (tested (eqb a b))
  where
    go : Tested (eqb a b) → eqb a b ≡ eqb b a
    go (holds e) = e ∙ sym (eq-eqb b a (sym (eqb-true a b e)))
    go (fails e) = e ∙ sym (ne_eqb b a (λ z. eqb-false a b e (sym z)))

finite_le : (s t : Bool) (a b : ℕ) → (below s a t b || level s a t b) ≡ not (below t b s a)
finite_le false false a b = at_most a b
finite_le false true a b = at_zero a b
finite_le true false a b = under a b
finite_le true true a b = ap (λ (t : Bool). ltb b a || (t && true)) (eqb_turned a b) ∙ at_most b a

pub at_most_not : (x y : Float) → is_nan x ≡ false → is_nan y ≡ false → le x y ≡ not (lt y x)
unfolding le lt is_nan
at_most_not nan y h k = absurd (true≢false h)
at_most_not (inf s) nan h k = absurd (true≢false k)
at_most_not (inf true) (inf true) h k = refl
at_most_not (inf true) (inf false) h k = refl
at_most_not (inf false) (inf true) h k = refl
at_most_not (inf false) (inf false) h k = refl
at_most_not (inf true) (fin t n d) h k = refl
at_most_not (inf false) (fin t n d) h k = refl
at_most_not (fin s m e) nan h k = absurd (true≢false k)
at_most_not (fin s m e) (inf true) h k = refl
at_most_not (fin s m e) (inf false) h k = refl
at_most_not (fin s m e) (fin t n d) h k = finite_le s t (m * up e * down d) (n * up d * down e)

pub no_most : (x y : Float) → is_nan y ≡ true → le x y ≡ false
unfolding le is_nan
no_most nan y k = refl
no_most (inf s) nan k = refl
no_most (inf s) (inf t) k = absurd (true≢false (sym k))
no_most (inf s) (fin t n d) k = absurd (true≢false (sym k))
no_most (fin s m e) nan k = refl
no_most (fin s m e) (inf t) k = absurd (true≢false (sym k))
no_most (fin s m e) (fin t n d) k = absurd (true≢false (sym k))
