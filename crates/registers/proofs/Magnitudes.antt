-- What a bit pattern stands for: a number of a certain size, an infinity or no number, by its sign and its magnitude; and that a larger
-- magnitude is a larger size. Assumes nothing.
use mathlib.Core.Path.{◌≡◌, refl, sym, ap₂, ◌∙◌, subst}
use mathlib.Core.Logic.{◌⊎◌, inl, inr}
use mathlib.Core.Bool.{Bool, cond}
use Prim.Native.Nat.{ℕ, zero, suc, ◌+◌, ◌*◌, ◌/◌, ◌%◌, ◌^◌, ◌<◌, ◌≤◌}
use native.Mathlib.Nat.{le_trans, lt_of_lt_of_le, eq-or-lt_of_le, mul_assoc, mul-le-mul_left, mul-le-mul_right, mul-lt-mul_of_pos_right, pow-succ'}
use native.Mathlib.Omega.{arith}
use lib.Dec.{eqb, ltb}
use lib.Pow.{pow_pos, pow_mono}
use lib.Ieee.{Float, nan, inf, binary32, odd, of_fields, of_bits}
use lib.Ieee.Exact.{HasValue, odd_sign}
use borrow.Author.Tests.{ltb-true, ltb-false, eqb-true, eqb-false, lt-ltb, le-ltb}
use Rattle.laws.proofs.Choice.{Tested, holds, fails, tested}
use Rattle.registers.specs.Pattern.{magnitude, negative}
use Rattle.registers.specs.Registers.{float}

-- the size of a magnitude in units of the smallest f32 above zero, 2 ^ -149, by its fields: exponent and fraction
abbrev sized : ℕ → ℕ → ℕ
sized zero t = t * 2 ^ 0
sized (suc x) t = (0x800000 + t) * 2 ^ x

-- the same by the magnitude, whose lower 23 bits are the fraction
abbrev pub size_of : ℕ → ℕ
size_of m = sized (m / 0x800000) (m % 0x800000)

-- what a sign and a magnitude stand for
pub data Class (s : Bool) (m : ℕ) (v : Float) : Type 0 where
  finite : m < 0x7F800000 → HasValue v s (size_of m) (2 ^ 149) → Class s m v
  infinite : m ≡ 0x7F800000 → v ≡ inf s → Class s m v
  no_number : 0x7F800000 < m → v ≡ nan → Class s m v

by_fields_lem :
    (s : Bool) (m x t : ℕ) → m < 0x80000000 → x ≡ m / 0x800000 → t ≡ m % 0x800000 → Class s m (of_fields binary32 s x t)
unfolding of_fields
by_fields_lem s m zero t h e f =
    finite (omega arith)
    (subst (λ (n : ℕ). HasValue (odd 24 s t 0 149) s n (2 ^ 149)) (ap₂ sized e f) (odd_sign 24 s t 0 149))
by_fields_lem s m (suc x) t h e f = go (tested (eqb (suc x) 255)) (tested (eqb t 0))
  where
    go :
        Tested (eqb (suc x) 255) → Tested (eqb t 0) →
        Class s m (cond (eqb (suc x) 255) (cond (eqb t 0) (inf s) nan) (odd 24 s (0x800000 + t) x 149))
    go (holds p) (holds q) =
        let a : suc x ≡ 255 = eqb-true (suc x) 255 p in
        let b : t ≡ 0 = eqb-true t 0 q in
        infinite (omega arith) (rw (p, q) refl)
    go (holds p) (fails q) =
        let a : suc x ≡ 255 = eqb-true (suc x) 255 p in
        let b : t ≡ 0 → ⊥ = eqb-false t 0 q in
        no_number (omega arith) (rw (p, q) refl)
    go (fails p) q =
        let a : suc x ≡ 255 → ⊥ = eqb-false (suc x) 255 p in
        finite (omega arith)
        (rw p (subst (λ (n : ℕ). HasValue (odd 24 s (0x800000 + t) x 149) s n (2 ^ 149)) (ap₂ sized e f) (odd_sign 24 s (0x800000 + t) x 149)))

-- every pattern stands for what its sign and its magnitude say
pub classify : (n : ℕ) → Class (negative n) (magnitude n) (float n)
unfolding of_bits
classify n = by_fields_lem (negative n) (magnitude n) (magnitude n / 0x800000) (n % 0x800000) (omega arith) refl (low n)
  where
    low : (n : ℕ) → n % 0x800000 ≡ n % 0x80000000 % 0x800000
    low n = omega arith

-- a larger magnitude is a larger size
sized_lt : (x t : ℕ) → t < 0x800000 → sized x t < 0x800000 * 2 ^ x
sized_lt zero t h = omega arith
sized_lt (suc x) t h = omega (arith, mul-lt-mul_of_pos_right (twice t h) (pow_pos x), pow-succ' 2 x, mul_assoc 0x800000 2 (2 ^ x))
  where
    twice : (t : ℕ) → t < 0x800000 → 0x800000 + t < 0x800000 * 2
    twice t h = omega arith

sized_ge : (x t : ℕ) → 0x800000 * 2 ^ x ≤ sized (suc x) t
sized_ge x t = mul-le-mul_right (2 ^ x) (more t)
  where
    more : (t : ℕ) → 0x800000 ≤ 0x800000 + t
    more t = omega arith

-- of two fractions the larger is the larger size, and a larger exponent makes it larger whatever the fractions
same_field : (x t u : ℕ) → t < u → sized x t < sized x u
same_field zero t u h = omega arith
same_field (suc x) t u h = mul-lt-mul_of_pos_right (more t u h) (pow_pos x)
  where
    more : (t u : ℕ) → t < u → 0x800000 + t < 0x800000 + u
    more t u h = omega arith

higher_field : (x y t u : ℕ) → x < y → t < 0x800000 → sized x t < sized y u
higher_field x zero t u h k = absurd (omega arith)
higher_field x (suc y) t u h k =
    lt_of_lt_of_le (sized_lt x t k) (le_trans (mul-le-mul_left 0x800000 (pow_mono (below_next x y h))) (sized_ge y u))
  where
    below_next : (x y : ℕ) → x < suc y → x ≤ y
    below_next x y h = omega arith

size_lt : (m k : ℕ) → m < k → size_of m < size_of k
size_lt m k h = go (eq-or-lt_of_le (fields m k h))
  where
    fields : (m k : ℕ) → m < k → m / 0x800000 ≤ k / 0x800000
    fields m k h = omega arith

    digits : (m k : ℕ) → m < k → m / 0x800000 ≡ k / 0x800000 → m % 0x800000 < k % 0x800000
    digits m k h e = omega arith

    few : (m : ℕ) → m % 0x800000 < 0x800000
    few m = omega arith

    go : (m / 0x800000 ≡ k / 0x800000) ⊎ (m / 0x800000 < k / 0x800000) → size_of m < size_of k
    go (inl e) =
        subst (λ (x : ℕ). sized (m / 0x800000) (m % 0x800000) < sized x (k % 0x800000)) e
        (same_field (m / 0x800000) (m % 0x800000) (k % 0x800000) (digits m k h e))
    go (inr l) = higher_field (m / 0x800000) (k / 0x800000) (m % 0x800000) (k % 0x800000) l (few m)

-- so sizes compare as magnitudes do
pub size_ltb : (m k : ℕ) → ltb (size_of m) (size_of k) ≡ ltb m k
size_ltb m k = go (tested (ltb m k))
  where
    go : Tested (ltb m k) → ltb (size_of m) (size_of k) ≡ ltb m k
    go (holds e) = lt-ltb (size_of m) (size_of k) (size_lt m k (ltb-true m k e)) ∙ sym e
    go (fails e) = le-ltb (size_of m) (size_of k) (back (eq-or-lt_of_le (ltb-false m k e))) ∙ sym e
      where
        back : (k ≡ m) ⊎ (k < m) → size_of k ≤ size_of m
        back (inl z) = subst (λ (n : ℕ). size_of k ≤ size_of n) z (omega arith)
        back (inr l) = let q = size_lt k m l in omega arith

pub size_some : (m : ℕ) → ltb 0 (size_of m) ≡ ltb 0 m
size_some m = size_ltb 0 m
