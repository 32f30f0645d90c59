-- What request 11 says of floats, by bit patterns: for every pattern of 32 bits, less than zero, at least zero, the maximum and the
-- choice go by what specs/Pattern.antt writes. Assumes nothing.
use mathlib.Core.Path.{◌≡◌, refl, sym, ap, ap₂, ◌∙◌}
use mathlib.Core.Bool.{Bool, true, false, not}
use mathlib.Core.List.{List, map}
use Prim.Native.Nat.{ℕ, ◌+◌, ◌*◌, ◌%◌, ◌^◌, ◌<◌, ◌≤◌, zero-le}
use native.Mathlib.Omega.{arith}
use lib.Dec.{T, leb, ltb}
use lib.ListN.{get_or, get_or-map}
use lib.Ieee.{Float, binary32, nan, of_bits, to_bits, fits, is_nan, lt, le}
use lib.Ieee.Bits.{of_bits-to_bits, to_bits-lt, nan_bits_is, nan_bits_above}
use borrow.Author.Tests.{leb-true, leb-false, le-ltb, lt-ltb, le-leb}
use Rattle.laws.specs.Choice.{◌and◌, pick}
use Rattle.laws.specs.Below.{some}
use Rattle.laws.specs.Masks.{◌or◌, on}
use Rattle.laws.proofs.Choice.{Tested, holds, fails, tested}
use Rattle.registers.specs.Pattern.{below_zero, not_below_zero, less_than, no_number, killed_by_bits}
use Rattle.registers.specs.Registers.{float, less_than_zero, at_least_zero, maximum_of, choice_of, killed_by, masked_at}
use Rattle.registers.proofs.Order.{less_than_lem, at_most_not, no_most}

leb_same : (a b c d : ℕ) → (a ≤ b → c ≤ d) → (c ≤ d → a ≤ b) → leb a b ≡ leb c d
leb_same a b c d f g = go (tested (leb a b))
  where
    go : Tested (leb a b) → leb a b ≡ leb c d
    go (holds e) = e ∙ sym (le-leb c d (f (leb-true a b e)))
    go (fails e) = by (tested (leb c d))
      where
        by : Tested (leb c d) → leb a b ≡ leb c d
        by (holds t) = le-leb a b (g (leb-true c d t)) ∙ sym t
        by (fails t) = e ∙ sym t

and_turned : (a b : Bool) → (a and b) ≡ (b and a)
unfolding ◌and◌
and_turned true true = refl
and_turned true false = refl
and_turned false true = refl
and_turned false false = refl

never : (a : Bool) → (a and false) ≡ false
unfolding ◌and◌
never true = refl
never false = refl

-- "less than zero", for every pattern of 32 bits
pub below_zero_lem : (n : ℕ) → n < 2 ^ 32 → less_than_zero (float n) ≡ below_zero n
unfolding less_than below_zero ◌and◌ pick
below_zero_lem n h = less_than_lem n 0 ∙ go (tested (leb 0x80000000 n))
  where
    go : Tested (leb 0x80000000 n) → less_than n 0 ≡ (ltb 0x80000000 n and leb n 0xFF800000)
    go (holds e) =
        let l : 0x80000000 ≤ n = leb-true 0x80000000 n e in
        rw e
        (ap₂ ◌and◌
        (leb_same (n % 0x80000000) 0x7F800000 n 0xFF800000 (λ k. omega arith) (λ k. omega arith))
        (leb_same 1 (n % 0x80000000 + 0) 0x80000001 n (λ k. omega arith) (λ k. omega arith)) ∙
        and_turned (leb n 0xFF800000) (ltb 0x80000000 n))
    go (fails e) =
        let l : n < 0x80000000 = leb-false 0x80000000 n e in
        rw e
        (ap (λ (b : Bool). leb (n % 0x80000000) 0x7F800000 and b) (le-ltb (n % 0x80000000) 0 zero-le) ∙
        never (leb (n % 0x80000000) 0x7F800000) ∙
        sym (ap (λ (b : Bool). b and leb n 0xFF800000) (le-ltb 0x80000000 n (omega arith))))

-- "at least zero", for every pattern of 32 bits
pub at_least_zero_lem : (n : ℕ) → n < 2 ^ 32 → at_least_zero (float n) ≡ not_below_zero n
unfolding not_below_zero ◌and◌
at_least_zero_lem n h = go (tested (leb (n % 0x80000000) 0x7F800000))
  where
    zero_number : is_nan (float 0) ≡ false
    zero_number = sym (nan_bits_is binary32 0) ∙ nan_bits_above binary32 0

    pattern_nan : is_nan (float n) ≡ ltb 0x7F800000 (n % 0x80000000)
    pattern_nan = sym (nan_bits_is binary32 n) ∙ nan_bits_above binary32 n

    go : Tested (leb (n % 0x80000000) 0x7F800000) → at_least_zero (float n) ≡ (leb (n % 0x80000000) 0x7F800000 and not (below_zero n))
    go (holds e) =
        at_most_not (float 0) (float n) zero_number
        (pattern_nan ∙ le-ltb 0x7F800000 (n % 0x80000000) (leb-true (n % 0x80000000) 0x7F800000 e)) ∙
        ap not (below_zero_lem n h) ∙ rw e refl
    go (fails e) =
        no_most (float 0) (float n) (pattern_nan ∙ lt-ltb 0x7F800000 (n % 0x80000000) (leb-false (n % 0x80000000) 0x7F800000 e)) ∙
        rw e refl

-- every f32 is the float of its bits, so what holds of patterns holds of floats
pub of_pattern : (x : Float) → T (fits binary32 x) → (float (to_bits binary32 x) ≡ x) × (to_bits binary32 x < 2 ^ 32)
of_pattern x h = (of_bits-to_bits binary32 x h, to_bits-lt binary32 x h)

-- "Minus zero and NaN are not less than zero; minus infinity is.": minus zero, a NaN of either sign, minus infinity, and the negative
-- number next to zero
pub less_than_zero_cases :
    (less_than_zero (float 0x80000000) ≡ false) × (less_than_zero (float 0x7FC00000) ≡ false) ×
    (less_than_zero (float 0xFFC00000) ≡ false) × (less_than_zero (float 0xFF800000) ≡ true) ×
    (less_than_zero (float 0x80000001) ≡ true)
unfolding lt of_bits
less_than_zero_cases = (refl, refl, refl, refl, refl)

-- the choice's test of the same five: minus zero is at least zero, the others aren't
pub at_least_zero_cases :
    (at_least_zero (float 0x80000000) ≡ true) × (at_least_zero (float 0x7FC00000) ≡ false) ×
    (at_least_zero (float 0xFFC00000) ≡ false) × (at_least_zero (float 0xFF800000) ≡ false) ×
    (at_least_zero (float 0x80000001) ≡ false)
unfolding le of_bits
at_least_zero_cases = (refl, refl, refl, refl, refl)

-- the maximum and the choice, for every pattern
pub maximum_pattern : (a b : ℕ) → maximum_of a b ≡ pick (less_than b a) a b
maximum_pattern a b = ap (λ (t : Bool). pick t a b) (less_than_lem b a)

pub choice_pattern : (a b third : ℕ) → third < 2 ^ 32 → choice_of a b third ≡ pick (not_below_zero third) a b
choice_pattern a b third h = ap (λ (t : Bool). pick t a b) (at_least_zero_lem third h)

-- who is killed, by the bits of the registers alone
pub killed_pattern :
    (mask : ℕ) (l : List ℕ) (i : ℕ) → ((k : ℕ) → get_or l k no_number < 2 ^ 32) →
    killed_by (masked_at (map float l) i mask) ≡ killed_by_bits mask l i
unfolding killed_by killed_by_bits some of_bits
killed_pattern mask l i low =
    ap₂ ◌or◌ (at 0 (i * 4) ∙ ap (λ (k : ℕ). on 0 mask and below_zero (get_or l k no_number)) (same i))
    (ap₂ ◌or◌ (at 1 (i * 4 + 1)) (ap₂ ◌or◌ (at 2 (i * 4 + 2)) (ap (λ (t : Bool). t or false) (at 3 (i * 4 + 3)))))
  where
    at : (c k : ℕ) → (on c mask and less_than_zero (get_or (map float l) k nan)) ≡ (on c mask and below_zero (get_or l k no_number))
    at c k =
        ap (λ (t : Bool). on c mask and t)
        (ap less_than_zero (get_or-map float l k no_number) ∙ below_zero_lem (get_or l k no_number) (low k))

    same : (i : ℕ) → i * 4 ≡ i * 4 + 0
    same i = omega arith
