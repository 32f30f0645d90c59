-- Laws of single bits. Assumes nothing.
use mathlib.Core.Path.{◌≡◌, refl}
use Prim.Native.Nat.{ℕ, zero, suc, ◌%◌, ◌<◌}
use native.Mathlib.Omega.{arith}
use lib.Bits.{bit_xor}
use Rattle.laws.specs.Bits.{bit, xor}

pub xor_lt : (a b : ℕ) → xor a b < 2
unfolding xor
xor_lt a b = omega arith

-- what an exclusive or put in, the same exclusive or takes out
pub xor_back : (a b : ℕ) → a < 2 → xor (xor a b) b ≡ a
unfolding xor
xor_back a b h = omega arith

pub bit_zero : (n : ℕ) → bit 0 n ≡ n % 2
bit_zero n = omega arith

too_high_lem : (n : ℕ) → suc (suc n) < 2 → ⊥
too_high_lem n h = omega arith

-- the machine's exclusive or, at two bits
pub xor_of : (a b : ℕ) → a < 2 → b < 2 → bit_xor a b ≡ xor a b
unfolding xor
xor_of zero zero ha hb = refl
xor_of zero (suc zero) ha hb = refl
xor_of (suc zero) zero ha hb = refl
xor_of (suc zero) (suc zero) ha hb = refl
xor_of zero (suc (suc b)) ha hb = absurd (too_high_lem b hb)
xor_of (suc zero) (suc (suc b)) ha hb = absurd (too_high_lem b hb)
xor_of (suc (suc a)) b ha hb = absurd (too_high_lem a ha)
