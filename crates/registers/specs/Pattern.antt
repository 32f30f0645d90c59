-- Floats by their bits, as an auditor reads them: IEEE 754's order of binary32 over bit patterns. Bit 31 is the sign; without it a
-- pattern is the magnitude: 7F800000 is infinity, and what is above it is a NaN. proofs/Patterns.antt has it that this is the
-- order of specs/Registers.antt, for every pattern. Assumes nothing.
use Rattle.std.specs.Prelude.{Bool, false, not, List, ℕ, ◌+◌, ◌*◌, ◌%◌, leb, ltb, get_or}
use Rattle.laws.specs.Choice.{◌and◌, pick}
use Rattle.laws.specs.Below.{some}
use Rattle.laws.specs.Masks.{on}
use Rattle.registers.specs.Registers.{channel_count}

abbrev pub sign_bit : ℕ
sign_bit = 0x80000000

abbrev pub infinity : ℕ
infinity = 0x7F800000

abbrev pub minus_infinity : ℕ
minus_infinity = 0xFF800000

abbrev pub magnitude : ℕ → ℕ
magnitude bits = bits % sign_bit

abbrev pub negative : ℕ → Bool
negative bits = leb sign_bit bits

-- no NaN
abbrev pub is_number : ℕ → Bool
is_number bits = leb (magnitude bits) infinity

-- "Minus zero and NaN are not less than zero; minus infinity is.": above 80000000, which is minus zero, and at most FF800000, which is
-- minus infinity
unfoldable pub below_zero : ℕ → Bool
below_zero bits = ltb sign_bit bits and leb bits minus_infinity

-- "at least zero": a number that is not below zero, and so minus zero too; a NaN isn't
unfoldable pub not_below_zero : ℕ → Bool
not_below_zero bits = is_number bits and not (below_zero bits)

-- a < b: both are numbers, and by their signs: of two negative ones the larger magnitude is below, a negative one is below another
-- unless both are zero, another is never below a negative one, and of two others the smaller magnitude is below
unfoldable pub less_than : ℕ → ℕ → Bool
less_than a b =
    is_number a and is_number b and
    pick (negative a)
    (pick (negative b) (ltb (magnitude b) (magnitude a)) (ltb 0 (magnitude a + magnitude b)))
    (pick (negative b) false (ltb (magnitude a) (magnitude b)))

-- a NaN: what stands past a list's end
abbrev pub no_number : ℕ
no_number = 0x7FC00000

-- processor i of a list of patterns, four a processor, has a channel under the mask less than zero
unfoldable pub killed_by_bits : ℕ → List ℕ → ℕ → Bool
killed_by_bits mask l i = some channel_count (λ c. on c mask and below_zero (get_or l (i * channel_count + c) no_number))
