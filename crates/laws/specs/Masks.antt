-- Words as masks: bit i of a word stands for the thing with number i. Assumes nothing.
use Rattle.std.specs.Prelude.{◌≡◌, Bool, true, false, ℕ, zero, suc, ◌+◌, ◌*◌, eqb}
use Rattle.laws.specs.Bits.{bit}

infixr 30 ◌or◌
-- at least one of two tests holds
unfoldable pub ◌or◌ : Bool → Bool → Bool
true or b = true
false or b = b

-- just one of two tests holds
unfoldable pub differ : Bool → Bool → Bool
differ true true = false
differ true false = true
differ false b = b

-- a test as a bit
unfoldable pub digit : Bool → ℕ
digit true = 1
digit false = 0

-- bit `i` of the word `n`, as a test
unfoldable pub on : ℕ → ℕ → Bool
on i n = eqb (bit i n) 1

-- the word whose bit `i` is `f i` for each `i` below `k`, and which has no other bit
unfoldable pub pack : ℕ → (ℕ → Bool) → ℕ
unfolding digit
pack zero f = 0
pack (suc k) f = digit (f zero) + pack k (λ i. f (suc i)) * 2

-- the word `a` has, of its `k` bits, just those at which the test holds
pub record Places (k : ℕ) (f : ℕ → Bool) (a : ℕ) : Type 0 where
  pub word : a ≡ pack k f
