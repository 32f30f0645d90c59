-- Tests and sums over all numbers below a number. Assumes nothing.
use Rattle.std.specs.Prelude.{Bool, true, false, ℕ, zero, suc, ◌+◌}
use Rattle.laws.specs.Choice.{◌and◌, pick}
use Rattle.laws.specs.Masks.{◌or◌, digit}

-- the test holds at some number, at every number below `k`
unfoldable pub some : ℕ → (ℕ → Bool) → Bool
unfolding ◌or◌
some zero f = false
some (suc k) f = f zero or some k (λ i. f (suc i))

unfoldable pub every : ℕ → (ℕ → Bool) → Bool
unfolding ◌and◌
every zero f = true
every (suc k) f = f zero and every k (λ i. f (suc i))

-- the sum of the values at the numbers below `k`
unfoldable pub sum : ℕ → (ℕ → ℕ) → ℕ
sum zero f = 0
sum (suc k) f = f zero + sum k (λ i. f (suc i))

-- how many numbers below `k` the test holds at
unfoldable pub count : ℕ → (ℕ → Bool) → ℕ
count k f = sum k (λ i. digit (f i))

-- the least number below `k` at which the test holds; `k` where there is none
unfoldable pub least : ℕ → (ℕ → Bool) → ℕ
unfolding pick
least zero f = 0
least (suc k) f = pick (f zero) 0 (suc (least k (λ i. f (suc i))))
