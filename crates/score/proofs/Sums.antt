-- A sum of numbers none of which is over a bound: it is at most so many bounds, and it is as much exactly where each number is
-- the bound. Assumes nothing.
use mathlib.Core.Path.{◌≡◌}
use Prim.Native.Nat.{ℕ, zero, suc, ◌*◌, ◌<◌, ◌≤◌}
use native.Mathlib.Nat.{suc-mul}
use native.Mathlib.Omega.{arith}
use lib.Dec.{eqb}
use borrow.Author.Tests.{eqb-true, eqb-false}
use Rattle.laws.specs.Below.{sum}
use Rattle.laws.proofs.Below.{sum_last}
use Rattle.laws.proofs.Choice.{Tested, tested, holds, fails}

module _ (f : ℕ → ℕ) (b : ℕ) where
  pub sum_full : (n : ℕ) → ((k : ℕ) → k < n → f k ≡ b) → sum n f ≡ n * b
  unfolding sum
  sum_full zero h = omega arith
  sum_full (suc n) h =
      omega (arith, sum_last n f, sum_full n (λ k le. h k (omega arith)), h n (omega arith), suc-mul n b)

  module _ (most : (k : ℕ) → f k ≤ b) where
    pub sum_most : (n : ℕ) → sum n f ≤ n * b
    unfolding sum
    sum_most zero = omega arith
    sum_most (suc n) = omega (arith, sum_last n f, sum_most n, most n, suc-mul n b)

    pub each_full : (n : ℕ) → sum n f ≡ n * b → (k : ℕ) → k < n → f k ≡ b
    each_full zero e k h = absurd (omega arith)
    each_full (suc n) e k h = go (each_full n) (tested (eqb k n))
      where
        go : (sum n f ≡ n * b → (j : ℕ) → j < n → f j ≡ b) → Tested (eqb k n) → f k ≡ b
        go before (holds same) =
            let last : f n ≡ b = omega (arith, e, sum_last n f, sum_most n, most n, suc-mul n b) in
            let is : k ≡ n = eqb-true k n same in
            rw is last
        go before (fails other) =
            let isnt : k ≡ n → ⊥ = eqb-false k n other in
            before (omega (arith, e, sum_last n f, sum_most n, most n, suc-mul n b)) k (omega arith)
