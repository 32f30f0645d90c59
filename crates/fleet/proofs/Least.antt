-- The least number at which a test holds: where it is known to hold there and nowhere below, and where it holds nowhere. Assumes nothing.
use mathlib.Core.Path.{◌≡◌, refl, sym, ap, ◌∙◌, subst}
use mathlib.Core.Bool.{Bool, true, false}
use Prim.Native.Nat.{ℕ, ◌<◌, ◌≤◌}
use native.Mathlib.Omega.{arith}
use lib.Dec.{eqb, ltb}
use borrow.Author.Tests.{ltb-true, ltb-false, lt-ltb, le-ltb}
use Rattle.laws.specs.Below.{least}
use Rattle.laws.specs.Masks.{digit}
use Rattle.laws.proofs.Below.{least_at, least_before}
use Rattle.laws.proofs.Choice.{Tested, holds, fails, tested}

pub yes_no : {t : Bool} → t ≡ true → t ≡ false → ⊥
unfolding digit
yes_no e f = let z : digit true ≡ digit false = ap digit (sym e ∙ f) in omega arith

module _ (n : ℕ) (f : ℕ → Bool) where
  pub least_is : (k : ℕ) → k < n → f k ≡ true → ((j : ℕ) → j < k → f j ≡ false) → least n f ≡ k
  least_is k h e below = go (tested (ltb (least n f) k)) (tested (ltb k (least n f)))
    where
      go : Tested (ltb (least n f) k) → Tested (ltb k (least n f)) → least n f ≡ k
      go (holds l) m =
          let less = ltb-true (least n f) k l in
          absurd (yes_no (least_at n f (omega arith)) (below (least n f) less))
      go (fails l) (holds m) = absurd (yes_no e (least_before n f k (ltb-true k (least n f) m)))
      go (fails l) (fails m) = omega (arith, ltb-false (least n f) k l, ltb-false k (least n f) m)

  pub least_none : ((j : ℕ) → j < n → f j ≡ false) → ltb (least n f) n ≡ false
  least_none none = go (tested (ltb (least n f) n))
    where
      go : Tested (ltb (least n f) n) → ltb (least n f) n ≡ false
      go (fails l) = l
      go (holds l) = let less = ltb-true (least n f) n l in absurd (yes_no (least_at n f less) (none (least n f) less))
