-- A test and its opposite split the values: 1 and 4, 2 and 5, 3 and 6, 0 and 7. Assumes nothing.
use Rattle.std.proofs.Common.{◌≡◌, ℕ, not, ltb, leb, sym, refl, ap, ◌∙◌, ltb-false, ltb-true, le-ltb, lt-ltb, le-leb, leb-false, leb-true}
use borrow.Author.Tests.{lt-leb}
use Rattle.laws.proofs.Choice.{Tested, tested, holds, fails}
use Rattle.conditions.specs.Conditions.{passes}

pub less_or_not : (v b : ℕ) → leb b v ≡ not (ltb v b)
less_or_not v b = go (tested (ltb v b))
  where
    go : Tested (ltb v b) → leb b v ≡ not (ltb v b)
    go (holds h) = lt-leb b v (ltb-true v b h) ∙ sym (ap not h)
    go (fails h) = le-leb b v (ltb-false v b h) ∙ sym (ap not h)

pub more_or_not : (v b : ℕ) → ltb b v ≡ not (leb v b)
more_or_not v b = go (tested (leb v b))
  where
    go : Tested (leb v b) → ltb b v ≡ not (leb v b)
    go (holds h) = le-ltb b v (leb-true v b h) ∙ sym (ap not h)
    go (fails h) = lt-ltb b v (leb-false v b h) ∙ sym (ap not h)

module _ (v b : ℕ) where
  pub opposite_1_4 : passes 4 v b ≡ not (passes 1 v b)
  unfolding passes
  opposite_1_4 = less_or_not v b

  pub opposite_2_5 : passes 5 v b ≡ not (passes 2 v b)
  unfolding passes
  opposite_2_5 = more_or_not v b

  pub opposite_3_6 : passes 6 v b ≡ not (passes 3 v b)
  unfolding passes
  opposite_3_6 = refl

  pub opposite_0_7 : passes 7 v b ≡ not (passes 0 v b)
  unfolding passes
  opposite_0_7 = refl
