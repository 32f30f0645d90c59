-- Whether every pair of a rectangle is inside, by its corners. Assumes nothing.
use mathlib.Core.Path.{◌≡◌, refl, sym, ap, ◌∙◌, subst}
use mathlib.Core.Bool.{Bool, true, false, false≢true}
use Prim.Native.Nat.{ℕ, zero, suc, ◌+◌, ◌-◌, ◌<◌, ◌≤◌}
use native.Mathlib.Omega.{arith}
use lib.Dec.{leb, ltb}
use borrow.Author.Tests.{ltb-true, lt-ltb, leb-true, leb-false}
use Rattle.laws.specs.Below.{every}
use Rattle.laws.specs.Choice.{◌and◌}
use Rattle.laws.proofs.Below.{every_at, every_of}
use Rattle.laws.proofs.Choice.{and_intro, and_left, and_right, Tested, tested, holds, fails}
use Rattle.rectangles.specs.Bulk.{all_within}

module _ (e height x y w h : ℕ) where
  pub no_columns : w ≡ 0 → all_within e height x y w h ≡ true
  unfolding all_within
  no_columns ew =
      every_of h (λ j. every w (λ i. ltb (x + i) e and ltb (y + j) height))
      (λ j hj. every_of w (λ i. ltb (x + i) e and ltb (y + j) height) (λ i hi. absurd (omega (arith, hi, ew))))

  pub no_rows : h ≡ 0 → all_within e height x y w h ≡ true
  unfolding all_within
  no_rows eh =
      every_of h (λ j. every w (λ i. ltb (x + i) e and ltb (y + j) height)) (λ j hj. absurd (omega (arith, hj, eh)))

  pub corners : 0 < w → 0 < h → all_within e height x y w h ≡ true → (x + w ≤ e) × (y + h ≤ height)
  unfolding all_within
  corners some rows all =
      let row = every_at h (λ j. every w (λ i. ltb (x + i) e and ltb (y + j) height)) all (h - 1) (omega (arith, rows)) in
      let pair = every_at w (λ i. ltb (x + i) e and ltb (y + (h - 1)) height) row (w - 1) (omega (arith, some)) in
      let c : x + (w - 1) < e = ltb-true _ _ (and_left _ _ pair) in
      let r : y + (h - 1) < height = ltb-true _ _ (and_right _ _ pair) in
      (omega (arith, c, some), omega (arith, r, rows))

  pub all_in : x + w ≤ e → y + h ≤ height → all_within e height x y w h ≡ true
  unfolding all_within
  all_in hx hy =
      every_of h (λ j. every w (λ i. ltb (x + i) e and ltb (y + j) height))
      (λ j hj. every_of w (λ i. ltb (x + i) e and ltb (y + j) height)
      (λ i hi. and_intro (lt-ltb (x + i) e (omega (arith, hx, hi))) (lt-ltb (y + j) height (omega (arith, hy, hj)))))

  pub one_out : 0 < w → 0 < h → ((x + w ≤ e) × (y + h ≤ height) → ⊥) → all_within e height x y w h ≡ false
  one_out some rows never = go (tested (all_within e height x y w h))
    where
      go : Tested (all_within e height x y w h) → all_within e height x y w h ≡ false
      go (holds t) = absurd (never (corners some rows t))
      go (fails t) = t

  pub last_test : 0 < w → 0 < h → x + w ≤ e → h ≤ height → leb y (height - h) ≡ all_within e height x y w h
  last_test some rows hx hh = go (tested (leb y (height - h)))
    where
      go : Tested (leb y (height - h)) → leb y (height - h) ≡ all_within e height x y w h
      go (holds t) = t ∙ sym (all_in hx (let z : y ≤ height - h = leb-true _ _ t in omega (arith, z, hh)))
      go (fails t) =
          t ∙ sym (one_out some rows (λ c. let z : height - h < y = leb-false _ _ t in omega (arith, z, c.1)))
