-- The test of one pair: one law a return of the code. Assumes nothing.
use mathlib.Core.Path.{◌≡◌, sym, ap, ◌∙◌}
use mathlib.Core.Bool.{Bool}
use mathlib.Core.List.{List, [], ◌∷◌}
use Prim.Native.Nat.{ℕ, ◌+◌, ◌≤◌}
use native.Mathlib.Omega.{arith}
use lib.ListN.{length}
use Rattle.laws.specs.Masks.{digit}
use Rattle.refusal.specs.Told.{gives, refuses}
use Rattle.layout.specs.declared.Layout.{Layout}
use Rattle.memory.specs.Elements.{find_of}
use Rattle.memory.proofs.Places.{found, not_found}
use Rattle.conditions.specs.Conditions.{passes, word_in}
use Rattle.conditional.specs.Conditional.{word_at, passes_at, pair_of}

module _ (l : Layout) (x y first : ℕ) (m : List ℕ) where
  pub pair_refused : (test v k : ℕ) → find_of l x y first (length m) ≡ refuses k → pair_of l test v first m x y ≡ refuses k
  unfolding pair_of
  pair_refused test v k told = not_found l x y first (length m) k _ _ (λ h. h) told

  pub two_inside : (p : ℕ) → l.size ≡ 2 → find_of l x y first (length m) ≡ gives (p ∷ []) → p + 2 ≤ length m
  two_inside p two told = omega (arith, (found l x y first (length m) p told).fits)

  pub pair_tested :
      (test v p b : ℕ) (passed : Bool) → find_of l x y first (length m) ≡ gives (p ∷ []) →
      b ≡ word_in m p → passed ≡ passes test v b →
      gives (digit passed ∷ []) ≡ pair_of l test v first m x y
  unfolding pair_of passes_at word_at
  pair_tested test v p b passed told eb ep =
      let f = found l x y first (length m) p told in
      ap (λ (t : Bool). gives (digit t ∷ [])) (ep ∙ ap (passes test v) (eb ∙ ap (word_in m) f.place)) ∙
      sym (f.told _ _ f.held)
