-- A list with a part replaced: its length, the part, and what lies before and after it. Assumes nothing.
use mathlib.Core.Path.{◌≡◌, sym, ap, ap₂, ◌∙◌}
use mathlib.Core.List.{List, ◌++◌, append_assoc}
use Prim.Native.Nat.{ℕ, ◌+◌, ◌-◌, ◌≤◌}
use native.Mathlib.Omega.{arith}
use lib.ListN.{length, take, drop, length-append, length-drop, take-append-drop}
use lib.Seq.{length-take-le, take-append_seam, take-append-le, drop-append-le, drop-append-add, drop-drop, drop_at}
use Rattle.memory.specs.Elements.{overwritten}

-- a part that ends within the first list
within_front : (p r : List ℕ) (q k : ℕ) → q + k ≤ length p → take k (drop q (p ++ r)) ≡ take k (drop q p)
within_front p r q k h =
    let e : length (drop q p) ≡ length p - q = length-drop q p in
    let fits : k ≤ length (drop q p) = omega arith in
    ap (λ (l : List ℕ). take k l) (drop-append-le q p r (omega arith)) ∙ take-append-le k (drop q p) r fits

module _ (a : ℕ) (g m : List ℕ) (h : a + length g ≤ length m) where
  front : length (take a m) ≡ a
  front = length-take-le a m (omega arith)

  pub length_overwritten : length (overwritten a g m) ≡ length m
  unfolding overwritten
  length_overwritten =
      length-append (take a m) (g ++ drop (a + length g) m) ∙
      omega (arith, front, length-append g (drop (a + length g) m), length-drop (a + length g) m)

  pub part_overwritten : take (length g) (drop a (overwritten a g m)) ≡ g
  unfolding overwritten
  part_overwritten =
      ap (λ (l : List ℕ). take (length g) l) (drop_at (take a m) (g ++ drop (a + length g) m) a front) ∙
      take-append_seam g (drop (a + length g) m)

  pub before_overwritten : (q k : ℕ) → q + k ≤ a → take k (drop q (overwritten a g m)) ≡ take k (drop q m)
  unfolding overwritten
  before_overwritten q k e =
      let fits : q + k ≤ length (take a m) = omega (arith, front) in
      within_front (take a m) (g ++ drop (a + length g) m) q k fits ∙
      sym (within_front (take a m) (drop a m) q k fits) ∙
      ap (λ (l : List ℕ). take k (drop q l)) (take-append-drop a m)

  pub after_overwritten : (q k : ℕ) → a + length g ≤ q → take k (drop q (overwritten a g m)) ≡ take k (drop q m)
  unfolding overwritten
  after_overwritten q k e =
      ap (λ (l : List ℕ). take k l)
      (ap₂ (λ (n : ℕ) (l : List ℕ). drop n l) there (sym (append_assoc (take a m) g (drop (a + length g) m))) ∙
      drop-append-add (take a m ++ g) (drop (a + length g) m) (q - (a + length g)) ∙
      drop-drop (q - (a + length g)) (a + length g) m ∙
      ap (λ (n : ℕ). drop n m) here)
    where
      there : q ≡ length (take a m ++ g) + (q - (a + length g))
      there = omega (arith, front, length-append (take a m) g)

      here : a + length g + (q - (a + length g)) ≡ q
      here = omega arith
