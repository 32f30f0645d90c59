-- The four addresses of a superfine read: one law a return of the code. Assumes nothing.
use mathlib.Core.Path.{◌≡◌, refl, ap, sym, ◌∙◌, subst}
use mathlib.Core.Bool.{Bool, true, false}
use mathlib.Core.List.{[], ◌∷◌}
use Prim.Native.Nat.{ℕ, ◌+◌, ◌*◌, ◌/◌, ◌<◌, ◌≤◌}
use native.Mathlib.Omega.{arith}
use borrow.Author.Tests.{lt-ltb}
use Rattle.laws.specs.Choice.{◌and◌}
use Rattle.laws.proofs.Choice.{pick_yes, pick_no, and_intro, and_no_left, and_no_right}
use Rattle.refusal.specs.Told.{gives, refuses}
use Rattle.layout.specs.Layout.{well_formed, stride_of}
use Rattle.layout.specs.declared.Layout.{Layout}
use Rattle.address.specs.Offset.{offset_of}
use Rattle.address.specs.Address.{inside, address_of}
use Rattle.address.proofs.Answers.{malformed, ruleless, Taken, taken, whole, past_all, past_row, in_row}
use Rattle.address.proofs.Answers.{outside_column, outside_row, pair_asked, address_fits}
use Rattle.address.proofs.Inverse.{answered}
use Rattle.superfine.specs.Corners.{CornerAsked, CornersAsked, corners_at}
use Rattle.superfine.specs.Superfine.{four_inside, corners_of}
use Rattle.memory.proofs.Pairs.{out_of_window}

-- four addresses, each by its own equation
pub corners_told :
    (base e s : ℕ) (tiled : Bool) (x y right below across own : ℕ) → right ≡ base + offset_of tiled s e (x + 1) y →
    below ≡ base + offset_of tiled s e x (y + 1) → across ≡ base + offset_of tiled s e (x + 1) (y + 1) →
    own ≡ base + offset_of tiled s e x y → gives (right ∷ below ∷ across ∷ own ∷ []) ≡ corners_at base e s tiled x y
unfolding corners_at
corners_told base e s tiled x y right below across own er eb ec eo = rw (er, eb, ec, eo)

-- the size as a number that it is
module _ (base stride s : ℕ) (tiled : Bool) (x y n : ℕ) (e : s ≡ n) where
  pub asked_at : CornersAsked base stride s tiled x y → CornersAsked base stride n tiled x y
  asked_at asked = subst (λ (k : ℕ). CornersAsked base stride k tiled x y) e asked

  pub corners_at_lem : corners_at base (stride / n) n tiled x y ≡ corners_at base (stride / s) s tiled x y
  corners_at_lem = ap (λ (k : ℕ). corners_at base (stride / k) k tiled x y) (sym e)

module _ (l : Layout) (x y : ℕ) where
  pub corners_malformed : well_formed l.base.0 l.pitch l.size ≡ false → corners_of l x y ≡ refuses 3
  unfolding corners_of
  corners_malformed f = malformed l _ f

  module _
      (f : well_formed l.base.0 l.pitch l.size ≡ true) (r : ℕ)
      (er : r ≡ stride_of l.base.0 l.pitch l.height l.size l.tiled) where
    pub corners_ruleless : r < 1 → corners_of l x y ≡ refuses 6
    unfolding corners_of
    corners_ruleless k = ruleless l _ f r er k

    module _ (k : 1 ≤ r) where
      t : Taken l (r / l.size)
      t = taken l f r er k

      out : four_inside l x y ≡ false → corners_of l x y ≡ refuses 10
      unfolding corners_of
      out e = answered l t.accepted _ ∙ pick_no _ _ e

      right_out : r / l.size ≤ x + 1 → corners_of l x y ≡ refuses 10
      unfolding four_inside
      right_out h = out (and_no_left _ (out_of_window l (x + 1) y 10 t.accepted (outside_column l _ t (x + 1) y h)))

      pub past_all_rows : 4096 ≤ x → corners_of l x y ≡ refuses 10
      past_all_rows h = right_out (past_all l f r er k (x + 1) (omega (arith, h)))

      pub past_the_row : r ≤ (x + 1) * l.size → corners_of l x y ≡ refuses 10
      past_the_row h = right_out (past_row l f r er k (x + 1) h)

      pub below_out : l.height ≤ y + 1 → corners_of l x y ≡ refuses 10
      unfolding four_inside
      below_out h =
          out (and_no_right _ (and_no_left _ (out_of_window l x (y + 1) 10 t.accepted (outside_row l _ t x (y + 1) h))))

      pub own_out : l.height ≤ y → corners_of l x y ≡ refuses 10
      own_out h = below_out (omega (arith, h))

      module _ (hx : (x + 1) * l.size < r) (hy : y + 1 < l.height) where
        column : x + 1 < r / l.size
        column = in_row l f r er k (x + 1) hx

        corner_asked :
            (x' y' : ℕ) → x' < r / l.size → y' < l.height → CornerAsked l.base.0 r l.size l.tiled x' y'
        corner_asked x' y' hx' hy' =
            record {
              pair = pair_asked l _ t x' y' hx' hy';
              whole = whole l f r er k;
              fits = address_fits l _ t x' y' hx' hy' _ refl;
            }

        corners_asked : CornersAsked l.base.0 r l.size l.tiled x y
        corners_asked =
            record {
              right = corner_asked (x + 1) y column (omega (arith, hy));
              below = corner_asked x (y + 1) (omega (arith, column)) hy;
              across = corner_asked (x + 1) (y + 1) column hy;
              own = corner_asked x y (omega (arith, column)) (omega (arith, hy));
            }

        is_inside : (x' y' : ℕ) → x' < r / l.size → y' < l.height → inside l x' y' ≡ true
        unfolding inside
        is_inside x' y' hx' hy' = and_intro (lt-ltb _ _ (rw t.step at hx')) (lt-ltb _ _ hy')

        all_inside_lem : four_inside l x y ≡ true
        unfolding four_inside
        all_inside_lem =
            and_intro (is_inside (x + 1) y column (omega (arith, hy)))
            (and_intro (is_inside x (y + 1) (omega (arith, column)) hy)
            (and_intro (is_inside (x + 1) (y + 1) column hy) (is_inside x y (omega (arith, column)) (omega (arith, hy)))))

        corners_found : corners_at l.base.0 (r / l.size) l.size l.tiled x y ≡ corners_of l x y
        unfolding corners_of corners_at address_of
        corners_found =
            ap (λ (e : ℕ). corners_at l.base.0 e l.size l.tiled x y) t.step ∙
            sym (answered l t.accepted _ ∙ pick_yes _ _ all_inside_lem)

        -- the kind as the code's branch on it has it
        pub kind_asked : (tiled : Bool) → l.tiled ≡ tiled → CornersAsked l.base.0 r l.size tiled x y
        kind_asked tiled e = subst (λ (b : Bool). CornersAsked l.base.0 r l.size b x y) e corners_asked

        pub kind_found : (tiled : Bool) → l.tiled ≡ tiled → corners_at l.base.0 (r / l.size) l.size tiled x y ≡ corners_of l x y
        kind_found tiled e = ap (λ (b : Bool). corners_at l.base.0 (r / l.size) l.size b x y) (sym e) ∙ corners_found
