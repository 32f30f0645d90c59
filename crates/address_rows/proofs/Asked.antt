-- A row of an accepted window, all of whose pairs are inside, is what the routine asks for; and what it leaves is the pairs' addresses.
-- Assumes nothing.
use mathlib.Core.Path.{◌≡◌, refl, sym, ap, ◌∙◌, subst}
use mathlib.Core.Bool.{true}
use mathlib.Core.List.{List}
use Prim.Native.Nat.{ℕ, ◌+◌, ◌*◌, ◌/◌, ◌<◌, ◌≤◌, ◌^◌}
use native.Mathlib.Nat.{mul-div_cancel, mul-le-mul}
use native.Mathlib.Omega.{arith}
use mir.Val.{Fits}
use mir.Syntax.{w32}
use lib.ListN.{length}
use Rattle.layout.specs.Sizes.{is_size}
use Rattle.layout.specs.declared.Layout.{Layout}
use Rattle.layout.proofs.Sizes.{by_size}
use Rattle.layout.proofs.Window.{rule_bounds, size_most, form_size}
use Rattle.address.specs.Offset.{offset_of}
use Rattle.address.specs.Address.{step_of, address_of}
use Rattle.address.specs.Inverse.{Accepted, Inside}
use Rattle.address.specs.Run.{run_number}
use Rattle.address.proofs.Inverse.{inverse}
use Rattle.address.proofs.Runs.{run_number_lem, longest}
use Rattle.address_rows.specs.Rows.{listed, element_at, RowAsked}

pub positive : (s : ℕ) → is_size s ≡ true → 0 < s
positive = by_size (λ (s : ℕ). 0 < s) (omega arith) (omega arith) (omega arith) (omega arith) (omega arith)

module _ (l : Layout) (accepted : Accepted l) (step : ℕ) (step_is : step ≡ step_of l) where
  abbrev s : ℕ
  s = l.size

  size : is_size s ≡ true
  size = form_size l.base.0 l.pitch s accepted.form

  bounds : (step_of l ≤ 4096) × (l.height ≤ 4096)
  bounds =
      let b = rule_bounds l.base.0 l.tiled s (step_of l) l.height accepted.window in (b.step_most, b.height_most)

  same_step : step * s / s ≡ step_of l
  same_step = mul-div_cancel step (positive s size) ∙ step_is

  pub stride_fits : Fits w32 (step * s)
  stride_fits =
      let a : step ≤ 4096 = omega (arith, step_is, bounds.0) in
      let q : step * s ≤ 4096 * 16 = mul-le-mul a (size_most s size) in
      omega (arith, q)

  module _ (x y n : ℕ) (columns : x + n ≤ step_of l) (row : y < l.height) where
    inside : (c : ℕ) → c < step_of l → Inside l c y
    inside c hc = record { column = hc; row = row }

    some_run : (c : ℕ) → c < step_of l → 0 < run_number l.tiled s (step_of l) c
    some_run c hc =
        let i = inside c hc in omega (arith, run_number_lem l accepted c y i, (longest l accepted c y i).least)

    follow_run :
        (c k : ℕ) → c < step_of l → k < run_number l.tiled s (step_of l) c →
        offset_of l.tiled s (step_of l) (c + k) y ≡ offset_of l.tiled s (step_of l) c y + k * s
    unfolding address_of
    follow_run c k hc hk =
        let i = inside c hc in
        let a = (longest l accepted c y i).at k (omega (arith, run_number_lem l accepted c y i, hk)) in
        omega (arith, a)

    below : (c : ℕ) → c < step_of l → l.base.0 + offset_of l.tiled s (step_of l) c y + s ≤ 2 ^ 32
    unfolding address_of
    below c hc = let v = (inverse l accepted).within c y (inside c hc) in omega (arith, v.2)

    pub row_asked : RowAsked l.base.0 s l.tiled (step * s) x y n
    row_asked =
        record {
          size = size;
          least = positive s size;
          whole = ap (λ (q : ℕ). q * s) (mul-div_cancel step (positive s size));
          step = omega (arith, same_step, bounds.0);
          columns = omega (arith, same_step, columns);
          row = omega (arith, row, bounds.1);
          some = λ c hc. subst (λ (e : ℕ). 0 < run_number l.tiled s e c) (sym same_step) (some_run c (omega (arith, hc, same_step)));
          follow = λ c k hc hk.
              subst (λ (e : ℕ). offset_of l.tiled s e (c + k) y ≡ offset_of l.tiled s e c y + k * s) (sym same_step)
              (follow_run c k (omega (arith, hc, same_step)) (subst (λ (e : ℕ). k < run_number l.tiled s e c) same_step hk));
          below = λ c hc.
              subst (λ (e : ℕ). l.base.0 + offset_of l.tiled s e c y + s ≤ 2 ^ 32) (sym same_step) (below c (omega (arith, hc, same_step)));
        }

  pub row_left :
      (x y n : ℕ) (room : List ℕ) → room ≡ listed (element_at l.base.0 s l.tiled (step * s / s) x y) 0 n →
      room ≡ listed (λ i. address_of l (x + i) y) 0 n
  unfolding address_of
  row_left x y n room e = e ∙ ap (λ (q : ℕ). listed (element_at l.base.0 s l.tiled q x y) 0 n) same_step
