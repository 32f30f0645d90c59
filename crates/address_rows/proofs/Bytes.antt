-- One-byte elements in tiles: their offsets by the table of places, and rows of them. Assumes nothing.
use mathlib.Core.Path.{◌≡◌, refl, sym, ap, ap₂, ◌∙◌, subst, subst₂}
use mathlib.Core.Bool.{Bool, true}
use mathlib.Core.List.{List}
use Prim.Native.Nat.{ℕ, ◌+◌, ◌*◌, ◌/◌, ◌<◌, ◌≤◌}
use native.Mathlib.Nat.{mul-le-mul}
use native.Mathlib.Omega.{arith}
use lib.ListN.{length}
use Rattle.laws.specs.Choice.{pick, place_of}
use Rattle.layout.specs.Sizes.{width_of, height_of}
use Rattle.address.specs.Asked.{PairAsked}
use Rattle.address.specs.Offset.{inside_of, tiled_offset, offset_of}
use Rattle.address_rows.specs.Rows.{listed, element_at, RowAsked}

module _ (stride x y : ℕ) (pair : PairAsked 1 (stride / 1) x y) (whole : stride / 1 * 1 ≡ stride) where
  same : stride / 1 ≡ stride
  same = omega (arith, whole)

  -- no product and no sum wraps
  pub number_few : y / 32 * (stride / 64) ≤ 8192
  number_few =
      let a : y / 32 ≤ 128 = omega (arith, pair.row) in
      let b : stride / 64 ≤ 64 = omega (arith, pair.step, same) in
      let q : y / 32 * (stride / 64) ≤ 128 * 64 = mul-le-mul a b in
      omega (arith, q)

  pub column_few : x / 64 ≤ 64
  column_few = omega (arith, pair.column, pair.step)

  pub offset_is :
      (r : ℕ) → r ≡ inside_of 1 x y → 2048 * (y / 32 * (stride / 64) + x / 64) + r ≡ offset_of true 1 (stride / 1) x y
  unfolding offset_of tiled_offset width_of height_of place_of pick
  offset_is r e = ap₂ (λ (a b : ℕ). 2048 * (y / 32 * (a / 64) + x / 64) + b) (sym same) e

-- the row of a one-byte tiled layout
pub row_of_bytes :
    (base s : ℕ) (tiled : Bool) (stride x y n : ℕ) → tiled ≡ true → s ≡ 1 → RowAsked base s tiled stride x y n →
    RowAsked base 1 true stride x y n
row_of_bytes base s tiled stride x y n et es asked =
    subst₂ (λ (a : ℕ) (t : Bool). RowAsked base a t stride x y n) es et asked

pub row_by_places :
    (base s : ℕ) (tiled : Bool) (stride x y n : ℕ) (room : List ℕ) → tiled ≡ true → s ≡ 1 →
    room ≡ listed (element_at base 1 true (stride / 1) x y) 0 n → room ≡ listed (element_at base s tiled (stride / s) x y) 0 n
row_by_places base s tiled stride x y n room et es e =
    e ∙ ap₂ (λ (a : ℕ) (t : Bool). listed (element_at base a t (stride / a) x y) 0 n) (sym es) (sym et)
