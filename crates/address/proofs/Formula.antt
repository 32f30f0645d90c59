-- Demand 3's "by the guide's formula, as document 01 gives it": a pair's address is the one that document 01 prints, line by line
-- and size by size, and where the layout is accepted and the pair inside it is source 003's too. Assumes nothing.
use Rattle.std.proofs.Common.{◌≡◌, ℕ, ◌+◌, ◌*◌, ◌/◌, ◌%◌, ◌<◌, ◌≤◌, Bool, true, false, [], ◌∷◌, get_or, sym, refl, ap, ◌∙◌, add_assoc, mul-div_cancel, arith, eqb-true, leb-true}
use Rattle.laws.specs.Choice.{◌and◌, pick, place_of}
use Rattle.laws.proofs.Choice.{and_left, and_right}
use Rattle.refusal.specs.Told.{gives}
use Rattle.layout.specs.Sizes.{sizes, is_size, width_of, height_of}
use Rattle.layout.specs.Layout.{well_formed, unit_of, row_step}
use Rattle.layout.specs.declared.Layout.{Layout}
use Rattle.layout.proofs.Sizes.{by_size, tile}
use Rattle.layout.proofs.Window.{form_size, rule_bounds}
use Rattle.address.specs.Offset.{inside_of, tiled_offset, linear_offset, offset_of}
use Rattle.address.specs.Address.{step_of, address_of, run_of, translate_of}
use Rattle.address.specs.Inverse.{Accepted, Inside}
use Rattle.address.specs.Formula.{printed_inside, printed_linear, printed_tiled, printed_address, linear_columns, tiled_columns, guide_address}
use Rattle.address.proofs.Inverse.{inverse}
use Rattle.address.proofs.Printed.{inside1, inside2, inside4, inside8, inside16, Fields, linear1, linear2, linear4, linear8, linear16}

-- the table's line of each size
inside_printed : (s : ℕ) → is_size s ≡ true → (x y : ℕ) → inside_of s x y ≡ printed_inside s x y
unfolding printed_inside place_of pick
inside_printed = by_size (λ s. (x y : ℕ) → inside_of s x y ≡ printed_inside s x y) inside1 inside2 inside4 inside8 inside16

module _ (base s e x y : ℕ) where
  linear_printed : base + linear_offset s e x y ≡ printed_linear base s e x y
  unfolding linear_offset printed_linear
  linear_printed = refl

  tiled_printed : is_size s ≡ true → base + tiled_offset s e x y ≡ printed_tiled base s e x y
  unfolding tiled_offset printed_tiled
  tiled_printed z =
      sym (add_assoc base (2048 * (y / height_of s * (e / width_of s) + x / width_of s)) (inside_of s x y)) ∙
      ap (λ (n : ℕ). base + 2048 * (y / height_of s * (e / width_of s) + x / width_of s) + n) (inside_printed s z x y)

  either : (tiled : Bool) → is_size s ≡ true →
      base + offset_of tiled s e x y ≡ pick tiled (printed_tiled base s e x y) (printed_linear base s e x y)
  unfolding offset_of pick
  either true z = tiled_printed z
  either false z = linear_printed

-- a pair's address is the one that document 01 prints
pub address_printed : (l : Layout) → is_size l.size ≡ true → (x y : ℕ) → address_of l x y ≡ printed_address l x y
unfolding address_of printed_address
address_printed l z x y = either l.base.0 l.size (step_of l) x y l.tiled z

-- "every pair inside its window goes by the guide's formula, as document 01 gives it, to an element"
pub printed :
    (l : Layout) → Accepted l → (x y : ℕ) → Inside l x y → translate_of l x y ≡ gives (printed_address l x y ∷ run_of l x y ∷ [])
printed l accepted x y i =
    (inverse l accepted).there x y i ∙
    ap (λ (a : ℕ). gives (a ∷ run_of l x y ∷ [])) (address_printed l (form_size l.base.0 l.pitch l.size accepted.form) x y)

-- an accepted layout's base and pitch, and a pair inside, are what 003's columns are cut from
module _ (l : Layout) (accepted : Accepted l) (x y : ℕ) (i : Inside l x y) where
  z : is_size l.size ≡ true
  z = form_size l.base.0 l.pitch l.size accepted.form

  fields : Fields l.base.0 l.pitch x y
  unfolding well_formed
  fields =
      let bounds = rule_bounds l.base.0 l.tiled l.size (step_of l) l.height accepted.window in
      let within = (inverse l accepted).within x y i in
      let s_least : 1 ≤ l.size = (tile l.size z).s_pos in
      let form = accepted.form in
      let low : l.base.0 % 2048 ≡ 0 = eqb-true _ _ (and_left _ _ form) in
      let most : l.pitch ≤ 8188 = leb-true _ _ (and_left _ _ (and_right _ _ (and_right _ _ form))) in
      record {
        base_bits = omega (arith, within.0, within.2);
        base_low = low;
        pitch_bits = omega arith;
        x_bits = omega (arith, i.column, bounds.step_most);
        y_bits = omega (arith, i.row, bounds.height_most);
      }

-- bits 31:11 of 003's line for tiles of `w` by `h` elements
tiles :
    (w h base pitch x y a b c d inside inside' : ℕ) → 0 < w → base % 2048 ≡ 0 → a ≡ y / h → b ≡ pitch / w → c ≡ x / w →
    d ≡ base / 2048 → inside' ≡ inside →
    base + (2048 * (y / h * (pitch / w * w / w) + x / w) + inside') ≡ 2048 * (a * b + c + d) + inside
tiles w h base pitch x y a b c d inside inside' pos low ea eb ec ed ei =
    rw (ea, eb, ec, ed, ei, mul-div_cancel (pitch / w) pos) (sum (y / h * (pitch / w)) (x / w))
  where
    sum : (p q : ℕ) → base + (2048 * (p + q) + inside) ≡ 2048 * (p + q + base / 2048) + inside
    sum p q = omega arith

module _ (base pitch x y : ℕ) (f : Fields base pitch x y) where
  abbrev TiledAs : ℕ → Type 0
  TiledAs s = base + tiled_offset s (row_step true s pitch) x y ≡ get_or (tiled_columns base pitch x y) (place_of s sizes) 0

  tiled_columns_lem : (s : ℕ) → is_size s ≡ true → TiledAs s
  unfolding tiled_offset row_step unit_of pick place_of width_of height_of
  tiled_columns_lem =
      by_size TiledAs
      (tiles 64 32 base pitch x y _ _ _ _ _ _ (omega arith) f.base_low (omega arith) (omega arith) (omega arith) (omega arith) (inside1 x y))
      (tiles 32 32 base pitch x y _ _ _ _ _ _ (omega arith) f.base_low (omega arith) (omega arith) (omega arith) (omega arith) (inside2 x y))
      (tiles 32 16 base pitch x y _ _ _ _ _ _ (omega arith) f.base_low (omega arith) (omega arith) (omega arith) (omega arith) (inside4 x y))
      (tiles 16 16 base pitch x y _ _ _ _ _ _ (omega arith) f.base_low (omega arith) (omega arith) (omega arith) (omega arith) (inside8 x y))
      (tiles 16 8 base pitch x y _ _ _ _ _ _ (omega arith) f.base_low (omega arith) (omega arith) (omega arith) (omega arith) (inside16 x y))

  abbrev LinearAs : ℕ → Type 0
  LinearAs s = base + linear_offset s (row_step false s pitch) x y ≡ get_or (linear_columns base pitch x y) (place_of s sizes) 0

  linear_columns_lem : (s : ℕ) → is_size s ≡ true → LinearAs s
  unfolding place_of pick
  linear_columns_lem =
      by_size LinearAs (sym (linear1 base pitch x y f)) (sym (linear2 base pitch x y f)) (sym (linear4 base pitch x y f))
      (sym (linear8 base pitch x y f)) (sym (linear16 base pitch x y f))

  columns : (s : ℕ) → is_size s ≡ true → (tiled : Bool) →
      base + offset_of tiled s (row_step tiled s pitch) x y ≡
      pick tiled (get_or (tiled_columns base pitch x y) (place_of s sizes) 0) (get_or (linear_columns base pitch x y) (place_of s sizes) 0)
  unfolding offset_of pick
  columns s z true = tiled_columns_lem s z
  columns s z false = linear_columns_lem s z

-- and it is the address by 003's columns of bits
pub address_guide : (l : Layout) → Accepted l → (x y : ℕ) → Inside l x y → address_of l x y ≡ guide_address l x y
unfolding address_of guide_address
address_guide l accepted x y i =
    columns l.base.0 l.pitch x y (fields l accepted x y i) l.size (z l accepted x y i) l.tiled
