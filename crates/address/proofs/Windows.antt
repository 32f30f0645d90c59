-- The laws of offsets for both kinds of layout at once, and the element's place inside the span. Assumes nothing.
use Rattle.std.proofs.Common.{◌≡◌, ℕ, zero, suc, ◌+◌, ◌-◌, ◌*◌, ◌/◌, ◌%◌, ◌<◌, ◌≤◌, Bool, true, false, sym, refl, ap, ◌∙◌, subst, mul-le-mul_right, mod-lt, div-lt_iff_lt-mul, div-add-mod', mul-div_cancel, arith}
use lib.Arith.{digits_lt}
use Rattle.laws.specs.Choice.{pick}
use Rattle.layout.specs.Sizes.{is_size, width_of, height_of}
use Rattle.layout.specs.Layout.{tile_rows, span_of}
use Rattle.layout.proofs.Sizes.{Tile}
use Rattle.layout.proofs.Window.{width_pos}
use Rattle.address.specs.Offset.{
  block_width,
  block_height,
  code_of,
  inside_of,
  tiled_offset,
  linear_offset,
  offset_of,
  tiled_x,
  tiled_y,
  linear_x,
  linear_y,
  x_of,
  y_of,
  byte_place,
}
use Rattle.address.proofs.Blocks.{code_lt}
use Rattle.address.proofs.Offsets as offsets

-- a size and a row step that a window may have: above 0 and, where tiled, a whole number of tiles
pub record Grid (tiled : Bool) (s e : ℕ) : Type 0 where
  pub size : is_size s ≡ true
  pub step : 0 < e
  pub whole : tiled ≡ true → e / width_of s * width_of s ≡ e

module _ (s : ℕ) (size : is_size s ≡ true) where
  abbrev t : Tile s (block_width s) (block_height s)
  t = offsets.blocks s size

  height_pos : 0 < height_of s
  height_pos = omega (arith, t.height, t.q_pos)

  -- a column of the window stands in one of its tiles, and the other way round
  tile_of : (e x : ℕ) → e / width_of s * width_of s ≡ e → x < e → x / width_of s < e / width_of s
  tile_of e x w h = (div-lt_iff_lt-mul (width_pos s size)).1 (rw w h)

  column_of : (e x : ℕ) → e / width_of s * width_of s ≡ e → x / width_of s < e / width_of s → x < e
  column_of e x w h = rw w at ((div-lt_iff_lt-mul (width_pos s size)).0 h)

  pub tiles_pos : (e : ℕ) → e / width_of s * width_of s ≡ e → 0 < e → 0 < e / width_of s
  tiles_pos e w h = omega (arith, tile_of e 0 w h)

  -- "tile rows needed" hold every row of the window
  row_lt : (h y : ℕ) → y < h → y / height_of s < tile_rows s h
  unfolding tile_rows
  row_lt h y k =
      (div-lt_iff_lt-mul height_pos).1
      (omega (arith, div-add-mod' (h + (height_of s - 1)) (height_of s), mod-lt (h + (height_of s - 1)) height_pos, height_pos))

  -- an element ends in the tile that it begins in
  inside_most : (x y : ℕ) → inside_of s x y + s ≤ 2048
  unfolding inside_of
  inside_most x y =
      omega (
        arith,
        code_lt (x / block_width s) (y / block_height s),
        t.s_pos,
        offsets.rest_lt s t (y % block_height s) (x % block_width s) (s - 1) (mod-lt y t.q_pos) (mod-lt x t.p_pos) (omega (arith, t.s_pos)),
      )

  tiled_within :
      (e h x y : ℕ) → e / width_of s * width_of s ≡ e → x < e → y < h →
      tiled_offset s e x y + s ≤ tile_rows s h * (e / width_of s) * 2048
  unfolding tiled_offset
  tiled_within e h x y w hx hy =
      omega (arith, inside_most x y, digits_lt {c = e / width_of s} (row_lt h y hy) (tile_of e x w hx))

  linear_within : (e h x y : ℕ) → x < e → y < h → linear_offset s e x y + s ≤ h * e * s
  unfolding linear_offset
  linear_within e h x y hx hy =
      omega (arith, t.s_pos, digits_lt {c = s} (digits_lt hy hx) (last_place t.s_pos))
    where
      last_place : 0 < s → s - 1 < s
      last_place k = omega arith

-- both kinds of layout
pub within :
    (tiled : Bool) (s e h x y : ℕ) → Grid tiled s e → x < e → y < h → offset_of tiled s e x y + s ≤ span_of tiled s e h
unfolding offset_of span_of pick
within true s e h x y g hx hy = tiled_within s g.size e h x y (g.whole refl) hx hy
within false s e h x y g hx hy = linear_within s g.size e h x y hx hy

pub there_x :
    (tiled : Bool) (s e x y k : ℕ) → Grid tiled s e → x < e → k < s → x_of tiled s e (offset_of tiled s e x y + k) ≡ x
unfolding offset_of x_of pick
there_x true s e x y k g hx hk = offsets.tiled_there_x s (t s g.size) e x y k (tile_of s g.size e x (g.whole refl) hx) hk
there_x false s e x y k g hx hk = offsets.linear_there_x s e x y k hx hk

pub there_y :
    (tiled : Bool) (s e x y k : ℕ) → Grid tiled s e → x < e → k < s → y_of tiled s e (offset_of tiled s e x y + k) ≡ y
unfolding offset_of y_of pick
there_y true s e x y k g hx hk = offsets.tiled_there_y s (t s g.size) e x y k (tile_of s g.size e x (g.whole refl) hx) hk
there_y false s e x y k g hx hk = offsets.linear_there_y s e x y k hx hk

pub there_place :
    (tiled : Bool) (s e x y k : ℕ) → Grid tiled s e → x < e → k < s → byte_place s (offset_of tiled s e x y + k) ≡ k
unfolding offset_of pick
there_place true s e x y k g hx hk =
    offsets.tiled_there_place s (t s g.size) e x y k (tile_of s g.size e x (g.whole refl) hx) hk
there_place false s e x y k g hx hk = offsets.linear_there_place s e x y k hx hk

pub back :
    (tiled : Bool) (s e o : ℕ) → Grid tiled s e →
    offset_of tiled s e (x_of tiled s e o) (y_of tiled s e o) + byte_place s o ≡ o
unfolding offset_of x_of y_of pick
back true s e o g = offsets.tiled_back s (t s g.size) e o (tiles_pos s g.size e (g.whole refl) g.step)
back false s e o g = offsets.linear_back s e o

pub back_column : (tiled : Bool) (s e o : ℕ) → Grid tiled s e → x_of tiled s e o < e
unfolding x_of pick linear_x
back_column true s e o g =
    column_of s g.size e (tiled_x s e o) (g.whole refl)
    (offsets.tiled_back_column s (t s g.size) e o (tiles_pos s g.size e (g.whole refl) g.step))
back_column false s e o g = mod-lt (o / s) g.step

pub back_place : (s o : ℕ) → is_size s ≡ true → byte_place s o < s
unfolding byte_place
back_place s o z = mod-lt o (t s z).s_pos
