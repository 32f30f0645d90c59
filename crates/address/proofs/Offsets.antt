-- Offsets from the base and the way back are inverse to each other, with the size open: from a pair to the bytes of its
-- element and back, and from any offset to a pair and place and back. Linear and tiled, then joined. Assumes nothing.
use Rattle.std.proofs.Common.{◌≡◌, ℕ, zero, suc, ◌+◌, ◌-◌, ◌*◌, ◌/◌, ◌%◌, ◌<◌, ◌≤◌, Bool, true, false, sym, refl, ap, ◌∙◌, subst, ap₂, mod-lt, mul_comm, div-lt_iff_lt-mul, mul-le-mul, mul-pos, div-add-mod', arith}
use Prim.Native.Nat.{◌∣◌}
use native.Mathlib.Nat.{dvd-mul_left, div-div-eq-div-mul, mod-mod_of_dvd}
use lib.Arith.{digits_lt, digits_div, digits_mod}
use Rattle.laws.specs.Choice.{pick}
use Rattle.layout.specs.Sizes.{is_size, width_of, height_of}
use Rattle.layout.proofs.Sizes.{Tile, tile}
use Rattle.address.specs.Offset.{
  block_width,
  block_height,
  code_of,
  inside_of,
  tiled_offset,
  linear_offset,
  offset_of,
  block_x,
  block_y,
  tiled_x,
  tiled_y,
  linear_x,
  linear_y,
  x_of,
  y_of,
  byte_place,
}
use Rattle.address.proofs.Blocks.{code_lt, block_x_lem, block_y_lem, block_column, block_row, block_code}

-- an offset is a tile's number, a block's code and the rest inside the block
record Parts (o n c r : ℕ) : Type 0 where
  pub tile_part : o / 2048 ≡ n
  pub code_part : o / 32 % 64 ≡ c
  pub rest_part : o % 32 ≡ r

parts : (n c r : ℕ) → c < 64 → r < 32 → Parts (2048 * n + (32 * c + r)) n c r
parts n c r hc hr = omega arith

joined : (o : ℕ) → 2048 * (o / 2048) + (32 * (o / 32 % 64) + o % 32) ≡ o
joined o =
    sum o (o / 32) (o / 2048) (o / 32 % 64) (o % 32) (div-add-mod' o 32)
    (ap (λ (n : ℕ). n * 64 + o / 32 % 64) (sym (div-div-eq-div-mul o 32 64)) ∙ div-add-mod' (o / 32) 64)
  where
    sum : (o m n c r : ℕ) → m * 32 + r ≡ o → n * 64 + c ≡ m → 2048 * n + (32 * c + r) ≡ o
    sum o m n c r e f = omega arith

-- the blocks of a size
pub blocks : (s : ℕ) → is_size s ≡ true → Tile s (block_width s) (block_height s)
unfolding block_width block_height
blocks s e = tile s e

module _ (s : ℕ) (t : Tile s (block_width s) (block_height s)) where
  abbrev p : ℕ
  p = block_width s

  abbrev q : ℕ
  q = block_height s

  -- byte k of the element at column b and row a of a block
  pub rest_lt : (a b k : ℕ) → a < q → b < p → k < s → (a * p + b) * s + k < 32
  rest_lt a b k ha hb hk = subst (λ (n : ℕ). (a * p + b) * s + k < n) t.block (digits_lt (digits_lt ha hb) hk)

  -- a size goes into a block's 32 bytes
  thirty_two : s ∣ 32
  thirty_two = subst (λ (n : ℕ). s ∣ n) t.block (dvd-mul_left s (q * p))

  column_of : (x : ℕ) → x / width_of s ≡ x / p / 8
  column_of x = rw t.width (sym (div-div-eq-div-mul x p 8))

  row_of : (y : ℕ) → y / height_of s ≡ y / q / 8
  row_of y = rw t.height (sym (div-div-eq-div-mul y q 8))

  -- from a pair and a place to the offset and back
  module _ (e x y k : ℕ) (hx : x / width_of s < e / width_of s) (hk : k < s) where
    abbrev number : ℕ
    number = y / height_of s * (e / width_of s) + x / width_of s

    abbrev element : ℕ
    element = y % q * p + x % p

    abbrev offset : ℕ
    offset = tiled_offset s e x y + k

    element_lt : element * s + k < 32
    element_lt = rest_lt (y % q) (x % p) k (mod-lt y t.q_pos) (mod-lt x t.p_pos) hk

    there_parts : Parts offset number (code_of (x / p) (y / q)) (element * s + k)
    unfolding tiled_offset inside_of
    there_parts =
        subst (λ (o : ℕ). Parts o number (code_of (x / p) (y / q)) (element * s + k))
        (regroup number (code_of (x / p) (y / q)) (element * s))
        (parts number (code_of (x / p) (y / q)) (element * s + k) (code_lt (x / p) (y / q)) element_lt)
      where
        regroup : (n c m : ℕ) → 2048 * n + (32 * c + (m + k)) ≡ 2048 * n + (32 * c + m) + k
        regroup n c m = omega arith

    pub tiled_there_x : tiled_x s e offset ≡ x
    unfolding tiled_x
    tiled_there_x =
        rw (
          there_parts.tile_part,
          there_parts.code_part,
          there_parts.rest_part,
          digits_mod (y / height_of s) hx,
          digits_div (y / height_of s) hx,
          digits_div element hk,
          digits_mod (y % q) (mod-lt x t.p_pos),
          column_of x,
          row_of y,
          block_x_lem (x / p) (y / q),
        )
        (div-add-mod' x p)

    pub tiled_there_y : tiled_y s e offset ≡ y
    unfolding tiled_y
    tiled_there_y =
        rw (
          there_parts.tile_part,
          there_parts.code_part,
          there_parts.rest_part,
          digits_mod (y / height_of s) hx,
          digits_div (y / height_of s) hx,
          digits_div element hk,
          digits_div (y % q) (mod-lt x t.p_pos),
          column_of x,
          row_of y,
          block_y_lem (x / p) (y / q),
        )
        (div-add-mod' y q)

    pub tiled_there_place : byte_place s offset ≡ k
    unfolding byte_place
    tiled_there_place =
        sym (mod-mod_of_dvd s offset thirty_two) ∙ ap (λ (n : ℕ). n % s) there_parts.rest_part ∙ digits_mod element hk

  -- from any offset to a pair and a place and back; the tiles of a row are at least one
  module _ (e o : ℕ) (he : 0 < e / width_of s) where
    abbrev column : ℕ
    column = o / 2048 % (e / width_of s)

    abbrev row : ℕ
    row = o / 2048 / (e / width_of s)

    abbrev code : ℕ
    code = o / 32 % 64

    in_block : o % 32 / s < q * p
    in_block = (div-lt_iff_lt-mul t.s_pos).1 (rw t.block (mod-lt o (omega arith)))

    back_column : tiled_x s e o / p ≡ block_x column row code
    unfolding tiled_x
    back_column = digits_div (block_x column row code) (mod-lt (o % 32 / s) t.p_pos)

    back_x_rest : tiled_x s e o % p ≡ o % 32 / s % p
    unfolding tiled_x
    back_x_rest = digits_mod (block_x column row code) (mod-lt (o % 32 / s) t.p_pos)

    row_rest : o % 32 / s / p < q
    row_rest = (div-lt_iff_lt-mul t.p_pos).1 in_block

    back_row : tiled_y s e o / q ≡ block_y column row code
    unfolding tiled_y
    back_row = digits_div (block_y column row code) row_rest

    back_y_rest : tiled_y s e o % q ≡ o % 32 / s / p
    unfolding tiled_y
    back_y_rest = digits_mod (block_y column row code) row_rest

    back_tile_column : tiled_x s e o / width_of s ≡ column
    back_tile_column = column_of (tiled_x s e o) ∙ ap (λ (n : ℕ). n / 8) back_column ∙ block_column column row code

    back_tile_row : tiled_y s e o / height_of s ≡ row
    back_tile_row = row_of (tiled_y s e o) ∙ ap (λ (n : ℕ). n / 8) back_row ∙ block_row column row code

    -- the pair found stands in a column of the window
    pub tiled_back_column : tiled_x s e o / width_of s < e / width_of s
    tiled_back_column = rw back_tile_column (mod-lt (o / 2048) he)

    pub tiled_back : tiled_offset s e (tiled_x s e o) (tiled_y s e o) + byte_place s o ≡ o
    unfolding tiled_offset inside_of byte_place
    tiled_back =
        rw (
          back_tile_column,
          back_tile_row,
          back_column,
          back_row,
          back_x_rest,
          back_y_rest,
          div-add-mod' (o / 2048) (e / width_of s),
          div-add-mod' (o % 32 / s) p,
          block_code column row code (mod-lt (o / 32) (omega arith)),
          ← (mod-mod_of_dvd s o thirty_two),
        )
        (regroup (2048 * (o / 2048)) (32 * code) (o % 32 / s * s) (o % 32 % s) (o % 32) (div-add-mod' (o % 32) s) ∙ joined o)
      where
        regroup : (n c m k r : ℕ) → m + k ≡ r → n + (c + m) + k ≡ n + (c + r)
        regroup n c m k r h = omega arith

-- the same in a linear layout
module _ (s e x y k : ℕ) (hx : x < e) (hk : k < s) where
  linear_element : (linear_offset s e x y + k) / s ≡ y * e + x
  unfolding linear_offset
  linear_element = digits_div (y * e + x) hk

  pub linear_there_x : linear_x s e (linear_offset s e x y + k) ≡ x
  unfolding linear_x
  linear_there_x = rw linear_element (digits_mod y hx)

  pub linear_there_y : linear_y s e (linear_offset s e x y + k) ≡ y
  unfolding linear_y
  linear_there_y = rw linear_element (digits_div y hx)

  pub linear_there_place : byte_place s (linear_offset s e x y + k) ≡ k
  unfolding byte_place linear_offset
  linear_there_place = digits_mod (y * e + x) hk

pub linear_back : (s e o : ℕ) → linear_offset s e (linear_x s e o) (linear_y s e o) + byte_place s o ≡ o
unfolding linear_offset linear_x linear_y byte_place
linear_back s e o = rw (div-add-mod' (o / s) e) (div-add-mod' o s)
