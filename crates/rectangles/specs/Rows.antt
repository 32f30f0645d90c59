-- Rows of a rectangle: in a tiled window each is elements before the first whole tile, whole tiles, and elements after the last; in a
-- linear one it is one stretch of bytes. Assumes nothing.
use Rattle.std.specs.Prelude.{◌≡◌, Bool, true, List, [], ◌∷◌, ◌++◌, ℕ, zero, suc, ◌+◌, ◌*◌, ◌/◌, ◌<◌, ◌≤◌, ◌^◌}
use Rattle.layout.specs.Sizes.{width_of}
use Rattle.address.specs.Offset.{block_width}
use Rattle.rectangles.specs.Moves.{Move, row_moves, memory_of, room_of, RunsAsked}

-- A tiled row: `lead` elements, then `inner`, which are those of `count` tiles from the tile `first` on, then `tail`. `n` is the bytes of a
-- block's row, `columns` the tiles of a row of tiles.
pub record RowAsked (out : Bool) (s n stride columns at x y lead first count inner tail line source target : ℕ) : Type 0 where
  pub runs : RunsAsked out true s stride at x y (lead + inner + tail) line source target
  pub bytes : n ≡ block_width s * s
  pub few : n ≤ 32
  pub some : 0 < block_width s
  pub inner_is : inner ≡ block_width s * (8 * count)
  pub columns_are : columns ≡ stride / s / width_of s
  pub columns_most : columns ≤ 256
  pub tiles_most : first + count ≤ 4096
  pub begins : 0 < count → x + lead ≡ block_width s * (8 * first)
  pub place_most : at ≤ 2 ^ 32

-- the moves of `h` rows of `w` elements, row by row; `place y x` is where an element stands in memory
abbrev pub rect_moves : Bool → (ℕ → ℕ → ℕ) → ℕ → ℕ → ℕ → ℕ → ℕ → ℕ → List Move
rect_moves out place s x w line y zero = []
rect_moves out place s x w line y (suc h) = row_moves out (place y) s x line w ++ rect_moves out place s x w (line + w * s) (suc y) h

-- every row of a tiled rectangle
pub record RectAsked (out : Bool) (s n stride columns at x y lead first count inner tail rows source target : ℕ) : Type 0 where
  pub row :
      (j : ℕ) → j < rows →
      RowAsked out s n stride columns at x (y + j) lead first count inner tail (0 + j * ((lead + inner + tail) * s)) source target
  pub rows_most : y + rows ≤ 4096
  pub width_most : lead + inner + tail ≤ 4096
  pub size_most : s ≤ 16

-- where the rows of a linear rectangle begin in memory: each a stride after the one before it
abbrev pub line_place : ℕ → ℕ → ℕ → ℕ
line_place place stride j = place + j * stride

-- `count` rows of `n` bytes each
pub record LinesAsked (out : Bool) (place stride n count source target : ℕ) : Type 0 where
  pub memory_most : memory_of out source target ≤ 2 ^ 32
  pub room_most : room_of out source target ≤ 2 ^ 32
  pub stride_most : stride ≤ 65536
  pub count_most : count ≤ 4096
  pub places : (j : ℕ) → j < count → line_place place stride j + n ≤ memory_of out source target
  pub line_fits : count * n ≤ room_of out source target
