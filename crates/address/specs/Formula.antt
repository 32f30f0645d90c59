-- The address of a pair as it is printed: document 01's two formulas with its table of the bits inside a tile, line by line, and
-- source 003's columns of bits. proofs/Formula.antt shows that the definitions of Address.antt are these. Assumes nothing.
use Rattle.std.specs.Prelude.{ℕ, ◌+◌, ◌*◌, ◌/◌, List, [], ◌∷◌, slice_index, slice_index_or}
use Rattle.laws.specs.Choice.{pick, place_of}
use Rattle.layout.specs.Sizes.{sizes, width_of, height_of}
use Rattle.layout.specs.declared.Layout.{Layout}
use Rattle.address.specs.Address.{step_of}
use Rattle.address.specs.Printed.{from_bits, line1, line2, line4, line8, line16, slice, slices}

-- the table's five lines, in the order of the sizes 1, 2, 4, 8, 16
abbrev pub lines : ℕ → ℕ → List (List ℕ)
lines x y = line1 x y ∷ line2 x y ∷ line4 x y ∷ line8 x y ∷ line16 x y ∷ []

-- "inside": the number whose bits are those of the size's line
unfoldable pub printed_inside : ℕ → ℕ → ℕ → ℕ
printed_inside s x y = from_bits (slice_index_or (lines x y) (place_of s sizes) [])

-- "Linear: address = base + (y·E + x)·s."
unfoldable pub printed_linear : ℕ → ℕ → ℕ → ℕ → ℕ → ℕ
printed_linear base s e x y = base + (y * e + x) * s

-- "Tiled: base + 2,048·((y div tile height)·(E div tile width) + x div tile width) + inside."
unfoldable pub printed_tiled : ℕ → ℕ → ℕ → ℕ → ℕ → ℕ
printed_tiled base s e x y = base + 2048 * (y / height_of s * (e / width_of s) + x / width_of s) + printed_inside s x y

-- the address of a pair
unfoldable pub printed_address : Layout → ℕ → ℕ → ℕ
printed_address l x y =
    pick l.tiled (printed_tiled l.base.0 l.size (step_of l) x y) (printed_linear l.base.0 l.size (step_of l) x y)

-- Source 003's line for tiles of 2^w by 2^h elements: bits 31:11 are y[11:h]*pitch[13:w]+x[11:w]+offset[31:11], and bits 10:0 are
-- the table's
abbrev pub tile_slices : ℕ → ℕ → ℕ → ℕ → ℕ → ℕ → List ℕ → ℕ
tile_slices w h base pitch x y line =
    2048 * (slice 11 h y * slice 13 w pitch + slice 11 w x + slice 31 11 base) + from_bits line

-- The five lines of 003's two tables: rows of 32 bytes have 2^k elements, k is 5, 4, 3, 2, 1
module _ (base pitch x y : ℕ) where
  abbrev pub linear_columns : List ℕ
  linear_columns =
      slices 5 1 base pitch x y ∷ slices 4 2 base pitch x y ∷ slices 3 4 base pitch x y ∷ slices 2 8 base pitch x y ∷
      slices 1 16 base pitch x y ∷ []

  -- tiles of 64x32, 32x32, 32x16, 16x16, 16x8 elements
  abbrev pub tiled_columns : List ℕ
  tiled_columns =
      tile_slices 6 5 base pitch x y (line1 x y) ∷ tile_slices 5 5 base pitch x y (line2 x y) ∷
      tile_slices 5 4 base pitch x y (line4 x y) ∷ tile_slices 4 4 base pitch x y (line8 x y) ∷
      tile_slices 4 3 base pitch x y (line16 x y) ∷ []

-- the address of a pair by the guide's tables
unfoldable pub guide_address : Layout → ℕ → ℕ → ℕ
guide_address l x y =
    pick l.tiled (slice_index (tiled_columns l.base.0 l.pitch x y) (place_of l.size sizes))
    (slice_index (linear_columns l.base.0 l.pitch x y) (place_of l.size sizes))
