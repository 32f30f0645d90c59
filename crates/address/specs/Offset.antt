-- Document 01, "Layouts and windows": where a pair's element stands, counted from the base, and the way back.
--
-- A block is 32 bytes of a tile: a tile is 8 by 8 of them, and a block is p elements wide and q high (8x4, 4x4, 4x2, 2x2, 2x1
-- for the five sizes).
-- With X = x div p and Y = y div q, bits 10 to 5 of the place inside a tile are, at every size,
--
--     bit   10      9      8      7     6    5
--          Y2^X3  X2^Y3  Y1^X2  X1^Y2   Y0   X0
--
-- and bits 4 to 0 the place inside the block, row by row. X3 and Y3 lie above the tile: they are the low bits of the tile's
-- column and row. The paper's table, line by line as it is printed, is proved equal to this in proofs/Printed.antt.
-- Assumes nothing.
use Rattle.std.specs.Prelude.{ℕ, ◌+◌, ◌*◌, ◌/◌, ◌%◌, Bool}
use Rattle.laws.specs.Bits.{bit, xor}
use Rattle.laws.specs.Choice.{pick}
use Rattle.layout.specs.Sizes.{width_of, height_of}

-- a block's width and height in elements
unfoldable pub block_width : ℕ → ℕ
block_width s = width_of s / 8

unfoldable pub block_height : ℕ → ℕ
block_height s = height_of s / 8

-- bits 10 to 5 inside a tile, as a number below 64, from the block's column and row in the whole window
unfoldable pub code_of : ℕ → ℕ → ℕ
code_of X Y =
    32 * xor (bit 2 Y) (bit 3 X) + 16 * xor (bit 2 X) (bit 3 Y) + 8 * xor (bit 1 Y) (bit 2 X) +
    4 * xor (bit 1 X) (bit 2 Y) + 2 * bit 0 Y + bit 0 X

-- "inside": the place inside a tile
unfoldable pub inside_of : ℕ → ℕ → ℕ → ℕ
inside_of s x y =
    32 * code_of (x / block_width s) (y / block_height s) + (y % block_height s * block_width s + x % block_width s) * s

-- "Tiled: base + 2,048·((y div tile height)·(E div tile width) + x div tile width) + inside"; `e` is the row step
unfoldable pub tiled_offset : ℕ → ℕ → ℕ → ℕ → ℕ
tiled_offset s e x y = 2048 * (y / height_of s * (e / width_of s) + x / width_of s) + inside_of s x y

-- "Linear: address = base + (y·E + x)·s."
unfoldable pub linear_offset : ℕ → ℕ → ℕ → ℕ → ℕ
linear_offset s e x y = (y * e + x) * s

unfoldable pub offset_of : Bool → ℕ → ℕ → ℕ → ℕ → ℕ
offset_of tiled s e x y = pick tiled (tiled_offset s e x y) (linear_offset s e x y)

-- The way back inside a tile: bit 2, 1 of the block's column and row, from the code and the low bits of the tile's column
-- and row, in the order in which they can be known.
unfoldable pub high_x : ℕ → ℕ → ℕ
high_x row c = xor (bit 4 c) (bit 0 row)

unfoldable pub high_y : ℕ → ℕ → ℕ
high_y column c = xor (bit 5 c) (bit 0 column)

-- the block's column in the whole window
unfoldable pub block_x : ℕ → ℕ → ℕ → ℕ
block_x column row c = 8 * column + 4 * high_x row c + 2 * xor (bit 2 c) (high_y column c) + bit 0 c

-- the block's row in the whole window
unfoldable pub block_y : ℕ → ℕ → ℕ → ℕ
block_y column row c = 8 * row + 4 * high_y column c + 2 * xor (bit 3 c) (high_x row c) + bit 1 c

-- the way back, tiled: the pair of the offset `o`
unfoldable pub tiled_x : ℕ → ℕ → ℕ → ℕ
tiled_x s e o =
    block_x (o / 2048 % (e / width_of s)) (o / 2048 / (e / width_of s)) (o / 32 % 64) * block_width s + o % 32 / s % block_width s

unfoldable pub tiled_y : ℕ → ℕ → ℕ → ℕ
tiled_y s e o =
    block_y (o / 2048 % (e / width_of s)) (o / 2048 / (e / width_of s)) (o / 32 % 64) * block_height s + o % 32 / s / block_width s

-- the way back, linear
unfoldable pub linear_x : ℕ → ℕ → ℕ → ℕ
linear_x s e o = o / s % e

unfoldable pub linear_y : ℕ → ℕ → ℕ → ℕ
linear_y s e o = o / s / e

-- the pair whose element holds the byte `o` bytes from the base, and the byte's place in that element
unfoldable pub x_of : Bool → ℕ → ℕ → ℕ → ℕ
x_of tiled s e o = pick tiled (tiled_x s e o) (linear_x s e o)

unfoldable pub y_of : Bool → ℕ → ℕ → ℕ → ℕ
y_of tiled s e o = pick tiled (tiled_y s e o) (linear_y s e o)

unfoldable pub byte_place : ℕ → ℕ → ℕ
byte_place s o = o % s
