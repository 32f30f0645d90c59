-- Bytes moved from one list into another, part by part. Assumes nothing.
use Rattle.std.specs.Prelude.{◌≡◌, Bool, true, false, List, [], ◌∷◌, ◌++◌, ℕ, zero, suc, ◌+◌, ◌*◌, ◌/◌, ◌<◌, ◌≤◌, ◌^◌, length, take, drop}
use Rattle.layout.specs.Sizes.{is_size}
use Rattle.address.specs.Offset.{code_of, offset_of}
use Rattle.address.specs.Run.{run_number}
use Rattle.memory.specs.Elements.{overwritten}

-- a part of so many bytes, where it stands in the source and where it goes in the target
pub record Move : Type 0 where
  pub from : ℕ
  pub to : ℕ
  pub bytes : ℕ

abbrev pub part_of : List ℕ → Move → List ℕ
part_of source v = take v.bytes (drop v.from source)

-- the target after these moves, one after the other
unfoldable pub moved : List Move → List ℕ → List ℕ → List ℕ
moved [] source m = m
moved (v ∷ vs) source m = moved vs source (overwritten v.to (part_of source v) m)

-- a move between memory and a room: out of memory, or into it
abbrev pub turned : Bool → ℕ → ℕ → ℕ → Move
turned true place line n = record { from = place; to = line; bytes = n }
turned false place line n = record { from = line; to = place; bytes = n }

-- which of the two lengths is memory's, and which is the room's
abbrev pub memory_of : Bool → ℕ → ℕ → ℕ
memory_of true source target = source
memory_of false source target = target

abbrev pub room_of : Bool → ℕ → ℕ → ℕ
room_of true source target = target
room_of false source target = source

-- a part of `n` bytes at a place of memory and a line of the room
pub record PartAsked (out : Bool) (place line n source target : ℕ) : Type 0 where
  pub few : n ≤ 32
  pub place_fits : place + n ≤ memory_of out source target
  pub line_fits : line + n ≤ room_of out source target

-- two pairs of parts: each pair's second stands 32 bytes on in memory, and right behind the first in the room
abbrev pub pairs_of : Bool → ℕ → ℕ → ℕ → ℕ → List Move
pairs_of out n a b line =
    turned out a line n ∷ turned out (a + 32) (line + n) n ∷ turned out b (line + 2 * n) n ∷ turned out (b + 32) (line + 3 * n) n ∷ []

pub record PairsAsked (out : Bool) (n a b line source target : ℕ) : Type 0 where
  pub few : n ≤ 32
  pub memory_most : memory_of out source target ≤ 2 ^ 32
  pub room_most : room_of out source target ≤ 2 ^ 32
  pub a_fits : a + 32 + n ≤ memory_of out source target
  pub b_fits : b + 32 + n ≤ memory_of out source target
  pub line_fits : line + 4 * n ≤ room_of out source target

-- the eight parts of a tile's row
abbrev pub eight_of : Bool → ℕ → ℕ → ℕ → ℕ → ℕ → ℕ → List Move
eight_of out n a b c d line = pairs_of out n a b line ++ pairs_of out n c d (line + 4 * n)

pub record EightAsked (out : Bool) (n a b c d line source target : ℕ) : Type 0 where
  pub few : n ≤ 32
  pub memory_most : memory_of out source target ≤ 2 ^ 32
  pub room_most : room_of out source target ≤ 2 ^ 32
  pub a_fits : a + 32 + n ≤ memory_of out source target
  pub b_fits : b + 32 + n ≤ memory_of out source target
  pub c_fits : c + 32 + n ≤ memory_of out source target
  pub d_fits : d + 32 + n ≤ memory_of out source target
  pub line_fits : line + 8 * n ≤ room_of out source target

-- the moves f i, f (i + 1), and so on, `n` of them
abbrev pub along : (ℕ → Move) → ℕ → ℕ → List Move
along f i zero = []
along f i (suc n) = f i ∷ along f (suc i) n

-- Parts of `n` bytes in a row: the part of column x + i stands at its place in memory, and in the room right behind the one before it.
-- `count` of them, the first at the line `line` of the room.
abbrev pub row_move : Bool → (ℕ → ℕ) → ℕ → ℕ → ℕ → ℕ → Move
row_move out place n x line i = turned out (place (x + i)) (line + i * n) n

abbrev pub row_moves : Bool → (ℕ → ℕ) → ℕ → ℕ → ℕ → ℕ → List Move
row_moves out place n x line count = along (row_move out place n x line) 0 count

-- where the block at column X of a block row Y begins, of a window whose row of tiles begins at `start`
abbrev pub block_place : ℕ → ℕ → ℕ → ℕ
block_place start Y X = start + (2048 * (X / 8) + 32 * code_of X Y)

-- `count` tiles' rows of blocks' parts, from the tile `first` on
pub record TilesAsked (out : Bool) (n start row first count line source target : ℕ) : Type 0 where
  pub few : n ≤ 32
  pub memory_most : memory_of out source target ≤ 2 ^ 32
  pub room_most : room_of out source target ≤ 2 ^ 32
  pub tiles_most : first + count ≤ 4096
  pub places : (k : ℕ) → k < 8 * count → block_place start row (8 * first + k) + n ≤ memory_of out source target
  pub line_fits : line + 8 * count * n ≤ room_of out source target

-- a stretch of any length
pub record StretchAsked (out : Bool) (place line n source target : ℕ) : Type 0 where
  pub memory_most : memory_of out source target ≤ 2 ^ 32
  pub room_most : room_of out source target ≤ 2 ^ 32
  pub place_fits : place + n ≤ memory_of out source target
  pub line_fits : line + n ≤ room_of out source target

-- its first `k` bytes and its last `k` are all of it
pub record EndsAsked (out : Bool) (place line n k source target : ℕ) : Type 0 where
  pub stretch : StretchAsked out place line n source target
  pub few : k ≤ 32
  pub fit : k ≤ n
  pub meet : n ≤ 2 * k

-- where the elements of the row `y` stand, of a window whose base is at the place `at` of memory
abbrev pub element_place : Bool → ℕ → ℕ → ℕ → ℕ → ℕ → ℕ
element_place tiled s e at y x = at + offset_of tiled s e x y

-- `count` elements of a row from column x on, in a window of the row step stride / s: its runs are such that copies of them may be one
pub record RunsAsked (out tiled : Bool) (s stride at x y count line source target : ℕ) : Type 0 where
  pub size : is_size s ≡ true
  pub most : s ≤ 16
  pub whole : stride / s * s ≡ stride
  pub step : stride / s ≤ 4096
  pub columns : x + count ≤ stride / s
  pub row : y < 4096
  pub memory_most : memory_of out source target ≤ 2 ^ 32
  pub room_most : room_of out source target ≤ 2 ^ 32
  pub some : (c : ℕ) → c < stride / s → 0 < run_number tiled s (stride / s) c
  pub follow :
      (c j : ℕ) → c < stride / s → j < run_number tiled s (stride / s) c →
      offset_of tiled s (stride / s) (c + j) y ≡ offset_of tiled s (stride / s) c y + j * s
  pub places :
      (i : ℕ) → i < count → element_place tiled s (stride / s) at y (x + i) + s ≤ memory_of out source target
  pub line_fits : line + count * s ≤ room_of out source target
