-- Request 14, "a table for byte cameras": the place in its tile of a pair of one-byte elements, as the table has it, "corrected for x6 and y5".
-- Assumes nothing.
use Rattle.std.specs.Prelude.{ℕ, ◌+◌, ◌*◌, ◌/◌, ◌%◌, get_or}
use Rattle.std.specs.Int.Bits.{bit_xor}
use Rattle.places.specs.Places.{places}

-- the entry of the pair's column and row in its tile, its bit 10 turned where x6 is set and bit 9 where y5 is
unfoldable pub place_by_table : ℕ → ℕ → ℕ
place_by_table x y = bit_xor (get_or places (y % 32 * 64 + x % 64) 0) (x / 64 % 2 * 1024 + y / 32 % 2 * 512)
