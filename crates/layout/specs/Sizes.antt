-- Document 01, "Layouts and windows": the five element sizes with their tiles, by the tables. Assumes nothing.
use Rattle.std.specs.Prelude.{Bool, ℕ, ltb, length, get_or}
use Rattle.laws.specs.Choice.{place_of}
pub use Rattle.tables.specs.Tables.{sizes, widths, heights}

-- the number is one of the five sizes
unfoldable pub is_size : ℕ → Bool
is_size s = ltb (place_of s sizes) (length sizes)

-- the width and the height of the tile of a size, in elements; 0 for what is no size
unfoldable pub width_of : ℕ → ℕ
width_of s = get_or widths (place_of s sizes) 0

unfoldable pub height_of : ℕ → ℕ
height_of s = get_or heights (place_of s sizes) 0
