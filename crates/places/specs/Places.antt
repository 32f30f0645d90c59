-- Request 14: "one-byte tiled layouts shall read a fixed table of 2,048 places within a tile": the place of column x and row y of a tile at
-- 64·y + x, for a tile in an even column and an even row of tiles, where x6 and y5 are 0. Assumes nothing.
use Rattle.std.specs.Prelude.{List, [], ◌∷◌, ℕ, zero, suc, ◌/◌, ◌%◌}
use Rattle.address.specs.Offset.{inside_of}

-- the places of `n` numbers from k on, by the bit rule
unfoldable pub places_from : ℕ → ℕ → List ℕ
places_from k zero = []
places_from k (suc n) = inside_of 1 (k % 64) (k / 64) ∷ places_from (suc k) n

unfoldable pub places : List ℕ
unfolding places_from
places = places_from 0 2048
