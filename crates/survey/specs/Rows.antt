-- The numbers of 16 bits at the pairs of a domain, of a layout that was judged: `base`, `tiled` and the row step `e`. Assumes nothing.
use Rattle.std.specs.Prelude.{Bool, List, ℕ, ◌+◌, ◌-◌, ◌/◌, ◌%◌}
use Rattle.address.specs.Offset.{offset_of}
use Rattle.memory.specs.Elements.{is_held}
use Rattle.conditions.specs.Spans.{span_bit}

-- the address of the number at a pair, and its place in memory whose first byte stands at `first`
abbrev pub number_at : ℕ → Bool → ℕ → ℕ → ℕ → ℕ
number_at base tiled e x y = base + offset_of tiled 2 e x y

abbrev pub place_of : ℕ → Bool → ℕ → ℕ → ℕ → ℕ → ℕ
place_of base tiled e first x y = number_at base tiled e x y - first

-- byte i of a row from column x on
abbrev pub row_byte : ℕ → ℕ → Bool → List ℕ → ℕ → Bool → ℕ → ℕ → ℕ → ℕ → ℕ → ℕ
row_byte low top outside m base tiled e first x y i = span_bit low top outside m (place_of base tiled e first (x + i) y)

-- byte k of `w` columns from (x, y) on, row by row
abbrev pub domain_byte : ℕ → ℕ → Bool → List ℕ → ℕ → Bool → ℕ → ℕ → ℕ → ℕ → ℕ → ℕ → ℕ
domain_byte low top outside m base tiled e first x y w k = span_bit low top outside m (place_of base tiled e first (x + k % w) (y + k / w))

-- whether memory of `n` bytes holds number i of a row, and number k of `w` columns
abbrev pub row_held : ℕ → Bool → ℕ → ℕ → ℕ → ℕ → ℕ → ℕ → Bool
row_held base tiled e first n x y i = is_held first n (number_at base tiled e (x + i) y) 2

abbrev pub domain_held : ℕ → Bool → ℕ → ℕ → ℕ → ℕ → ℕ → ℕ → ℕ → Bool
domain_held base tiled e first n x y w k = is_held first n (number_at base tiled e (x + k % w) (y + k / w)) 2
