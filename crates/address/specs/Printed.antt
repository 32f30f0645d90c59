-- The tables as they are printed: document 01's bits inside a tile, line by line, and source 003's slices for linear rows.
-- proofs/Printed.antt shows that the definitions of Offset.antt are these. Assumes nothing.
use Rattle.std.specs.Prelude.{◌≡◌, ℕ, suc, ◌+◌, ◌-◌, ◌*◌, ◌/◌, ◌%◌, ◌^◌, List, [], ◌∷◌, length}
use Rattle.laws.specs.Bits.{bit, xor}

-- the number whose bits are listed, the highest first
abbrev pub from_bits : List ℕ → ℕ
from_bits [] = 0
from_bits (b ∷ bs) = b * 2 ^ length bs + from_bits bs

-- "Inside, from bit 10 down (^ is exclusive or, the rest zero)", the line of each size
module _ (x y : ℕ) where
  -- 1 | y4^x6, x5^y5 | y3^x5, x4^y4 | y2, x3 | y1 y0 x2 x1 x0
  abbrev pub line1 : List ℕ
  line1 =
      xor (bit 4 y) (bit 6 x) ∷ xor (bit 5 x) (bit 5 y) ∷ xor (bit 3 y) (bit 5 x) ∷ xor (bit 4 x) (bit 4 y) ∷ bit 2 y ∷
      bit 3 x ∷ bit 1 y ∷ bit 0 y ∷ bit 2 x ∷ bit 1 x ∷ bit 0 x ∷ []

  -- 2 | y4^x5, x4^y5 | y3^x4, x3^y4 | y2, x2 | y1 y0 x1 x0 0
  abbrev pub line2 : List ℕ
  line2 =
      xor (bit 4 y) (bit 5 x) ∷ xor (bit 4 x) (bit 5 y) ∷ xor (bit 3 y) (bit 4 x) ∷ xor (bit 3 x) (bit 4 y) ∷ bit 2 y ∷
      bit 2 x ∷ bit 1 y ∷ bit 0 y ∷ bit 1 x ∷ bit 0 x ∷ 0 ∷ []

  -- 4 | y3^x5, x4^y4 | y2^x4, x3^y3 | y1, x2 | y0 x1 x0 0 0
  abbrev pub line4 : List ℕ
  line4 =
      xor (bit 3 y) (bit 5 x) ∷ xor (bit 4 x) (bit 4 y) ∷ xor (bit 2 y) (bit 4 x) ∷ xor (bit 3 x) (bit 3 y) ∷ bit 1 y ∷
      bit 2 x ∷ bit 0 y ∷ bit 1 x ∷ bit 0 x ∷ 0 ∷ 0 ∷ []

  -- 8 | y3^x4, x3^y4 | y2^x3, x2^y3 | y1, x1 | y0 x0 0 0 0
  abbrev pub line8 : List ℕ
  line8 =
      xor (bit 3 y) (bit 4 x) ∷ xor (bit 3 x) (bit 4 y) ∷ xor (bit 2 y) (bit 3 x) ∷ xor (bit 2 x) (bit 3 y) ∷ bit 1 y ∷
      bit 1 x ∷ bit 0 y ∷ bit 0 x ∷ 0 ∷ 0 ∷ 0 ∷ []

  -- 16 | y2^x4, x3^y3 | y1^x3, x2^y2 | y0, x1 | x0 0 0 0 0
  abbrev pub line16 : List ℕ
  line16 =
      xor (bit 2 y) (bit 4 x) ∷ xor (bit 3 x) (bit 3 y) ∷ xor (bit 1 y) (bit 3 x) ∷ xor (bit 2 x) (bit 2 y) ∷ bit 0 y ∷
      bit 1 x ∷ bit 0 x ∷ 0 ∷ 0 ∷ 0 ∷ 0 ∷ []

-- bits `hi` to `lo` of a number: source 003's n[hi:lo]
abbrev pub slice : ℕ → ℕ → ℕ → ℕ
slice hi lo n = n / 2 ^ lo % 2 ^ (suc hi - lo)

-- Source 003's line for linear rows of elements of `s` bytes, with 2^k elements in 32 bytes (k is 5, 4, 3, 2, 1):
-- bits 31:5 are y[11:0]*pitch[13:k]+x[11:k]+offset[31:5], bits 4:0 are x[k-1:0] and zeros
abbrev pub slices : ℕ → ℕ → ℕ → ℕ → ℕ → ℕ → ℕ
slices k s base pitch x y =
    32 * (slice 11 0 y * slice 13 k pitch + slice 11 k x + slice 31 5 base) + slice (k - 1) 0 x * s
