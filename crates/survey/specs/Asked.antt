-- What the routines ask of their callers: the numbers of a layout that was judged, and pairs inside it. A stride is a row step in bytes.
-- Assumes nothing.
use Rattle.std.specs.Prelude.{◌≡◌, Bool, ℕ, ◌+◌, ◌*◌, ◌/◌, ◌^◌, ◌<◌, ◌≤◌}
use Rattle.survey.specs.Rows.{number_at}

-- a stride
pub record StrideAsked (stride : ℕ) : Type 0 where
  pub whole : stride / 2 * 2 ≡ stride
  pub step : stride / 2 ≤ 4096

-- a pair whose number stands in memory from `first` on
pub record PlaceAsked (base stride : ℕ) (tiled : Bool) (x y first : ℕ) : Type 0 where
  pub stride_is : StrideAsked stride
  pub column : x < stride / 2
  pub row : y < 4096
  pub low : first ≤ number_at base tiled (stride / 2) x y
  pub fits : number_at base tiled (stride / 2) x y < 2 ^ 32

-- `count` pairs of a row from column x on, whose numbers memory holds, and places for their bytes from `line` of the room on
pub record RowAsked (base stride : ℕ) (tiled : Bool) (x y count first memory room line : ℕ) : Type 0 where
  pub stride_is : StrideAsked stride
  pub columns : x + count ≤ stride / 2
  pub row : y < 4096
  pub low : (i : ℕ) → i < count → first ≤ number_at base tiled (stride / 2) (x + i) y
  pub high : (i : ℕ) → i < count → number_at base tiled (stride / 2) (x + i) y + 2 ≤ first + memory
  pub end : first + memory ≤ 2 ^ 32
  pub bytes : line + count ≤ room

-- the same of `rows` rows, one after the other
pub record RowsAsked (base stride : ℕ) (tiled : Bool) (x y columns rows first memory room : ℕ) : Type 0 where
  pub stride_is : StrideAsked stride
  pub inside : x + columns ≤ stride / 2
  pub last : y + rows ≤ 4096
  pub low : (i j : ℕ) → i < columns → j < rows → first ≤ number_at base tiled (stride / 2) (x + i) (y + j)
  pub high : (i j : ℕ) → i < columns → j < rows → number_at base tiled (stride / 2) (x + i) (y + j) + 2 ≤ first + memory
  pub end : first + memory ≤ 2 ^ 32
  pub bytes : room ≡ rows * columns

-- pairs of a row that stand at addresses, and memory of `n` bytes that has addresses
pub record RowHeldAsked (base stride : ℕ) (tiled : Bool) (x y count first n : ℕ) : Type 0 where
  pub stride_is : StrideAsked stride
  pub columns : x + count ≤ stride / 2
  pub row : y < 4096
  pub fits : (i : ℕ) → i < count → number_at base tiled (stride / 2) (x + i) y + 2 ≤ 2 ^ 32
  pub long : n ≤ 2 ^ 16
  pub end : first + n ≤ 2 ^ 32

-- the same of `rows` rows
pub record RowsHeldAsked (base stride : ℕ) (tiled : Bool) (x y columns rows first n : ℕ) : Type 0 where
  pub stride_is : StrideAsked stride
  pub inside : x + columns ≤ stride / 2
  pub last : y + rows ≤ 4096
  pub fits : (i j : ℕ) → i < columns → j < rows → number_at base tiled (stride / 2) (x + i) (y + j) + 2 ≤ 2 ^ 32
  pub long : n ≤ 2 ^ 16
  pub end : first + n ≤ 2 ^ 32

-- pairs that stand in `span` bytes from the base on, which end at an address
pub record HeldAsked (base stride : ℕ) (tiled : Bool) (x y columns rows span : ℕ) : Type 0 where
  pub stride_is : StrideAsked stride
  pub inside : x + columns ≤ stride / 2
  pub last : y + rows ≤ 4096
  pub within : (i j : ℕ) → i < columns → j < rows → number_at base tiled (stride / 2) (x + i) (y + j) + 2 ≤ base + span
  pub fits : base + span ≤ 2 ^ 32
