-- What the inner routines ask of their callers: an accepted layout's numbers. Assumes nothing.
use Rattle.std.specs.Prelude.{◌≡◌, ℕ, ◌/◌, ◌<◌, ◌≤◌, Bool, true}
use Rattle.layout.specs.Sizes.{is_size, width_of}
use Rattle.address.specs.Offset.{block_width, block_height}

-- a size with the width and height of its blocks, and a row step in bounds; the numbers' ranges, so that no sum wraps
pub record BlockAsked (p q s e : ℕ) : Type 0 where
  pub size : is_size s ≡ true
  pub width : p ≡ block_width s
  pub height : q ≡ block_height s
  pub step : e ≤ 4096
  pub p_least : 2 ≤ p
  pub p_most : p ≤ 8
  pub q_least : 1 ≤ q
  pub q_most : q ≤ 4
  pub s_least : 1 ≤ s
  pub s_most : s ≤ 16

-- a size, a row step in bounds and a pair that no window of that row step has outside
pub record PairAsked (s e x y : ℕ) : Type 0 where
  pub size : is_size s ≡ true
  pub step : e ≤ 4096
  pub column : x < e
  pub row : y < 4096

-- a size and a row step in bounds that is above 0, a whole tile at least where tiled
pub record StepAsked (tiled : Bool) (s e : ℕ) : Type 0 where
  pub size : is_size s ≡ true
  pub step : e ≤ 4096
  pub least : 0 < e
  pub tiles : tiled ≡ true → 0 < e / width_of s
