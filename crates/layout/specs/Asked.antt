-- What a window's stride is reckoned from: a well-formed layout, and the powers of 2 that its stride and its rows are multiples
-- of. Assumes nothing.
use Rattle.std.specs.Prelude.{◌≡◌, Bool, true, ℕ, ◌*◌, ◌^◌, ◌≤◌}
use Rattle.laws.specs.Choice.{pick}
use Rattle.layout.specs.Sizes.{height_of}
use Rattle.layout.specs.Layout.{well_formed, unit_of}

pub record StrideAsked (base pitch s : ℕ) (tiled : Bool) (stride_log rows_log : ℕ) : Type 0 where
  pub form : well_formed base pitch s ≡ true
  pub stride_few : stride_log ≤ 12
  pub stride_unit : 2 ^ stride_log ≡ unit_of tiled s * s
  pub rows_few : rows_log ≤ 7
  pub rows_unit : 2 ^ rows_log ≡ pick tiled (height_of s) 1
