-- The layouts that the programs of addresses and of elements try. Assumes nothing.
use Rattle.std.specs.Prelude.{ℕ, ◌/◌, ◌%◌, Bool, [], ◌∷◌, nat_le, slice_index}
use Rattle.layout.specs.Sizes.{sizes}
use Rattle.layout.specs.declared.Layout.{Layout}

-- a layout from its numbers
abbrev pub laid : Bool → ℕ → ℕ → ℕ → ℕ → Layout
laid tiled size base pitch height =
    record { base = record { 0 = base }; pitch = pitch; height = height; size = size; tiled = tiled }

-- window k of 90: the size goes round fastest, then the pitch, then the height; the second 45 are tiled
abbrev pub window_of : ℕ → Layout
window_of k =
    laid (nat_le 45 k) (slice_index sizes (k % 5)) 4096 (slice_index (64 ∷ 132 ∷ 200 ∷ []) (k / 5 % 3)) (slice_index (1 ∷ 9 ∷ 33 ∷ []) (k / 15 % 3))
