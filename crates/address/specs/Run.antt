-- Request 8: what a run is, stated without a search, and its length by a formula. proofs/Runs.antt shows that the run of
-- Address.antt is the longest, and that the formula gives it. Assumes nothing.
use Rattle.std.specs.Prelude.{◌≡◌, ℕ, suc, ◌+◌, ◌-◌, ◌*◌, ◌%◌, ◌<◌, ◌≤◌, Bool, [], ◌∷◌, ◌≢◌, slice_index}
use Rattle.laws.specs.Choice.{pick, place_of}
use Rattle.layout.specs.Sizes.{sizes}
use Rattle.layout.specs.declared.Layout.{Layout}
use Rattle.address.specs.Address.{step_of, address_of}

-- "n elements from this pair on, in the same row, lie at consecutive addresses" and stay "in the window"
pub record Run (l : Layout) (x y n : ℕ) : Type 0 where
  pub window : x + n ≤ step_of l
  pub follow : (k : ℕ) → suc k < n → address_of l (x + suc k) y ≡ address_of l (x + k) y + l.size

-- "at least 1, the longest such run that stays in the window"
pub record Longest (l : Layout) (x y n : ℕ) : Type 0 where
  pub least : 1 ≤ n
  pub run : Run l x y n
  -- every shorter run is one too, and none is longer
  pub shorter : (m : ℕ) → m ≤ n → Run l x y m
  pub most : (m : ℕ) → Run l x y m → m ≤ n
  -- the element after the last, where the row has one, doesn't follow at its address
  pub ends : x + n < step_of l → address_of l (x + n) y ≢ address_of l x y + n * l.size
  -- so a copy of the run is one of so many bytes from the pair's address on
  pub at : (k : ℕ) → k < n → address_of l (x + k) y ≡ address_of l x y + k * l.size

-- Where tiled, a row stands in groups of so many elements that follow each other: a row of a block, 8, 4, 4, 2 and 2 elements for
-- the five sizes; at size 16 it fills the block's 32 bytes, and the block to its right stands next to it in every second column, so
-- that a group is two blocks wide.
unfoldable pub run_unit : ℕ → ℕ
run_unit s = slice_index (8 ∷ 4 ∷ 4 ∷ 2 ∷ 4 ∷ []) (place_of s sizes)

-- the run's length: "Linear: E - x"; where tiled, what is left of the group. `e` is the row step
unfoldable pub run_number : Bool → ℕ → ℕ → ℕ → ℕ
run_number tiled s e x = pick tiled (run_unit s - x % run_unit s) (e - x)
