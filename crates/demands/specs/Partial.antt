-- Request 7: partial mode beside full mode over a group's cells. Assumes nothing.
use Rattle.std.specs.Prelude.{◌≡◌, List, ℕ, ◌≤◌, set}

-- the same cells in full mode: cell 12 is 0
abbrev pub in_full : List ℕ → List ℕ
in_full cells = set cells 12 0

-- a call on cells in partial mode, with its status, and the same call on the same cells in full mode
pub record Beside (Caused : ℕ → Type 0) (status status' : ℕ) (cells cells' room room' : List ℕ) : Type 0 where
  -- "whatever partial mode accepts, full mode answers identically, the mode aside"
  pub accepted : status ≡ 0 → status' ≡ 0
  pub cells_same : status ≡ 0 → cells' ≡ in_full cells
  pub room_same : status ≡ 0 → room' ≡ room
  -- "Partial mode refuses what full mode accepts for the three causes above and no other"
  pub caused : status' ≡ 0 → (n : ℕ) → 1 ≤ n → status ≡ n → Caused n
  pub causes : status' ≡ 0 → (n : ℕ) → Caused n → status ≡ n
