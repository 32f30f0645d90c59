-- What the four addresses of a superfine read are asked with: an accepted layout's numbers. Assumes nothing.
use Rattle.std.specs.Prelude.{◌≡◌, Bool, [], ◌∷◌, ℕ, ◌+◌, ◌*◌, ◌/◌, ◌<◌, ◌^◌}
use Rattle.refusal.specs.Told.{Told, gives}
use Rattle.address.specs.Asked.{PairAsked}
use Rattle.address.specs.Offset.{offset_of}

-- a pair inside a window whose row step is `stride` bytes, and its address below 2^32
pub record CornerAsked (base stride s : ℕ) (tiled : Bool) (x y : ℕ) : Type 0 where
  pub pair : PairAsked s (stride / s) x y
  pub whole : stride / s * s ≡ stride
  pub fits : base + offset_of tiled s (stride / s) x y < 2 ^ 32

-- all four pairs
pub record CornersAsked (base stride s : ℕ) (tiled : Bool) (x y : ℕ) : Type 0 where
  pub right : CornerAsked base stride s tiled (x + 1) y
  pub below : CornerAsked base stride s tiled x (y + 1)
  pub across : CornerAsked base stride s tiled (x + 1) (y + 1)
  pub own : CornerAsked base stride s tiled x y

-- their addresses
unfoldable pub corners_at : ℕ → ℕ → ℕ → Bool → ℕ → ℕ → Told
corners_at base e s tiled x y =
    gives
    ((base + offset_of tiled s e (x + 1) y) ∷ (base + offset_of tiled s e x (y + 1)) ∷ (base + offset_of tiled s e (x + 1) (y + 1)) ∷
    (base + offset_of tiled s e x y) ∷ [])
