-- The way back by a window's stride, as the code goes: what it asks of the stride, and what it answers. Assumes nothing.
use Rattle.std.specs.Prelude.{◌≡◌, ℕ, ◌*◌, ◌/◌, ◌≤◌, Bool, true, [], ◌∷◌, nat_lt}
use Rattle.laws.specs.Choice.{pick}
use Rattle.refusal.specs.Told.{Told, gives, refuses}
use Rattle.layout.specs.Sizes.{is_size}
use Rattle.address.specs.Asked.{StepAsked}
use Rattle.address.specs.Offset.{x_of, y_of, byte_place}

-- a size and a stride: 0 where the window rule is broken, else whole elements, so many as a row step may have
pub record StrideTaken (tiled : Bool) (s r : ℕ) : Type 0 where
  pub size : is_size s ≡ true
  pub asked : 1 ≤ r → StepAsked tiled s (r / s) × (r / s * s ≡ r)

-- the pair and the place of a byte `o` bytes from the base of a window that is `h` high, or 12; 6 where there is no stride
unfoldable pub owner_of : Bool → ℕ → ℕ → ℕ → ℕ → Told
owner_of tiled s r h o =
    pick (nat_lt r 1) (refuses 6)
    (pick (nat_lt (y_of tiled s (r / s) o) h) (gives (x_of tiled s (r / s) o ∷ y_of tiled s (r / s) o ∷ byte_place s o ∷ []))
    (refuses 12))
