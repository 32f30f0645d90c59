-- Demand 3 over calls of egretfold_layout, egretfold_translate and egretfold_locate: what a call answers beside one of the way back.
-- Assumes nothing.
use Rattle.std.specs.Prelude.{◌≡◌, List, [], ◌∷◌, ℕ, ◌+◌, ◌<◌, get_or}
use Rattle.layout.specs.declared.Layout.{Layout}
use Rattle.address.specs.Inverse.{Owns}

-- no pair inside the window owns the byte at an address
abbrev pub Nobodys : Layout → ℕ → Type 0
Nobodys l a = (x y place : ℕ) → Owns l a x y place → ⊥

-- the way back answers 0, with this pair and this place in its element
pub record LeadsBack (x y place status : ℕ) (room : List ℕ) : Type 0 where
  pub answered : status ≡ 0
  pub told : room ≡ x ∷ y ∷ place ∷ []

-- of the pair that the way back found, with a place in its element: translation answers 0, and the element, so many bytes long, begins that many
-- bytes before the address
pub record LeadsThere (size a : ℕ) (found : List ℕ) (status : ℕ) (room : List ℕ) : Type 0 where
  pub answered : status ≡ 0
  pub below : get_or found 2 0 < size
  pub byte : get_or room 0 0 + get_or found 2 0 ≡ a
