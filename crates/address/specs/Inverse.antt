-- Demand 3 as one statement, over every accepted layout, the size, the kind and the address open. Its proof is
-- proofs/Inverse.antt. Assumes nothing.
use Rattle.std.specs.Prelude.{◌≡◌, ℕ, ◌+◌, ◌^◌, ◌<◌, ◌≤◌, true, [], ◌∷◌}
use Rattle.refusal.specs.Told.{gives, refuses}
use Rattle.layout.specs.Layout.{well_formed, span_of, window_rule}
use Rattle.layout.specs.declared.Layout.{Layout}
use Rattle.address.specs.Address.{step_of, address_of, run_of, translate_of, locate_of}

-- "accepted when it gets neither 3 nor 6"
pub record Accepted (l : Layout) : Type 0 where
  pub form : well_formed l.base.0 l.pitch l.size ≡ true
  pub window : window_rule l.base.0 l.tiled l.size (step_of l) l.height ≡ true

-- "A pair is inside when x < E and y < H."
pub record Inside (l : Layout) (x y : ℕ) : Type 0 where
  pub column : x < step_of l
  pub row : y < l.height

-- "A pair's element is the s bytes from its address on, places 0 to s - 1; a pair inside owns those bytes."
pub record Owns (l : Layout) (a x y place : ℕ) : Type 0 where
  pub pair : Inside l x y
  pub below : place < l.size
  pub byte : a ≡ address_of l x y + place

-- "Address translation has an exact inverse."
pub record Inverse (l : Layout) : Type 0 where
  -- "every pair inside its window goes by the guide's formula, as document 01 gives it, to an element"
  pub there : (x y : ℕ) → Inside l x y → translate_of l x y ≡ gives (address_of l x y ∷ run_of l x y ∷ [])
  -- the element lies inside the span, and so below 2^32
  pub within :
      (x y : ℕ) → Inside l x y →
      (l.base.0 ≤ address_of l x y) ×
      (address_of l x y + l.size ≤ l.base.0 + span_of l.tiled l.size (step_of l) l.height) ×
      (address_of l x y + l.size ≤ 2 ^ 32)
  -- "Every byte of that element leads back to that pair and to the byte's place in the element."
  pub back : (a x y place : ℕ) → Owns l a x y place → locate_of l a ≡ gives (x ∷ y ∷ place ∷ [])
  -- what the way back finds owns the byte
  pub found : (a x y place : ℕ) → locate_of l a ≡ gives (x ∷ y ∷ place ∷ []) → Owns l a x y place
  -- "Given any address at all, the way back refuses exactly when no pair inside the window owns the byte there."
  pub refused : (a : ℕ) → ((x y place : ℕ) → Owns l a x y place → ⊥) → locate_of l a ≡ refuses 12
  pub unowned : (a n : ℕ) → locate_of l a ≡ refuses n → (n ≡ 12) × ((x y place : ℕ) → Owns l a x y place → ⊥)
  -- "So two different pairs of one window never share a byte."
  pub apart :
      (a x y place x' y' place' : ℕ) → Owns l a x y place → Owns l a x' y' place' → (x ≡ x') × (y ≡ y') × (place ≡ place')
