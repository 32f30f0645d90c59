-- Reads after a write. The proof is proofs/ReadBack.antt. Assumes nothing.
use Rattle.std.specs.Prelude.{◌≡◌, List, ℕ}
use Rattle.refusal.specs.Told.{gives}
use Rattle.layout.specs.declared.Layout.{Layout}
use Rattle.memory.specs.Elements.{read_of}

-- memory `after` a write of `given` at (x, y) of `before`
pub record ReadBack (l : Layout) (x y first : ℕ) (given before after : List ℕ) : Type 0 where
  -- a read of the pair gives what was written
  pub own : read_of l x y first after ≡ gives given
  -- a read of any other pair answers as before the write
  pub others : (x' y' : ℕ) → ((x ≡ x') × (y ≡ y') → ⊥) → read_of l x' y' first after ≡ read_of l x' y' first before
