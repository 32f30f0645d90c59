-- Lent memory byte by byte: "Writing an element touches only the part of memory that holds that element." The proof is
-- proofs/Bytes.antt. Assumes nothing.
use Rattle.std.specs.Prelude.{◌≡◌, List, ℕ, ◌+◌, ◌-◌, ◌<◌, ◌≤◌, length, get_or}
use Rattle.layout.specs.declared.Layout.{Layout}
use Rattle.address.specs.Address.{address_of}
use Rattle.address.specs.Inverse.{Owns}

-- the byte at an address, in memory `m` that stands at `first`
abbrev pub byte_at : ℕ → List ℕ → ℕ → ℕ
byte_at first m a = get_or m (a - first) 0

-- memory `after` a write of `given` at (x, y) of `before`
pub record Touched (l : Layout) (x y first : ℕ) (given before after : List ℕ) : Type 0 where
  pub same_length : length after ≡ length before
  -- the element's bytes, places 0 to s - 1, are those given
  pub own : (place : ℕ) → place < l.size → byte_at first after (address_of l x y + place) ≡ get_or given place 0
  -- every byte that the pair doesn't own is as before, whether another pair of the window owns it or none does
  pub outside :
      (a : ℕ) → first ≤ a → ((place : ℕ) → Owns l a x y place → ⊥) → byte_at first after a ≡ byte_at first before a
