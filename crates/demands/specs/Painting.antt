-- Request 13, "Every order paints the same picture", over calls of the element writer. Assumes nothing.
use Rattle.std.specs.Prelude.{◌≡◌, ℕ, ◌+◌, ◌<◌, length, get_or}
use mathlib.Core.List.{List, [], ◌∷◌, Permᴰ}
use Rattle.refusal.specs.Told.{gives}
use Rattle.layout.specs.declared.Layout.{Layout}
use Rattle.address.specs.Inverse.{Owns}
use Rattle.memory.specs.Elements.{read_of}
use Rattle.element_rooms.specs.Rooms.{WriteCrosses}
use Rattle.picture.specs.Picture.{Spot, Scene, Domain, Within, spots_of}

-- "Write each pair's given element": calls of egretfold_element_write in this order, each with its status, from memory `m` to `m'`
pub data Painting (c : Scene) (first : ℕ) : List Spot → List ℕ → List ℕ → Type 0 where
  done : (m : List ℕ) → Painting c first [] m m
  then : (k : Spot) (ks : List Spot) (r : ℕ) (m m1 m' : List ℕ) →
      WriteCrosses (c.window k.output) k.x k.y first (c.element k.output k.x k.y) r m m1 →
      Painting c first ks m1 m' → Painting c first (k ∷ ks) m m'

-- what holds of memory `m'` after the writes of each pair of the domain once, of all outputs, in some order, from `m` on
pub record Painted (c : Scene) (outputs : ℕ) (d : Domain) (first : ℕ) (m m' : List ℕ) : Type 0 where
  -- "every order of these writes gives the same memory"
  pub same :
      (other : List Spot) → Permᴰ other (spots_of d outputs) → (m'' : List ℕ) → Painting c first other m m'' → m'' ≡ m'
  -- "each pair reads back its own element"
  pub own : (o x y : ℕ) → o < outputs → Within d x y → read_of (c.window o) x y first m' ≡ gives (c.element o x y)
  -- "bytes no pair of the domain owns are unchanged"
  pub rest :
      (i : ℕ) → i < length m →
      ((o x y place : ℕ) → o < outputs → Within d x y → Owns (c.window o) (first + i) x y place → ⊥) →
      get_or m' i 0 ≡ get_or m i 0
  pub long : length m' ≡ length m
