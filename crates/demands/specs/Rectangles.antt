-- Request 13 over calls that move whole rectangles: what egretfold_picture_paint leaves is the picture of the theorem, and what
-- egretfold_picture_copy_out gives are the reads. Assumes nothing.
use Rattle.std.specs.Prelude.{◌≡◌, ℕ, ◌+◌, ◌*◌, ◌<◌, ◌≤◌, ◌^◌, length, get_or}
use mathlib.Core.List.{List, Permᴰ}
use Rattle.refusal.specs.Told.{gives}
use Rattle.layout.specs.declared.Layout.{Layout}
use Rattle.address.specs.Inverse.{Owns}
use Rattle.memory.specs.Elements.{element_of, read_of}
use Rattle.picture.specs.Picture.{Spot, rows_from}
use Rattle.rectangles.specs.Rectangles.{given_at, scene_of}
use Rattle.demands.specs.Painting.{Painting}

-- a pair of the rectangle of `w` columns and `h` rows from (x, y) on
pub record InRectangle (x y w h x' y' : ℕ) : Type 0 where
  pub left : x ≤ x'
  pub right : x' < x + w
  pub top : y ≤ y'
  pub bottom : y' < y + h

-- what holds of memory `m'` after a rectangle was painted from `room` into `m`
pub record RectanglePainted (l : Layout) (x y w h first : ℕ) (room m m' : List ℕ) : Type 0 where
  -- each pair has its element of the room
  pub own : (x' y' : ℕ) → InRectangle x y w h x' y' → element_of l x' y' first m' ≡ given_at l.size x y w room x' y'
  -- bytes that no pair of the rectangle owns are unchanged
  pub rest :
      (i : ℕ) → i < length m → ((x' y' place : ℕ) → InRectangle x y w h x' y' → Owns l (first + i) x' y' place → ⊥) →
      get_or m' i 0 ≡ get_or m i 0
  pub long : length m' ≡ length m
  -- calls of egretfold_element_write, one for each pair and in any order, leave the same, in memory that it takes
  pub same :
      length m ≤ 2 ^ 16 → (order : List Spot) → Permᴰ order (rows_from 0 x w y h) → (m'' : List ℕ) →
      Painting (scene_of l x y w room) first order m m'' → m'' ≡ m'

-- what holds of a room after a rectangle of `m` was copied into it
pub record RectangleRead (l : Layout) (x y w h first : ℕ) (m room' : List ℕ) : Type 0 where
  pub long : length room' ≡ h * (w * l.size)
  -- it has each pair's bytes
  pub own : (x' y' : ℕ) → InRectangle x y w h x' y' → given_at l.size x y w room' x' y' ≡ element_of l x' y' first m
  -- which egretfold_element_read answers, of memory that it takes
  pub reads :
      length m ≤ 2 ^ 16 → (x' y' : ℕ) → InRectangle x y w h x' y' → read_of l x' y' first m ≡ gives (given_at l.size x y w room' x' y')
