-- A rectangle of an accepted window, between lent memory and a lent room: what is asked of it. Assumes nothing.
use Rattle.std.specs.Prelude.{◌≡◌, Bool, ℕ, ◌+◌, ◌*◌, ◌<◌, ◌≤◌, ◌^◌, ltb}
use Rattle.laws.specs.Below.{every}
use Rattle.laws.specs.Choice.{◌and◌}
use Rattle.layout.specs.declared.Layout.{Layout}
use Rattle.address.specs.Offset.{block_width}
use Rattle.address.specs.Address.{step_of}
use Rattle.address.specs.Inverse.{Accepted}
use Rattle.picture.specs.Picture.{end_of}
use Rattle.rectangles.specs.Moves.{memory_of, room_of}
use Rattle.rectangles.specs.declared.plan.Plan.{Plan}

-- whether no pair of `w` columns and `h` rows from (x, y) on is outside a window of this row step and height
unfoldable pub all_within : ℕ → ℕ → ℕ → ℕ → ℕ → ℕ → Bool
all_within e height x y w h = every h (λ j. every w (λ i. ltb (x + i) e and ltb (y + j) height))

-- how the columns of a rectangle are split: those before the first whole tile, those of whole tiles, and those after the last
pub record PlanOf (s x w : ℕ) (p : Plan) : Type 0 where
  pub all : p.lead + p.inner + p.tail ≡ w
  pub inner_is : p.inner ≡ block_width s * (8 * p.count)
  pub begins : 0 < p.count → x + p.lead ≡ block_width s * (8 * p.first)
  pub most : p.first + p.count ≤ 4096

-- a rectangle that is all inside an accepted window whose span memory covers, and a room of its elements
pub record RectLent (out : Bool) (l : Layout) (x y w h first source target : ℕ) : Type 0 where
  pub accepted : Accepted l
  pub columns : x + w ≤ step_of l
  pub rows : y + h ≤ l.height
  pub low : first ≤ l.base.0
  pub high : memory_of out source target ≤ 2 ^ 32
  pub covers : end_of l ≤ first + memory_of out source target
  pub room : room_of out source target ≡ h * (w * l.size)
