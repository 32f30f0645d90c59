-- How an answer crosses the boundary: status 0 with the values in lent room, or the refusal's number with the room as it was.
-- Assumes nothing.
use Rattle.std.specs.Prelude.{◌≡◌, Bool, true, false, List, ℕ}
use Rattle.refusal.specs.Told.{Told, gives, refuses}

abbrev pub status_of : Told → ℕ
status_of (gives values) = 0
status_of (refuses number) = number

abbrev pub room_of : Told → List ℕ → List ℕ
room_of (gives values) room = values
room_of (refuses number) room = room

pub record Crosses (t : Told) (r : ℕ) (before after : List ℕ) : Type 0 where
  pub status : r ≡ status_of t
  pub room : after ≡ room_of t before

-- an answer that is never refused: 0, and the values in the room
pub record Shows (values : List ℕ) (r : ℕ) (after : List ℕ) : Type 0 where
  pub status : r ≡ 0
  pub room : after ≡ values

-- a flag as a number
abbrev pub flag : Bool → ℕ
flag true = 1
flag false = 0
