-- A survey as a status and rooms: the status with how many pairs pass, and the room of the pairs' bytes before and after. Assumes
-- nothing.
use Rattle.std.specs.Prelude.{◌≡◌, List, ℕ, length}
use Rattle.refusal.specs.Crossing.{Crosses}
use Rattle.state.specs.State.{Shared}
use Rattle.conditional.specs.Conditional.{survey_of, bytes_of, room_after}

pub record SurveyCrosses (s : Shared) (v first : ℕ) (m : List ℕ) (i0 j0 i1 j1 r : ℕ) (room room' passed passed' : List ℕ) : Type 0 where
  pub answer : Crosses (survey_of s v first m i0 j0 i1 j1 (length room)) r passed passed'
  pub bytes : room' ≡ room_after (survey_of s v first m i0 j0 i1 j1 (length room)) (bytes_of s v first m i0 j0 i1 j1) room
