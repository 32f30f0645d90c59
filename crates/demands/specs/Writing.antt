-- Demand 2, "Accepted commands write back to the words they came from", over calls: words are handed to egretfold_session_word one by one until one of
-- them completes a command, and the six numbers of that answer are handed to egretfold_command_write. Assumes nothing.
use Rattle.std.specs.Prelude.{◌≡◌, List, [], ◌∷◌, ℕ, length, get_or, take, drop}
use Rattle.state.specs.Cells.{session_of}
use Rattle.session.specs.Step.{step_of}
use Rattle.session_rooms.specs.Rooms.{WordCrosses}

-- calls of egretfold_session_word, each with status 0: the arrays before them, the words, and the room of the last call, which alone has a 1 in front
pub data Spelled : List ℕ → List ℕ → List ℕ → List ℕ → List ℕ → Type 0 where
  last :
      {own tallies shared : List ℕ} (w r : ℕ) (own' tallies' shared' room room' : List ℕ) →
      WordCrosses (step_of (session_of own tallies shared) w) r own' tallies' shared' room room' → r ≡ 0 → get_or room' 0 0 ≡ 1 →
      Spelled own tallies shared (w ∷ []) room'
  before :
      {own tallies shared : List ℕ} (w r : ℕ) (own' tallies' shared' room room' : List ℕ) →
      WordCrosses (step_of (session_of own tallies shared) w) r own' tallies' shared' room room' → r ≡ 0 → get_or room' 0 0 ≡ 0 →
      {ws end : List ℕ} → Spelled own' tallies' shared' ws end → Spelled own tallies shared (w ∷ ws) end

-- a call of egretfold_command_write that wrote these words: "Room past the words isn't touched"
pub record Writes (words : List ℕ) (status : ℕ) (room room' number : List ℕ) : Type 0 where
  pub answered : status ≡ 0
  pub told : number ≡ length words ∷ []
  pub put : take (length words) room' ≡ words
  pub rest : drop (length words) room' ≡ drop (length words) room
