-- States that were kept elsewhere.
-- A page behind Demands.antt, made as that one is: each statement under its sentence, each proof a citation. Assumes nothing.
use mathlib.Core.Path.{◌≡◌}
use mathlib.Core.Bool.{Bool, true, false}
use mathlib.Core.List.{List, [], ◌∷◌}
use Prim.Native.Nat.{ℕ, ◌+◌}
use lib.ListN.{replicate}
use Rattle.state.specs.Asked.{Given}
use Rattle.state.specs.Cells.{session_of, Sized, own_length}
use Rattle.session.specs.Feed.{feed_of, uncut}
use Rattle.session_rooms.specs.Rooms.{FeedCrosses}
use Rattle.log_rooms.specs.Pieces.{Arrays, GivenAt}
use Rattle.demands.specs.Pieces.{InTurn, AsOne, first_of}
use Rattle.judges.specs.Judged.{Judges, session_by}
use Rattle.demands.specs.Pairs.{PairArrays, PairGivenAt, PairFedAt}
use Rattle.demands.specs.States.{GoesOn, SamePiece}
use Rattle.demands.specs.States as states
use Rattle.demands.proofs.States.{session_judged, session_taken, pair_taken, replay_taken, zeros_untaken, session_goes_on, pair_goes_on}

-- STATES THAT WERE KEPT ELSEWHERE

-- That a session is such is a test that can be worked out: every number by compares, parameters by their kinds, buffers by the rules of the
-- command that set them, and what is kept of readiness by working it out anew.
pub state_session_test :
    {own tallies shared : List ℕ} → Sized own tallies shared → Judges (session_by (session_of own tallies shared)) (Given own tallies shared)
state_session_test = session_judged

-- Every entry's state is judged yes: what begin, word, byte and feed leave, also where the arrays came from elsewhere and a check took them
-- (`states.Session`, `states.Pair`, `states.Replay` have a constructor for each call).
pub state_session_taken :
    {own tallies shared : List ℕ} → states.Session own tallies shared → {yes : Bool} → Judges yes (Given own tallies shared) → yes ≡ true
state_session_taken = session_taken

pub state_pair_taken : {a : PairArrays} → states.Pair a → {yes : Bool} → Judges yes (PairGivenAt a) → yes ≡ true
state_pair_taken = pair_taken

pub state_replay_taken : {a : Arrays} → states.Replay a → {yes : Bool} → Judges yes (GivenAt a) → yes ≡ true
state_replay_taken = replay_taken

-- Arrays of zeros are no state.
pub state_zeros :
    (tallies shared : List ℕ) {yes : Bool} → Judges yes (Given (replicate own_length 0) tallies shared) → yes ≡ false
state_zeros = zeros_untaken

-- Save, load, go on = go on. A session is fed words, and its arrays are saved; where those read back are the same, they are judged yes, and
-- the pieces that they are fed then leave the status, the sums and the arrays that one call with all the words leaves.
pub state_session_goes_on :
    {own tallies shared : List ℕ} → states.Session own tallies shared → (before : List ℕ) (r taken commands : ℕ) (own₁ tallies₁ shared₁ : List ℕ) →
    FeedCrosses (feed_of (session_of own tallies shared) before) r own₁ tallies₁ shared₁ (taken ∷ commands ∷ []) →
    (own₂ tallies₂ shared₂ : List ℕ) → own₂ ≡ own₁ → tallies₂ ≡ tallies₁ → shared₂ ≡ shared₁ → {yes : Bool} →
    Judges yes (Given own₂ tallies₂ shared₂) → (ps : List (List ℕ)) (r' n m : ℕ) (own₃ tallies₃ shared₃ : List ℕ) →
    InTurn own₂ tallies₂ shared₂ ps r' n m own₃ tallies₃ shared₃ → (r'' : ℕ) (own₄ tallies₄ shared₄ fed : List ℕ) →
    FeedCrosses (feed_of (session_of own tallies shared) (uncut (before ∷ ps))) r'' own₄ tallies₄ shared₄ fed →
    GoesOn yes (AsOne (first_of r r') (taken + n) (commands + m) own₃ tallies₃ shared₃ r'' own₄ tallies₄ shared₄ fed)
state_session_goes_on = session_goes_on

-- And of two parties' words: a piece leaves, with the arrays that were read back, the status, the arrays and the answers that it leaves with
-- those that were saved.
pub state_pair_goes_on :
    {saved back : PairArrays} → back ≡ saved → (words parties : List ℕ) (r r' : ℕ) (room room' : List ℕ) (after after' : PairArrays)
    (fed fed' : List ℕ) → PairFedAt words parties r saved room after fed → PairFedAt words parties r' back room' after' fed' →
    states.Pair saved → {yes : Bool} → Judges yes (PairGivenAt back) → GoesOn yes (SamePiece r' r after' after fed' fed)
state_pair_goes_on = pair_goes_on
