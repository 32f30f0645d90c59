-- Sessions as a host has them: three lent arrays, and the calls of egretfold_session_begin, egretfold_session_word and
-- egretfold_session_feed with their contracts. Assumes nothing.
use Rattle.std.specs.Prelude.{◌≡◌, true, List, [], ◌∷◌, ℕ, ◌+◌, eqb}
use Rattle.laws.specs.Choice.{pick}
use Rattle.state.specs.Start.{is_edition}
use Rattle.state.specs.Cells.{session_of}
use Rattle.session.specs.Step.{step_of}
use Rattle.session.specs.Feed.{feed_of}
use Rattle.session.specs.Refusals.{RefusedTo}
use Rattle.session.specs.Answers.{Begins}
use Rattle.session_rooms.specs.Rooms.{WordCrosses, FeedCrosses}

-- arrays that came from these calls
pub data Handed : List ℕ → List ℕ → List ℕ → Type 0 where
  begun : (edition : ℕ) → is_edition edition ≡ true → (r : ℕ) (own tallies shared own' tallies' shared' : List ℕ) →
      Begins edition r own tallies shared own' tallies' shared' → Handed own' tallies' shared'
  word : {own tallies shared : List ℕ} → Handed own tallies shared →
      (w r : ℕ) (own' tallies' shared' command command' : List ℕ) →
      WordCrosses (step_of (session_of own tallies shared) w) r own' tallies' shared' command command' → Handed own' tallies' shared'
  piece : {own tallies shared : List ℕ} → Handed own tallies shared →
      (ws : List ℕ) (r : ℕ) (own' tallies' shared' fed : List ℕ) →
      FeedCrosses (feed_of (session_of own tallies shared) ws) r own' tallies' shared' fed → Handed own' tallies' shared'

-- a word that was refused with `n`: the tallies, the shared settings and the answer's room are as before; of the party's own part
-- only the stop and the dropped command changed
pub record WordRefused (n r : ℕ) (own tallies shared command own' tallies' shared' command' : List ℕ) : Type 0 where
  pub number : r ≡ n
  pub tallies_same : tallies' ≡ tallies
  pub settings_same : shared' ≡ shared
  pub room_same : command' ≡ command
  pub session : RefusedTo (session_of own tallies shared) n (session_of own' tallies' shared')

-- the first of two statuses that isn't 0
abbrev pub first_of : ℕ → ℕ → ℕ
first_of r r' = pick (eqb r 0) r' r

-- calls of egretfold_session_feed, one after the other: their pieces, the first status that isn't 0, the sums of the words taken and
-- of the commands completed, and the arrays at the end
pub data InTurn : List ℕ → List ℕ → List ℕ → List (List ℕ) → ℕ → ℕ → ℕ → List ℕ → List ℕ → List ℕ → Type 0 where
  no_more : {own tallies shared : List ℕ} → InTurn own tallies shared [] 0 0 0 own tallies shared
  and_then : {own tallies shared : List ℕ} (p : List ℕ) (r taken commands : ℕ) (own₁ tallies₁ shared₁ : List ℕ) →
      FeedCrosses (feed_of (session_of own tallies shared) p) r own₁ tallies₁ shared₁ (taken ∷ commands ∷ []) →
      {ps : List (List ℕ)} {r' n m : ℕ} {own₂ tallies₂ shared₂ : List ℕ} →
      InTurn own₁ tallies₁ shared₁ ps r' n m own₂ tallies₂ shared₂ →
      InTurn own tallies shared (p ∷ ps) (first_of r r') (taken + n) (commands + m) own₂ tallies₂ shared₂

-- what calls in turn leave is what one call left: status, sums and all three arrays
pub record AsOne (r n m : ℕ) (own tallies shared : List ℕ) (r' : ℕ) (own' tallies' shared' fed' : List ℕ) : Type 0 where
  pub status : r ≡ r'
  pub sums : n ∷ m ∷ [] ≡ fed'
  pub own_same : own ≡ own'
  pub tallies_same : tallies ≡ tallies'
  pub shared_same : shared ≡ shared'
