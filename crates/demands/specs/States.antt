-- States that were kept elsewhere and come back: the arrays that a host has of a session, of two parties, of a replay and of a growing fleet
-- report, from the calls that begin them, from a check that took them, and from the calls that go on; each constructor has its call's contract. Assumes nothing.
use Rattle.std.specs.Prelude.{◌≡◌, Bool, true, List, [], ◌∷◌, ℕ, ◌<◌}
use Rattle.state.specs.Start.{is_edition}
use Rattle.state.specs.Asked.{Given}
use Rattle.state.specs.Cells.{session_of}
use Rattle.session.specs.Step.{step_of}
use Rattle.session.specs.Feed.{feed_of}
use Rattle.session.specs.Answers.{Begins}
use Rattle.session_rooms.specs.Rooms.{WordCrosses, FeedCrosses}
use Rattle.lessees.specs.Begin.{may_begin}
use Rattle.station_log.specs.Asked.{Bytes8}
use Rattle.station_log.specs.Feed.{replay_of}
use Rattle.log_rooms.specs.Pieces.{Arrays, replay_at, GivenAt, BeginsAt, FedAt, ByteAt}
use Rattle.judges.specs.Judged.{Judges}
use Rattle.refusal.specs.Crossing.{Crosses}
use Rattle.score.specs.Lease.{Lease}
use Rattle.growing.specs.Cells.{SumsGiven, sums_in, begun_told, AddCrosses, add_month_told, join_told}
use Rattle.demands.specs.Pairs.{PairArrays, PairGivenAt, PairFedAt, PairBegunAt, session_at, with_party}
use Rattle.demands.specs.Trims.{TrimmedAt}

-- a session's arrays
pub data Session : List ℕ → List ℕ → List ℕ → Type 0 where
  -- egretfold_session_begin that returned 0
  begun : (edition : ℕ) → is_edition edition ≡ true → (r : ℕ) (own tallies shared own' tallies' shared' : List ℕ) →
      Begins edition r own tallies shared own' tallies' shared' → Session own' tallies' shared'
  -- egretfold_session_check that returned true, wherever the arrays came from
  checked : (own tallies shared : List ℕ) → Judges true (Given own tallies shared) → Session own tallies shared
  -- egretfold_session_word
  word : {own tallies shared : List ℕ} → Session own tallies shared → (w r : ℕ) (own' tallies' shared' command command' : List ℕ) →
      WordCrosses (step_of (session_of own tallies shared) w) r own' tallies' shared' command command' → Session own' tallies' shared'
  -- egretfold_session_feed
  piece : {own tallies shared : List ℕ} → Session own tallies shared → (ws : List ℕ) (r : ℕ) (own' tallies' shared' fed : List ℕ) →
      FeedCrosses (feed_of (session_of own tallies shared) ws) r own' tallies' shared' fed → Session own' tallies' shared'

-- two parties' arrays
pub data Pair : PairArrays → Type 0 where
  -- egretfold_pair_begin that returned 0
  begun : (inputs outputs edition r : ℕ) → may_begin inputs outputs edition ≡ true → (a a' : PairArrays) →
      PairBegunAt inputs outputs edition r a a' → Pair a'
  -- egretfold_pair_check that returned true
  checked : (a : PairArrays) → Judges true (PairGivenAt a) → Pair a
  -- egretfold_pair_feed
  piece : {a : PairArrays} → Pair a → (words parties : List ℕ) (r : ℕ) (fed : List ℕ) (a' : PairArrays) (fed' : List ℕ) →
      PairFedAt words parties r a fed a' fed' → Pair a'
  -- egretfold_session_word with one party's arrays and the shared ones
  word : {a : PairArrays} → Pair a → (party : Bool) (w r : ℕ) (own tallies shared command command' : List ℕ) →
      WordCrosses (step_of (session_at party a) w) r own tallies shared command command' → Pair (with_party party own tallies shared a)
  -- egretfold_session_feed with them
  feed : {a : PairArrays} → Pair a → (party : Bool) (ws : List ℕ) (r : ℕ) (own tallies shared fed : List ℕ) →
      FeedCrosses (feed_of (session_at party a) ws) r own tallies shared fed → Pair (with_party party own tallies shared a)

-- a replay's arrays
pub data Replay : Arrays → Type 0 where
  -- egretfold_log_begin that returned 0
  begun : (edition : ℕ) → is_edition edition ≡ true → (r : ℕ) (a a' : Arrays) → BeginsAt edition r a a' → Replay a'
  -- egretfold_log_check that returned true
  checked : (a : Arrays) → Judges true (GivenAt a) → Replay a
  -- egretfold_log_byte
  byte : {a : Arrays} → Replay a → (b r : ℕ) (a' : Arrays) → b < 256 → ByteAt (replay_of (replay_at a) (b ∷ [])) r a' → Replay a'
  -- egretfold_log_feed
  piece : {a : Arrays} → Replay a → (bytes : List ℕ) (r taken : ℕ) (a' : Arrays) → Bytes8 bytes →
      FedAt (replay_of (replay_at a) bytes) r taken a' → Replay a'
  -- egretfold_log_trim
  trim : {a : Arrays} → Replay a → (r : ℕ) (a' : Arrays) → TrimmedAt a r a' → Replay a'

-- a growing fleet report's numbers
pub data Fleet : List ℕ → Type 0 where
  -- egretfold_fleet_begin that returned 0
  begun : (edition r : ℕ) (sums sums' : List ℕ) → Crosses (begun_told edition) r sums sums' → r ≡ 0 → Fleet sums'
  -- egretfold_fleet_check that returned true
  checked : (sums : List ℕ) → Judges true (SumsGiven sums) → Fleet sums
  -- egretfold_fleet_add
  add : (sums : List ℕ) → Fleet sums → (l : Lease) (log marks own tallies : List ℕ) (r : ℕ) (sums' : List ℕ) →
      AddCrosses l log marks own tallies r sums sums' → Fleet sums'
  -- egretfold_fleet_add_month
  add_month : (sums : List ℕ) → Fleet sums → (served owed silent r : ℕ) (sums' : List ℕ) →
      Crosses (add_month_told (sums_in sums) served owed silent) r sums sums' → Fleet sums'
  -- egretfold_fleet_join
  join : (sums : List ℕ) → Fleet sums → (other : List ℕ) → Fleet other → (r : ℕ) (sums' : List ℕ) →
      Crosses (join_told (sums_in sums) (sums_in other)) r sums sums' → Fleet sums'

-- a state that was saved and read back is taken, and goes on as the one that was saved
pub record GoesOn (yes : Bool) (same : Type 0) : Type 0 where
  pub taken : yes ≡ true
  pub goes_on : same

-- a piece of two parties' words leaves the same by two callers' arrays: the status, the arrays, and the answers where there are any
pub record SamePiece (r r' : ℕ) (a a' : PairArrays) (fed fed' : List ℕ) : Type 0 where
  pub status : r ≡ r'
  pub arrays : a ≡ a'
  pub answers : r ≡ 0 → fed ≡ fed'
