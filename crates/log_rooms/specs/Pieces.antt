-- A log that is fed in pieces, one call of `feed` after the other, over a replay's five arrays. Assumes nothing.
use Rattle.std.specs.Prelude.{List, [], ◌∷◌, ℕ, ◌+◌, eqb}
use Rattle.laws.specs.Choice.{pick}
use Rattle.replay.specs.State.{Replay}
use Rattle.replay.specs.Cells.{ReplayGiven, replay_in}
use Rattle.station_log.specs.Asked.{Begins, ByteLeft, Bytes8}
use Rattle.station_log.specs.Feed.{Fed, replay_of}
use Rattle.log_rooms.specs.Rooms.{FeedCrosses}

-- a replay's arrays: its own numbers, its marks, and its session's three
pub record Arrays : Type 0 where
  pub log : List ℕ
  pub marks : List ℕ
  pub own : List ℕ
  pub tallies : List ℕ
  pub shared : List ℕ

abbrev pub replay_at : Arrays → Replay
replay_at a = replay_in a.log a.marks a.own a.tallies a.shared

abbrev pub GivenAt : Arrays → Type 0
GivenAt a = ReplayGiven a.log a.marks a.own a.tallies a.shared

-- what one call of `begin` answers and leaves, of the arrays that it was lent
abbrev pub BeginsAt : ℕ → ℕ → Arrays → Arrays → Type 0
BeginsAt edition r a0 a =
    Begins edition r a0.log a0.marks a0.own a0.tallies a0.shared a.log a.marks a.own a.tallies a.shared

-- what one call of `feed` answers and leaves: its status, the bytes taken, and the arrays at return
abbrev pub FedAt : Fed → ℕ → ℕ → Arrays → Type 0
FedAt f status taken a = FeedCrosses f status a.log a.marks a.own a.tallies a.shared (taken ∷ [])

-- what one call of `take_byte` answers and leaves, and how many bytes it took: one where its status is 0
abbrev pub ByteAt : Fed → ℕ → Arrays → Type 0
ByteAt f status a = ByteLeft f status a.log a.marks a.own a.tallies a.shared

abbrev pub taken_by : ℕ → ℕ
taken_by status = pick (eqb status 0) 1 0

-- the first status of two that isn't 0
abbrev pub first_of_two : ℕ → ℕ → ℕ
first_of_two a b = pick (eqb a 0) b a

-- pieces of bytes, each fed to the arrays that the one before left: the first refusal, and how many bytes were taken in all
pub data Pieces : Arrays → List (List ℕ) → ℕ → ℕ → Arrays → Type 0 where
  none : (a : Arrays) → Pieces a [] 0 0 a
  more : (a : Arrays) (p : List ℕ) (status taken : ℕ) (a1 : Arrays) (ps : List (List ℕ)) (status1 taken1 : ℕ) (a2 : Arrays) →
      Bytes8 p → FedAt (replay_of (replay_at a) p) status taken a1 → Pieces a1 ps status1 taken1 a2 →
      Pieces a (p ∷ ps) (first_of_two status status1) (taken + taken1) a2
