-- A station's replay over the years, by a host's calls, and the replay that it is held against. Assumes nothing.
use Rattle.std.specs.Prelude.{◌≡◌, true, List, [], ◌∷◌, ◌++◌, ℕ, ◌<◌}
use Rattle.session.specs.Feed.{first_status}
use Rattle.state.specs.Start.{is_edition}
use Rattle.replay.specs.State.{Replay}
use Rattle.station_log.specs.Asked.{Bytes8}
use Rattle.station_log.specs.Feed.{Fed, replay_of}
use Rattle.log_rooms.specs.Pieces.{Arrays, replay_at, BeginsAt, FedAt, ByteAt}
use Rattle.trim.specs.Free.{new_free, free_of}
use Rattle.demands.specs.Trims.{TrimmedAt, HadRoom}

-- a host's calls, in any order and any number: the bytes of all of them, one behind the other, and the arrays that they leave. A call may be
-- refused; only not, and that is seen by its status and the midnights then, for want of room
pub data LogCalls (edition : ℕ) : List ℕ → Arrays → Type 0 where
  -- egretfold_log_begin that returned 0
  begun : is_edition edition ≡ true → (r : ℕ) (a0 a : Arrays) → BeginsAt edition r a0 a → LogCalls edition [] a
  -- egretfold_log_feed
  piece : (bytes : List ℕ) (a : Arrays) → LogCalls edition bytes a → (p : List ℕ) → Bytes8 p → (status taken : ℕ) (a' : Arrays) →
      FedAt (replay_of (replay_at a) p) status taken a' → HadRoom status a' → LogCalls edition (bytes ++ p) a'
  -- egretfold_log_byte
  byte : (bytes : List ℕ) (a : Arrays) → LogCalls edition bytes a → (b : ℕ) → b < 256 → (status : ℕ) (a' : Arrays) →
      ByteAt (replay_of (replay_at a) (b ∷ [])) status a' → HadRoom status a' → LogCalls edition (bytes ++ (b ∷ [])) a'
  -- egretfold_log_trim
  trim : (bytes : List ℕ) (a : Arrays) → LogCalls edition bytes a → (r : ℕ) (a' : Arrays) → TrimmedAt a r a' → LogCalls edition bytes a'

-- document 02's replay of the same bytes, "at most 400 come in all" left out
abbrev pub unlimited : ℕ → List ℕ → Replay
unlimited edition bytes = (free_of (new_free edition) bytes).replay

-- what a call answers is what that replay answers
pub record AnswersAs (f : Fed) (status taken : ℕ) : Type 0 where
  pub status_too : status ≡ first_status f.refusal
  pub taken_too : taken ≡ f.taken
