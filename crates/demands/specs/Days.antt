-- Request 1's days in words of a log's bytes: what the words of a stretch add, and a log cut at its midnights. Assumes nothing.
use Rattle.std.specs.Prelude.{◌≡◌, true, List, [], ◌∷◌, ◌++◌, ℕ, ◌<◌, eqb}
use Rattle.laws.specs.Choice.{pick}
use Rattle.state.specs.State.{Tally, Session}
use Rattle.session.specs.Feed.{feed_of}
use Rattle.session.specs.Tallies.{runs_of, claims_of}
use Rattle.replay.specs.State.{Replay, new_replay, no_record}
use Rattle.replay.specs.Step.{may_begin, after_midnight}
use Rattle.station_log.specs.Bytes.{byte_step}
use Rattle.station_log.specs.Feed.{replay_of, record_bytes}

-- what words add to a session's tallies: the starts among the commands that they complete, and what these claim by its edition
unfoldable pub added : Session → List ℕ → Tally
added s ws =
    record {
      runs = runs_of (feed_of s ws).commands;
      claims = claims_of s.party.birth (feed_of s ws).commands s.party.domain s.shared.mask s.shared.outputs;
    }

-- the replay of a log by an edition, and of more bytes from there
abbrev pub replayed : ℕ → List ℕ → Replay
replayed edition bytes = (replay_of (new_replay edition) bytes).replay

abbrev pub gone_on : Replay → List ℕ → Replay
gone_on r bytes = (replay_of r bytes).replay

-- a running replay between two records, in which a midnight with this day may come
pub record AtMidnight (r : Replay) (day : ℕ) : Type 0 where
  pub going : r.stopped_by ≡ 0
  pub unopened : r.opened ≡ no_record
  pub number : day < 4294967296
  pub may_begin_lem : may_begin r.midnights r.last_day day ≡ true

-- a log: bytes, a midnight, and bytes of its day without another midnight
abbrev pub with_day : List ℕ → ℕ → List ℕ → List ℕ
with_day before day during = before ++ (record_bytes 2 day ++ during)

-- the replay at the beginning of the day, and after it
abbrev pub begun : ℕ → List ℕ → ℕ → Replay
begun edition before day = after_midnight (replayed edition before) day

-- the bytes of a log before the one that completes its next midnight; all of them where none comes
unfoldable pub bytes_before : Replay → List ℕ → List ℕ
bytes_before r [] = []
bytes_before r (b ∷ bs) =
    pick (eqb (byte_step r b).replay.midnights r.midnights) (b ∷ bytes_before (byte_step r b).replay bs) []
