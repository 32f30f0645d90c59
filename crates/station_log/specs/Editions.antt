-- What the statements on request 10, "Lease rule, second edition", speak of, of a replay: replays and answers with the claimed totals
-- set aside. Assumes nothing.
use Rattle.std.specs.Prelude.{◌≡◌, ℕ, ◌*◌, length, get_or}
use Rattle.session.specs.Editions.{unclaimed}
use Rattle.replay.specs.State.{Replay}
use Rattle.station_log.specs.Feed.{Fed}

-- replays that differ in nothing but their sessions' editions and claimed totals, and the claimed totals at their midnights
pub record SameReplay (r q : Replay) : Type 0 where
  pub session : unclaimed r.session ≡ unclaimed q.session
  pub opened : r.opened ≡ q.opened
  pub stopped_by : r.stopped_by ≡ q.stopped_by
  pub refused : r.refused ≡ q.refused
  pub midnights : r.midnights ≡ q.midnights
  pub last_day_lem : r.last_day ≡ q.last_day
  pub marks : length r.marks ≡ length q.marks
  -- the runs at each midnight
  pub runs : (k : ℕ) → get_or r.marks (2 * k) 0 ≡ get_or q.marks (2 * k) 0

-- two answers to a piece of bytes are the same, and the replays that they leave differ in nothing but that
pub record SameButClaims (f g : Fed) : Type 0 where
  pub taken : f.taken ≡ g.taken
  pub refusal : f.refusal ≡ g.refusal
  pub replay : SameReplay f.replay g.replay
