-- What a trimmed replay has in common with the replay that it was made from, now and after any more bytes. Assumes nothing.
use Rattle.std.specs.Prelude.{◌≡◌, ℕ, ◌+◌, ◌≤◌, ◌<◌, length}
use Rattle.session.specs.Feed.{first}
use Rattle.replay.specs.State.{Replay, most_midnights, marks_length}
use Rattle.replay.specs.Report.{mark_at}
use Rattle.station_log.specs.Feed.{Fed}
use Rattle.trim.specs.Trim.{cut_before}

-- `q` is the replay `r` without its first `cut` midnights; the day of the first that is left is `day`
pub record Without (cut day : ℕ) (r q : Replay) : Type 0 where
  pub session : r.session ≡ q.session
  pub opened : r.opened ≡ q.opened
  pub stopped_by : r.stopped_by ≡ q.stopped_by
  pub refused : cut_before cut r.refused ≡ q.refused
  pub midnights : r.midnights ≡ cut + q.midnights
  pub some : 0 < q.midnights
  pub most : r.midnights ≤ most_midnights
  pub last_day_lem : r.last_day ≡ q.last_day
  pub first_day_lem : q.last_day + 1 ≡ day + q.midnights
  pub long_room : length r.marks ≡ marks_length
  pub room : length q.marks ≡ marks_length
  pub marks : (k : ℕ) → k < q.midnights → mark_at r.marks (cut + k) ≡ mark_at q.marks k

-- the same, whatever room the longer one has: all that parts and scores look at
pub record Shared (cut day : ℕ) (r q : Replay) : Type 0 where
  pub session : r.session ≡ q.session
  pub stopped_by : r.stopped_by ≡ q.stopped_by
  pub midnights : r.midnights ≡ cut + q.midnights
  pub some : 0 < q.midnights
  pub last_day_lem : r.last_day ≡ q.last_day
  pub first_day_lem : q.last_day + 1 ≡ day + q.midnights
  pub marks : (k : ℕ) → k < q.midnights → mark_at r.marks (cut + k) ≡ mark_at q.marks k

-- the answers to a piece: they are the same, and so are the replays after it but for the midnights that were cut; or the longer replay
-- has its 400 midnights and is refused one more with 19, which the shorter one takes
pub data Answers (cut day : ℕ) (f g : Fed) : Type 0 where
  same : f.taken ≡ g.taken → f.refusal ≡ g.refusal → Without cut day f.replay g.replay → Answers cut day f g
  full : f.refusal ≡ first 19 → f.replay.midnights ≡ most_midnights → f.taken < g.taken → Answers cut day f g
