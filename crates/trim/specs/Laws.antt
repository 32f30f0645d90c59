-- What the laws of a trimmed replay say, of the answers to any more bytes. Assumes nothing.
use Rattle.std.specs.Prelude.{◌≡◌, ℕ, ◌+◌, ◌-◌, ◌<◌, ◌≤◌}
use Rattle.session.specs.Feed.{first}
use Rattle.replay.specs.State.{most_midnights}
use Rattle.replay.specs.Report.{mark_at, part_at, day_at}
use Rattle.station_log.specs.Feed.{Fed}
use Rattle.score.specs.Lease.{Lease}
use Rattle.score.specs.Score.{claimed_on, score_of}

-- a piece wasn't refused with 19 after all the midnights that a replay has room for
abbrev pub NotFull : Fed → Type 0
NotFull f = f.refusal ≡ first 19 → f.replay.midnights ≡ most_midnights → ⊥

-- `f` is the answer to a piece by a replay with `m` midnights, the last on `day`, and `g` that by the replay trimmed: the answers are
-- the same; each part from that midnight on has the same runs, claims and day; and so has each lease line from that day on its score
pub record SameFrom (m day : ℕ) (f g : Fed) : Type 0 where
  pub taken : g.taken ≡ f.taken
  pub refusal : g.refusal ≡ f.refusal
  pub session : g.replay.session ≡ f.replay.session
  pub parts : (k : ℕ) → k + 1 ≤ g.replay.midnights → part_at g.replay (k + 1) ≡ part_at f.replay (m + k)
  pub days : (k : ℕ) → k + 1 ≤ g.replay.midnights → day_at g.replay (k + 1) ≡ day_at f.replay (m + k)
  pub last : m + g.replay.midnights ≡ f.replay.midnights + 1
  -- part 0 has all that ended before that midnight
  pub before : part_at g.replay 0 ≡ mark_at f.replay.marks (m - 1)
  pub scores : (l : Lease) → day ≤ l.first_day → score_of l g.replay ≡ score_of l f.replay
  -- and a day before it has none any more
  pub forgotten : (d : ℕ) → d < day → claimed_on g.replay d ≡ 0
