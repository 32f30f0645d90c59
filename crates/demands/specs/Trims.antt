-- A replay that forgets its past days, over a host's arrays: what egretfold_log_trim leaves, and how it goes on. Assumes nothing.
use Rattle.std.specs.Prelude.{◌≡◌, ℕ, ◌+◌, ◌≤◌}
use Rattle.replay.specs.State.{most_midnights}
use Rattle.replay.specs.Report.{part_at, day_at}
use Rattle.log_rooms.specs.Pieces.{Arrays, replay_at}
use Rattle.score.specs.Lease.{Lease}
use Rattle.score.specs.Score.{score_of}
use Rattle.trim.specs.Left.{TrimCrosses}

-- what one call of egretfold_log_trim answers and leaves: it isn't lent the session's three arrays
pub record TrimmedAt (a : Arrays) (r : ℕ) (a' : Arrays) : Type 0 where
  pub crosses : TrimCrosses a.log a.marks r a'.log a'.marks
  pub own : a'.own ≡ a.own
  pub tallies : a'.tallies ≡ a.tallies
  pub shared : a'.shared ≡ a.shared

-- the arrays of two replays after the same bytes, `e` from one with `m` midnights, the last on `day`, and `e'` from the same trimmed: the
-- same status and bytes taken; part k + 1 of the trimmed one has the runs, claims and day of part m + k; and a lease line that begins on
-- that day or later has the same score, day by day and in sum
pub record SameAfter (m day status taken : ℕ) (e : Arrays) (status' taken' : ℕ) (e' : Arrays) : Type 0 where
  pub statuses : status' ≡ status
  pub taken_too : taken' ≡ taken
  pub parts : (k : ℕ) → k + 1 ≤ (replay_at e').midnights → part_at (replay_at e') (k + 1) ≡ part_at (replay_at e) (m + k)
  pub days : (k : ℕ) → k + 1 ≤ (replay_at e').midnights → day_at (replay_at e') (k + 1) ≡ day_at (replay_at e) (m + k)
  pub scores : (l : Lease) → day ≤ l.first_day → score_of l (replay_at e') ≡ score_of l (replay_at e)

-- a call wasn't refused with 19 after all the midnights that there is room for
abbrev pub HadRoom : ℕ → Arrays → Type 0
HadRoom status e = status ≡ 19 → (replay_at e).midnights ≡ most_midnights → ⊥
