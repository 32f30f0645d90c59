-- What request 5 promises of every score, as statements about its definitions. Assumes nothing.
use Rattle.std.specs.Prelude.{◌≡◌, true, false, ℕ, ◌+◌, ◌<◌, ◌≤◌, get_or}
use Rattle.replay.specs.State.{Replay}
use Rattle.replay.specs.Step.{StopNumber}
use Rattle.replay.specs.Report.{part_at, day_at}
use Rattle.score.specs.Lease.{Lease, is_lease, most_days}
use Rattle.score.specs.Score.{Month, claimed_on, served_at, month_of}
use Rattle.score.specs.declared.month.Verdict.{Verdict}
use Rattle.score.specs.declared.month.Verdict.TheVariants.{Full, Short, NothingOwed}

-- "every day owes more than 0 and is served in full"
pub record AllServed (l : Lease) (r : Replay) : Type 0 where
  pub owes : 0 < l.owed
  pub full_days : (k : ℕ) → k < l.days → served_at l r k ≡ l.owed

-- the three names, each with what it is given for
pub data Calling (l : Lease) (r : Replay) : Verdict → Type 0 where
  full : AllServed l r → Calling l r Full
  nothing : l.owed ≡ 0 → Calling l r NothingOwed
  short : 0 < l.owed → (AllServed l r → ⊥) → Calling l r Short

-- part `k` of a log is a day: it began at a midnight, and the midnight's number is the day's
pub record DayPart (r : Replay) (day k : ℕ) : Type 0 where
  pub begun : 0 < k
  pub reached : k ≤ r.midnights
  pub same_day : day_at r k ≡ day

-- where the claimed number of a day comes from. Part 0, what ended before the first midnight, is of no day.
pub data Claimed (r : Replay) (day : ℕ) : Type 0 where
  on_part : (k : ℕ) → DayPart r day k → claimed_on r day ≡ (part_at r k).claims → Claimed r day
  on_none : ((k : ℕ) → DayPart r day k → ⊥) → claimed_on r day ≡ 0 → Claimed r day

-- the numbers that a score is refused with: "else 21; then 18 or 19 from the log"
pub data Refusing (l : Lease) (r : Replay) : ℕ → Type 0 where
  by_line : is_lease l ≡ false → Refusing l r 21
  by_log : is_lease l ≡ true → StopNumber r.stopped_by → Refusing l r r.stopped_by

-- a month that was scored: the lease line was taken, the replay wasn't stopped, the rooms hold each day's numbers and zeros past
-- the last day, and neither a day nor the month is served more than it owes
pub record Scoring (l : Lease) (r : Replay) (m : Month) : Type 0 where
  pub taken : is_lease l ≡ true
  pub running : r.stopped_by ≡ 0
  pub month : m ≡ month_of l r
  pub claimed_days : (k : ℕ) → k < l.days → get_or m.claimed k 0 ≡ claimed_on r (l.first_day + k)
  pub served_days : (k : ℕ) → k < l.days → get_or m.served k 0 ≡ served_at l r k
  pub claimed_past : (k : ℕ) → l.days ≤ k → k < most_days → get_or m.claimed k 0 ≡ 0
  pub served_past : (k : ℕ) → l.days ≤ k → k < most_days → get_or m.served k 0 ≡ 0
  pub day_most : (k : ℕ) → k < l.days → get_or m.served k 0 ≤ l.owed
  pub month_most : m.totals.served ≤ m.totals.owed
