-- Document 02, request 5: the monthly score, "the product that reads a station's log and lease line .. and gives for each day the
-- claimed number, capped at the owed number, and for the month two whole numbers: served and owed". It is a function of the
-- lease line and the replay of the log. The days of a lease are counted from 0. Assumes nothing.
use Rattle.std.specs.Prelude.{Bool, List, [], ◌∷◌, ℕ, zero, suc, ◌+◌, ◌-◌, ◌*◌, min, eqb, leb, ltb}
use Rattle.laws.specs.Choice.{◌and◌, pick}
use Rattle.laws.specs.Below.{every, sum}
use Rattle.replay.specs.State.{Replay, new_replay}
use Rattle.replay.specs.Report.{part_at}
use Rattle.station_log.specs.Feed.{replay_of}
use Rattle.score.specs.Lease.{Lease, is_lease, most_days}
use Rattle.score.specs.declared.month.Verdict.{Verdict}
use Rattle.score.specs.declared.month.Verdict.TheVariants.{Full, Short, NothingOwed}
use Rattle.score.specs.declared.month.Totals.{Totals}

-- whether the log has a midnight record of a day: its midnights name consecutive days, up to the last one's
unfoldable pub has_midnight : ℕ → ℕ → ℕ → Bool
has_midnight midnights last_day day = leb day last_day and ltb last_day (day + midnights)

-- which part of the log such a day is: the last part is the last day's
abbrev pub part_of_day : ℕ → ℕ → ℕ → ℕ
part_of_day midnights last_day day = day + midnights - last_day

-- the claimed number of a day, by its number
unfoldable pub claimed_on : Replay → ℕ → ℕ
claimed_on r day =
    pick (has_midnight r.midnights r.last_day day) (part_at r (part_of_day r.midnights r.last_day day)).claims 0

abbrev pub claimed_at : Lease → Replay → ℕ → ℕ
claimed_at l r k = claimed_on r (l.first_day + k)

-- "capped at the owed number". "A day without a midnight record in the log is served 0."
unfoldable pub served_at : Lease → Replay → ℕ → ℕ
served_at l r k = min (claimed_at l r k) l.owed

-- "for the month two whole numbers: served and owed"
abbrev pub served_in_all : Lease → Replay → ℕ
served_in_all l r = sum l.days (served_at l r)

abbrev pub owed_in_all : Lease → ℕ
owed_in_all l = l.days * l.owed

-- "A station is called full exactly when every day owes more than 0 and is served in full"
abbrev pub served_in_full : Lease → Replay → ℕ → Bool
served_in_full l r k = ltb 0 l.owed and eqb (served_at l r k) l.owed

-- "owing nothing is called "nothing owed", any other "short""
unfoldable pub verdict_of : Lease → Replay → Verdict
verdict_of l r = pick (every l.days (served_in_full l r)) Full (pick (eqb (owed_in_all l) 0) NothingOwed Short)

-- the first `n` numbers of a function
unfoldable pub numbers_of : ℕ → (ℕ → ℕ) → List ℕ
numbers_of zero f = []
numbers_of (suc n) f = f zero ∷ numbers_of n (λ k. f (suc k))

-- a number for each day of a lease, in a room for the longest one: 0 past the last day
unfoldable pub room_for : ℕ → (ℕ → ℕ) → List ℕ
room_for days f = numbers_of most_days (λ k. pick (ltb k days) (f k) 0)

pub record Month : Type 0 where
  pub claimed : List ℕ
  pub served : List ℕ
  pub totals : Totals

abbrev pub month_of : Lease → Replay → Month
month_of l r =
    record {
      claimed = room_for l.days (claimed_at l r);
      served = room_for l.days (served_at l r);
      totals = record { served = served_in_all l r; owed = owed_in_all l; verdict = verdict_of l r };
    }

pub data Score : Type 0 where
  scored : Month → Score
  refused : ℕ → Score

-- "else 21; then 18 or 19 from the log". Refused words and unfinished records refuse nothing: the score is of what was claimed.
unfoldable pub score_of : Lease → Replay → Score
score_of l r = pick (is_lease l) (pick (eqb r.stopped_by 0) (scored (month_of l r)) (refused r.stopped_by)) (refused 21)

-- the whole product: "reads a station's log and lease line", by an edition
abbrev pub score_of_log : ℕ → Lease → List ℕ → Score
score_of_log edition l bytes = score_of l (replay_of (new_replay edition) bytes).replay
