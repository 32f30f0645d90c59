-- What the routines of a score ask, what their answers tell, and what they leave in the rooms that they are lent.
-- Assumes nothing.
use Rattle.std.specs.Prelude.{◌≡◌, List, [], ℕ, ◌+◌, ◌≤◌, eqb, Result, Ok, Err}
use Rattle.laws.specs.Choice.{pick}
use Rattle.replay.specs.State.{Replay}
use Rattle.replay.specs.Cells.{replay_in}
use Rattle.score.specs.Lease.{Lease, most_days, most_owed, past_days}
use Rattle.score.specs.Score.{Score, scored, refused, claimed_at, served_at, served_in_all, room_for, score_of}
use Rattle.score.specs.declared.month.Verdict.{Verdict}
use Rattle.score.specs.declared.month.Verdict.TheVariants.{Full, Short, NothingOwed}
use Rattle.score.specs.declared.month.Totals.{Totals}

abbrev pub lease_line : ℕ → ℕ → ℕ → Lease
lease_line first_day days owed = record { first_day = first_day; days = days; owed = owed }

-- the replay of a score's arrays: a score asks nothing of the session but its tallies
abbrev pub replay_for : List ℕ → List ℕ → List ℕ → Replay
replay_for log marks tallies = replay_in log marks [] tallies []

-- the bounds of a lease line that is taken
pub record Bounded (l : Lease) : Type 0 where
  pub some_days : 1 ≤ l.days
  pub few_days : l.days ≤ most_days
  pub few_owed : l.owed ≤ most_owed
  pub no_wrap : l.first_day + l.days ≤ past_days

-- the rooms hold the numbers of each day, and the served ones are summed
pub record Filled (l : Lease) (r : Replay) (total : ℕ) (claimed served : List ℕ) : Type 0 where
  pub sum : total ≡ served_in_all l r
  pub claimed_room : claimed ≡ room_for l.days (claimed_at l r)
  pub served_room : served ≡ room_for l.days (served_at l r)

-- what a month is called by its two numbers
unfoldable pub called_by : ℕ → ℕ → Verdict
called_by served owed = pick (eqb owed 0) NothingOwed (pick (eqb served owed) Full Short)

-- the month, or the number of the refusal
abbrev pub answer_of : Score → Result Totals ℕ
answer_of (scored m) = Ok m.totals
answer_of (refused number) = Err number

-- the rooms at return: a refusal writes nothing
abbrev pub claimed_after : Score → List ℕ → List ℕ
claimed_after (scored m) room = m.claimed
claimed_after (refused number) room = room

abbrev pub served_after : Score → List ℕ → List ℕ
served_after (scored m) room = m.served
served_after (refused number) room = room

pub record Left (s : Score) (r : Result Totals ℕ) (claimed served claimed' served' : List ℕ) : Type 0 where
  pub answer : r ≡ answer_of s
  pub claimed_room : claimed' ≡ claimed_after s claimed
  pub served_room : served' ≡ served_after s served

-- the score of a replay, whatever its session's other arrays hold
pub record Scores (l : Lease) (log marks tallies : List ℕ) (r : Result Totals ℕ) (claimed served claimed' served' : List ℕ) : Type 0 where
  pub told :
      (own shared : List ℕ) →
      Left (score_of l (replay_in log marks own tallies shared)) r claimed served claimed' served'
