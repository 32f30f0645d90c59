-- A score as a status and rooms: a lease line under an edition, and a month in three rooms. Assumes nothing.
use Rattle.std.specs.Prelude.{List, [], ◌∷◌, ℕ}
use Rattle.refusal.specs.Told.{Told, gives, refuses, then_told}
use Rattle.state.specs.Start.{edition_told}
use Rattle.replay.specs.Cells.{replay_in}
use Rattle.score.specs.Lease.{Lease, lease_told}
use Rattle.score.specs.Score.{Score, scored, refused, score_of}
use Rattle.score.specs.declared.month.Verdict.{Verdict}
use Rattle.score.specs.declared.month.Verdict.TheVariants.{Full, Short, NothingOwed}
use Rattle.refusal.specs.Crossing.{Crosses}

-- "A session's edition (1 or 2, else 3 before all else) .. also for .. score": a lease line under an edition
unfoldable pub line_told : ℕ → Lease → Told
line_told edition l = then_told (edition_told edition) (lease_told l)

abbrev pub verdict_number : Verdict → ℕ
verdict_number Full = 0
verdict_number Short = 1
verdict_number NothingOwed = 2

-- what each room is told: the claimed numbers, the served ones, and the month's three
abbrev pub claimed_told : Score → Told
claimed_told (scored m) = gives m.claimed
claimed_told (refused number) = refuses number

abbrev pub served_told : Score → Told
served_told (scored m) = gives m.served
served_told (refused number) = refuses number

abbrev pub month_told : Score → Told
month_told (scored m) = gives (m.totals.served ∷ m.totals.owed ∷ verdict_number m.totals.verdict ∷ [])
month_told (refused number) = refuses number

pub record MonthCrosses (s : Score) (r : ℕ) (claimed served month claimed' served' month' : List ℕ) : Type 0 where
  pub claimed_room : Crosses (claimed_told s) r claimed claimed'
  pub served_room : Crosses (served_told s) r served served'
  pub month_room : Crosses (month_told s) r month month'

-- the score of a replay, whatever its session's other arrays hold
pub record ScoreCrosses (l : Lease) (log marks tallies : List ℕ) (r : ℕ)
    (claimed served month claimed' served' month' : List ℕ)
    : Type 0
  where
    pub crosses :
        (own shared : List ℕ) →
        MonthCrosses (score_of l (replay_in log marks own tallies shared)) r claimed served month claimed' served' month'
