-- Years: a replay that forgets its days.
-- A page behind Demands.antt, made as that one is: each statement under its sentence, each proof a citation. Assumes nothing.
use mathlib.Core.Path.{◌≡◌}
use mathlib.Core.Bool.{Bool, true}
use mathlib.Core.List.{List}
use Prim.Native.Nat.{ℕ, ◌<◌, ◌≤◌}
use Rattle.laws.specs.Below.{some}
use Rattle.replay.specs.State.{Replay, new_replay}
use Rattle.replay.specs.Report.{first_day}
use Rattle.station_log.specs.Asked.{Bytes8}
use Rattle.station_log.specs.Feed.{replay_of}
use Rattle.score.specs.Lease.{Lease}
use Rattle.score.specs.Score.{score_of}
use Rattle.replay.specs.Cells.{ReplayValid}
use Rattle.log_rooms.specs.Pieces.{Arrays, replay_at, GivenAt, FedAt}
use Rattle.score_rooms.specs.Rooms.{MonthCrosses, ScoreCrosses}
use Rattle.judges.specs.Judged.{Judges}
use Rattle.demands.specs.Trims.{TrimmedAt, SameAfter, HadRoom}
use Rattle.demands.proofs.Trims.{trimmed_goes_on, trimmed_view}
use Rattle.trim.specs.Trim.{trimmed}
use Rattle.trim.specs.Laws.{NotFull}
use Rattle.trim.proofs.Kept.{trimmed_again}
use Rattle.trim.proofs.Laws.{trim_takes, trim_any_time}
use Rattle.trim.specs.Free.{new_free, free_of, Keeps}
use Rattle.trim.proofs.Years.{free_is}
use Rattle.demands.specs.Years.{LogCalls, unlimited, AnswersAs}
use Rattle.demands.proofs.Years.{years_answered, years_scored, years_judged}
use Rattle.demands.proofs.States.{replay_given}
use Rattle.demands.specs.States as states

-- STATES THAT WERE KEPT ELSEWHERE

-- DAYS THAT ARE FORGOTTEN. egretfold_log_trim keeps of a replay's midnights the last one only, so that 399 more may come. Whatever bytes come
-- then, both replays answer the same, each part from that midnight on has the same runs, claims and day, and each lease line that begins on
-- its day or later has the same score; unless the untrimmed replay, with its 400 midnights, has no room for one more.
pub trim_goes_on :
    {a : Arrays} → states.Replay a → 0 < (replay_at a).midnights → {r : ℕ} {a' : Arrays} → TrimmedAt a r a' → (bytes : List ℕ) → Bytes8 bytes →
    (status taken : ℕ) (e : Arrays) → FedAt (replay_of (replay_at a) bytes) status taken e → (status' taken' : ℕ) (e' : Arrays) →
    FedAt (replay_of (replay_at a') bytes) status' taken' e' → HadRoom status e →
    SameAfter (replay_at a).midnights (replay_at a).last_day status taken e status' taken' e'
trim_goes_on h some c = trimmed_goes_on (replay_given h) some c

-- What the next piece is answered, the last and refused one too, is what that replay answers: the same status, the same bytes taken.
pub trim_years_answers :
    {edition : ℕ} {bytes : List ℕ} {a : Arrays} → LogCalls edition bytes a → (p : List ℕ) → Bytes8 p → (status taken : ℕ) (a' : Arrays) →
    FedAt (replay_of (replay_at a) p) status taken a' → HadRoom status a' → AnswersAs (free_of (unlimited edition bytes) p) status taken
trim_years_answers = years_answered

-- What egretfold_score_month writes and returns for such a lease line is that replay's month.
pub trim_years_month :
    {edition : ℕ} {bytes : List ℕ} {a : Arrays} → LogCalls edition bytes a → (l : Lease) → 0 < (replay_at a).midnights →
    first_day (replay_at a).midnights (replay_at a).last_day ≤ l.first_day →
    {r : ℕ} {claimed served month claimed' served' month' : List ℕ} →
    ScoreCrosses l a.log a.marks a.tallies r claimed served month claimed' served' month' →
    MonthCrosses (score_of l (unlimited edition bytes)) r claimed served month claimed' served' month'
trim_years_month = years_scored

-- And egretfold_log_check takes what the calls leave.
pub trim_years_taken :
    {edition : ℕ} {bytes : List ℕ} {a : Arrays} → LogCalls edition bytes a → {yes : Bool} → Judges yes (GivenAt a) → yes ≡ true
trim_years_taken = years_judged

-- Never trimmed, a replay is that one up to its 401st midnight.
pub trim_years_free :
    (edition : ℕ) (bytes : List ℕ) → Keeps 0 (free_of (new_free edition) bytes) (replay_of (new_replay edition) bytes)
trim_years_free = free_is

-- And in any case: what the untrimmed replay takes, the trimmed one takes.
pub trim_takes_all :
    (r : Replay) → ReplayValid r → 0 < r.midnights → (bytes : List ℕ) → (replay_of r bytes).taken ≤ (replay_of (trimmed r) bytes).taken
trim_takes_all = trim_takes

-- Trimming again changes nothing, and a replay may be trimmed at any time: before a piece and after it leaves what after it alone leaves.
pub trim_again : (r : Replay) → trimmed (trimmed r) ≡ trimmed r
trim_again = trimmed_again

pub trim_when :
    (r : Replay) → ReplayValid r → 0 < r.midnights → (bytes : List ℕ) → NotFull (replay_of r bytes) →
    trimmed (replay_of (trimmed r) bytes).replay ≡ trimmed (replay_of r bytes).replay
trim_when = trim_any_time

-- What trimming leaves is judged yes (`states.Replay` has a constructor for it), and is the trimmed replay, cell by cell.
pub trim_cells : {a : Arrays} → states.Replay a → {r : ℕ} {a' : Arrays} → TrimmedAt a r a' → replay_at a' ≡ trimmed (replay_at a)
trim_cells h c = trimmed_view (replay_given h) c
