-- `fleet::station::summed` meets its contract: the answer tells the score, and the room its served numbers. Assumes nothing.
use mathlib.Core.List.{[]}
use mathlib.Core.Path.{sym, ◌∙◌}
use Rattle.std.proofs.lemmas.Result.{err_from_is_err_and}
use Rattle.score.specs.Answers.{replay_for}
use Rattle.fleet.proofs.Months.{told_refused, told_month, told_days, served_length}
use Rattle.fleet.proofs.station.silent_days.Reads as silent_days_reads
use Rattle.score.proofs.month.score.Reads as score_reads
use Rattle.fleet.proofs.station.summed.Goals as goal

pub silent_days-requires : goal.silent_days-requires
silent_days-requires c =
    let left = c.score.ensures.told [] [] in
    (served_length _ (replay_for _ _ _) left c.in_ok-totals.was, told_days _ (replay_for _ _ _) _ (sym c.in_ok-totals.was ∙ left.answer))

pub returns-in_err-totals : goal.returns-in_err-totals
returns-in_err-totals c =
    -- the score is refused
    let p = err_from_is_err_and c.from_residual.result c.from_residual.ensures.1 in
    rw (p.1, p.2)
    (record { told = λ own shared. told_refused _ _ _ (sym c.in_err-totals.was ∙ (c.score.ensures.told own shared).answer) })

pub returns : goal.returns
returns c =
    -- it is a month
    record {
      told =
          λ own shared.
          told_month _ _ _ _ _ _ (sym c.in_ok-totals.was ∙ (c.score.ensures.told own shared).answer)
          (c.score.ensures.told own shared).served_room c.silent_days.ensures;
    }
