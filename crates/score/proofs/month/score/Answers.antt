-- `score::month::score` meets its contract. Assumes nothing.
use mathlib.Core.Path.{◌∙◌}
use native.Mathlib.Omega.{arith}
use Rattle.std.proofs.lemmas.Result.{err_from_is_err_and}
use Rattle.score.proofs.Lines.{bounds}
use Rattle.score.proofs.Scores.{was_taken, was_refused, was_21, owed_small, score_line, score_stopped, score_given}
use Rattle.score.proofs.month.score.Goals as goal

pub returns-in_err-judge : goal.returns-in_err-judge
returns-in_err-judge c =
    let p = err_from_is_err_and c.from_residual.result c.from_residual.ensures.1 in
    rw (p.1, p.2)
    (score_line _ _ _ _ _ _ (was_refused _ _ c.judge.ensures _ c.in_err-judge.was) _ (was_21 _ _ c.judge.ensures _ c.in_err-judge.was))

pub returns-then-by-ne0 : goal.returns-then-by-ne0
returns-then-by-ne0 c =
    score_stopped _ _ _ _ _ _ (was_taken _ _ c.judge.ensures _ c.in_ok-judge.was) c.if-by-ne0.true

pub fill-total-requires : goal.fill-total-requires
fill-total-requires c =
    bounds _ (was_taken _ _ c.judge.ensures _ c.in_ok-judge.was)

pub overflow_mul-due : goal.overflow_mul-due
overflow_mul-due c =
    let was-taken-here = was_taken _ _ c.judge.ensures _ c.in_ok-judge.was in
    let few_days = (bounds _ was-taken-here).few_days in
    let few_owed = (bounds _ was-taken-here).few_owed in
    rw (c.from.ensures, c.from-2.ensures) (omega (arith, owed_small _ _ few_days few_owed))

pub returns : goal.returns
returns c =
    rw (c.from.ensures, c.from-2.ensures)
    (score_given _ _ _ _ _ _ (was_taken _ _ c.judge.ensures _ c.in_ok-judge.was) c.if-by-ne0.false _ _ _ c.fill-total.ensures _
    (rw (c.from.ensures, c.from-2.ensures) at c.called.ensures))
