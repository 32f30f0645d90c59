-- `score::line::LeaseLine::judge` meets its contract. Assumes nothing.
use native.Mathlib.Omega.{arith}
use Rattle.score.proofs.Lines.{no_days, many_days, much_owed, past_last, line_taken}
use Rattle.score.proofs.line.LeaseLine.judge.Goals as goal
use Rattle.score.proofs.line.LeaseLine.judge.Goals.{then-self-lt1-via-then-self-lt1, then-self-lt1-via-else-self-lt1+then-self-gt-MOST_DAYS, then-self-lt1-via-else-self-lt1+else-self-gt-MOST_DAYS+then-self-gt-MOST_OWED}

pub returns-then-self-lt1 : goal.returns-then-self-lt1
returns-then-self-lt1 c =
    elim c.then-self-lt1.branch [
      | then-self-lt1-via-then-self-lt1 w ↦ no_days _ _ _ w.if-self-lt1.true
      | then-self-lt1-via-else-self-lt1+then-self-gt-MOST_DAYS w ↦ many_days _ _ _ w.if-self-gt-MOST_DAYS.true
      | then-self-lt1-via-else-self-lt1+else-self-gt-MOST_DAYS+then-self-gt-MOST_OWED w ↦ much_owed _ _ _ w.if-self-gt-MOST_OWED.true
    ]

pub returns-then-from-gt-LAST_DAY : goal.returns-then-from-gt-LAST_DAY
returns-then-from-gt-LAST_DAY c = past_last _ _ _ (omega arith)

pub returns : goal.returns
returns c = line_taken _ _ _ (omega arith) (omega arith) (omega arith) (omega arith)
