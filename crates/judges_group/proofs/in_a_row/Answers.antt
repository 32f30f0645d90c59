-- `judges_group::in_a_row` meets its contract: a word and its half, place by place. Assumes nothing.
use Rattle.judges_group.proofs.Words.{both_tests, row_word}
use Rattle.judges_group.proofs.in_a_row.Goals as goal

pub returns : goal.returns
returns c = row_word c.args.all c.ranges.all.fits (both_tests _ _)
