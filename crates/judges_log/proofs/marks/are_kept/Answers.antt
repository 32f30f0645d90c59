-- `judges_log::marks::are_kept` meets its contract: they grow, and the rest is 0. Assumes nothing.
use Rattle.judges.proofs.Joined.{joined}
use Rattle.judges_log.specs.Judged.{marks_by}
use Rattle.judges_log.proofs.marks.are_kept.Reads as reads
use Rattle.judges_log.proofs.marks.are_kept.Lts as lts
use Rattle.judges.proofs.tests.both.Reads as both_reads
use Rattle.judges_log.proofs.marks.all_grow.Reads as all_grow_reads
use Rattle.judges_log.proofs.marks.are_rest.Reads as are_rest_reads
use Rattle.judges_log.proofs.marks.are_kept.Goals as goal

pub returns : goal.returns
unfolding marks_by
returns c = joined c.both.ensures c.all_grow.ensures c.are_rest.ensures
