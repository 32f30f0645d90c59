-- `judges_log::numbers::are_kept` meets its contract: each of its tests. Assumes nothing.
use Rattle.replay.specs.Cells.{viewed}
use Rattle.judges_log.specs.Judged.{numbers_by}
use Rattle.judges.proofs.Joined.{joined}
use Rattle.judges_log.proofs.numbers.are_kept.Reads as reads
use Rattle.judges_log.proofs.numbers.are_kept.Lts as lts
use Rattle.judges.proofs.tests.both.Reads as both_reads
use Rattle.judges_log.proofs.numbers.are_days.Reads as are_days_reads
use Rattle.judges_log.proofs.numbers.is_record.Reads as is_record_reads
use Rattle.judges_log.proofs.numbers.is_refused.Reads as is_refused_reads
use Rattle.judges_log.proofs.numbers.is_stop.Reads as is_stop_reads
use Rattle.judges_log.proofs.numbers.are_kept.Goals as goal

pub returns : goal.returns
unfolding numbers_by viewed
returns c =
    joined c.both-3.ensures c.is_stop-stop.ensures
    (joined c.both-2.ensures c.is_record-record.ensures
    (joined c.both.ensures c.is_refused-refused.ensures c.are_days-days.ensures))
