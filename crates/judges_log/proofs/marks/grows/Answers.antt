-- `judges_log::marks::grows` meets its contract: runs and claims of a part. Assumes nothing.
use mathlib.Core.Path.{ap, ap₂}
use lib.Dec.{leb}
use Rattle.state.specs.State.{Tally}
use Rattle.judges_log.specs.Judged.{grows_at}
use Rattle.judges.proofs.Joined.{joined}
use Rattle.judges_log.proofs.marks.grows.Reads as reads
use Rattle.judges_log.proofs.marks.grows.Lts as lts
use Rattle.days.proofs.report.began.Reads as began_reads
use Rattle.days.proofs.report.ended.Reads as ended_reads
use Rattle.judges.proofs.tests.both.Reads as both_reads
use Rattle.judges_log.proofs.marks.grows.Goals as goal

pub returns : goal.returns
unfolding grows_at
returns c =
    joined c.both.ensures
    (ap₂ leb (ap (λ (t : Tally). t.runs) c.began-from.ensures) (ap (λ (t : Tally). t.runs) c.ended-to.ensures))
    (ap₂ leb (ap (λ (t : Tally). t.claims) c.began-from.ensures) (ap (λ (t : Tally). t.claims) c.ended-to.ensures))
