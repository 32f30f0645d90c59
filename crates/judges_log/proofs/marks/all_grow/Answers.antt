-- `judges_log::marks::all_grow` meets its contract: part by part. Assumes nothing.
use mathlib.Core.Path.{◌∙◌}
use native.Mathlib.Omega.{arith}
use Rattle.judges.proofs.Joined.{joined, one_more, none_yet, all_tested}
use Rattle.judges_log.proofs.marks.all_grow.Reads as reads
use Rattle.judges_log.proofs.marks.all_grow.Lts as lts
use Rattle.judges.proofs.tests.both.Reads as both_reads
use Rattle.judges_log.proofs.marks.grows.Reads as grows_reads
use Rattle.judges_log.proofs.marks.all_grow.Goals as goal

pub loop-k-init : goal.loop-k-init
loop-k-init c = none_yet _

pub loop-k-preserved : goal.loop-k-preserved
loop-k-preserved c =
    joined c.both-good.ensures c.loop-k.invariant c.grows.ensures ∙ one_more _ _

pub returns : goal.returns
returns c = all_tested _ c.loop-k.invariant (omega arith)
