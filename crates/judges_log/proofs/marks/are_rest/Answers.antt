-- `judges_log::marks::are_rest` meets its contract: mark by mark. Assumes nothing.
use mathlib.Core.Path.{◌∙◌}
use native.Mathlib.Omega.{arith}
use Rattle.judges.proofs.Joined.{joined, one_more, none_yet, all_tested}
use Rattle.judges_log.proofs.marks.are_rest.Reads as reads
use Rattle.judges_log.proofs.marks.are_rest.Lts as lts
use Rattle.judges.proofs.tests.both.Reads as both_reads
use Rattle.judges_log.proofs.marks.is_rest.Reads as is_rest_reads
use Rattle.judges_log.proofs.marks.are_rest.Goals as goal

pub loop-k-init : goal.loop-k-init
loop-k-init c = none_yet _

pub is_rest-requires : goal.is_rest-requires
is_rest-requires c = (c.requires, c.loop-k-test.true)

pub loop-k-preserved : goal.loop-k-preserved
loop-k-preserved c =
    joined c.both-good.ensures c.loop-k.invariant c.is_rest.ensures ∙ one_more _ _

pub returns : goal.returns
returns c = all_tested _ c.loop-k.invariant (omega arith)
