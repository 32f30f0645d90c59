-- `fleet::report::stations` meets its contract. Loop: the first stations are summed up, and none of them is refused. Assumes nothing.
use Rattle.fleet.proofs.Summing.{Summing}
use Rattle.fleet.proofs.parts.add.Reads as add_reads
use Rattle.fleet.proofs.parts.none.Reads as none_reads
use Rattle.fleet.proofs.report.month_at.Reads as month_at_reads
use Rattle.fleet.proofs.report.stations.Given as goal

abbrev pub invariant-loop-k : goal.invariant-loop-k
invariant-loop-k l = Summing l.edition l.logs l.numbers l.fleet l.start l.k
