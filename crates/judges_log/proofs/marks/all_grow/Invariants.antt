-- `judges_log::marks::all_grow` meets its contract: part by part. Assumes nothing.
use mathlib.Core.Path.{◌≡◌}
use Prim.Native.Nat.{◌+◌, ◌-◌, ◌≤◌}
use Rattle.laws.specs.Below.{every}
use Rattle.days.specs.Reported.{now_in}
use Rattle.judges_log.specs.Judged.{grows_at}
use Rattle.judges_log.proofs.marks.all_grow.Reads as reads
use Rattle.judges_log.proofs.marks.all_grow.Lts as lts
use Rattle.judges.proofs.tests.both.Reads as both_reads
use Rattle.judges_log.proofs.marks.grows.Reads as grows_reads
use Rattle.judges_log.proofs.marks.all_grow.Given as goal

abbrev pub invariant-loop-k : goal.invariant-loop-k
invariant-loop-k l = l.good ≡ every l.k (grows_at l.marks l.midnights (now_in l.tallies))
