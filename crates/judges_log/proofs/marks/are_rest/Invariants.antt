-- `judges_log::marks::are_rest` meets its contract: mark by mark. Assumes nothing.
use mathlib.Core.Path.{◌≡◌}
use Prim.Native.Nat.{◌-◌, ◌≤◌}
use Rattle.laws.specs.Below.{every}
use Rattle.replay.specs.State.{marks_length}
use Rattle.judges_log.specs.Judged.{rest_at}
use Rattle.judges_log.proofs.marks.are_rest.Reads as reads
use Rattle.judges_log.proofs.marks.are_rest.Lts as lts
use Rattle.judges.proofs.tests.both.Reads as both_reads
use Rattle.judges_log.proofs.marks.is_rest.Reads as is_rest_reads
use Rattle.judges_log.proofs.marks.are_rest.Given as goal

abbrev pub invariant-loop-k : goal.invariant-loop-k
invariant-loop-k l = l.good ≡ every l.k (rest_at l.marks l.midnights)
