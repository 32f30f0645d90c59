-- `stream_worked::streams::limit` is safe and ends; what it hands on came from the entries. Assumes nothing.
use Rattle.std.proofs.Common.{◌-◌}
use Rattle.state.specs.Asked.{Given}
use Rattle.stream_worked.proofs.streams.limit.Given as goal

abbrev pub invariant-loop-k : goal.invariant-loop-k
invariant-loop-k l = Given l.own l.tallies l.shared

abbrev pub decreases-loop-k : goal.decreases-loop-k
decreases-loop-k l = 125000000 - l.k
