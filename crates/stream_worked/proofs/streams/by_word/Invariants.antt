-- `stream_worked::streams::by_word` is safe and ends; what it hands on came from the entries. Assumes nothing.
use Rattle.std.proofs.Common.{◌-◌, length}
use Rattle.state.specs.Asked.{Given}
use Rattle.stream_worked.proofs.streams.by_word.Given as goal

abbrev pub invariant-loop-i : goal.invariant-loop-i
invariant-loop-i l = Given l.own l.tallies l.shared

abbrev pub decreases-loop-i : goal.decreases-loop-i
decreases-loop-i l = length l.words - l.i
