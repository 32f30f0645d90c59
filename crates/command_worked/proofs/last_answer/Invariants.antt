-- `command_worked::last_answer` is safe and ends; what it hands on came from the entries. Assumes nothing.
use Rattle.state.specs.Asked.{Given}
use Rattle.command_worked.proofs.last_answer.Given as goal

abbrev pub invariant-loop-word : goal.invariant-loop-word
invariant-loop-word l = Given l.own l.tallies l.shared
