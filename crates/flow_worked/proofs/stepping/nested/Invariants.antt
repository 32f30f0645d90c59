-- `flow_worked::stepping::nested` meets its contract. Loop: the cells are given out. Assumes nothing.
use Rattle.group.specs.Cells.{GroupGiven}
use Rattle.flow_worked.proofs.stepping.nested.Given as goal

abbrev pub invariant-loop-deeper : goal.invariant-loop-deeper
invariant-loop-deeper l = GroupGiven l.cells
