-- `tables::size_line` meets its contract: before each turn, no line so far holds the size. Assumes nothing.
use Prim.Native.Nat.{◌≤◌, ◌-◌}
use Rattle.tables.specs.Tables.{sizes}
use Rattle.tables.proofs.Search.{NotBefore}
use Rattle.tables.proofs.size_line.Given as goal

abbrev pub invariant-loop-line : goal.invariant-loop-line
invariant-loop-line l = (l.line ≤ 5) × NotBefore l.size sizes l.line

abbrev pub decreases-loop-line : goal.decreases-loop-line
decreases-loop-line l = 5 - l.line
