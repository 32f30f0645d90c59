-- `fleet::lengths::add_up` meets its contract. Loop: what is left and the lengths so far are the slice. Assumes nothing.
use Rattle.fleet.proofs.Slices.{Adding}
use Rattle.fleet.proofs.lengths.add_up.Given as goal

abbrev pub invariant-loop-k : goal.invariant-loop-k
invariant-loop-k l = Adding l.numbers l.slice l.left l.k
