-- `lessees::run_end` meets its contract: each turn passes a word of the party. Assumes nothing.
use Prim.Native.Nat.{◌-◌, ◌<◌}
use Rattle.lessees.specs.Rooms.{RunTo}
use Rattle.lessees.proofs.run_end.Given as goal

abbrev pub invariant-loop-at : goal.invariant-loop-at
invariant-loop-at l = RunTo l.parties l.length l.from l.party l.at × (l.from < l.at)

abbrev pub decreases-loop-at : goal.decreases-loop-at
decreases-loop-at l = l.length - l.at
