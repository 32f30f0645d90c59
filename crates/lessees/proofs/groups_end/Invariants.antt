-- `lessees::groups_end` meets its contract: each turn passes a group whose words are all the party's. Assumes nothing.
use Prim.Native.Nat.{◌*◌, ◌-◌}
use Rattle.lessees.specs.Rooms.{RunTo}
use Rattle.lessees.proofs.groups_end.Given as goal

abbrev pub invariant-loop-at : goal.invariant-loop-at
invariant-loop-at l = RunTo l.parties (32 * l.groups) (32 * l.from) l.party (32 * l.at)

abbrev pub decreases-loop-at : goal.decreases-loop-at
decreases-loop-at l = l.groups - l.at
