-- `lessees::take_runs` meets its contract: each turn takes a run of one party's words. Assumes nothing.
use Prim.Native.Nat.{◌-◌}
use lib.ListN.{length}
use Rattle.lessees.specs.Rooms.{cells_of, pair_of}
use Rattle.lessees.proofs.Folding.{Fold}
use Rattle.lessees.proofs.take_runs.Given as goal

abbrev pub invariant-loop-at : goal.invariant-loop-at
invariant-loop-at l =
    Fold (pair_of l.initial.own0 l.initial.tallies0 l.initial.own1 l.initial.tallies1 l.initial.shared) l.words l.parties l.own0 l.tallies0 l.own1 l.tallies1 l.shared (cells_of l.told0) (cells_of l.told1) l.at

abbrev pub decreases-loop-at : goal.decreases-loop-at
decreases-loop-at l =
    length l.words - l.at
