-- `log::stream::feed` meets its contract. Assumes nothing.
use Rattle.station_log.proofs.Feeding.{Fold}
use Rattle.replay.specs.Cells.{replay_in}
use lib.ListN.{length}
use Prim.Native.Nat.{◌-◌}
use mathlib.Core.Path.{◌≡◌}
use Rattle.station_log.specs.Asked.{batch}
use Rattle.station_log.proofs.stream.feed.Given as goal

abbrev pub invariant-loop-i : goal.invariant-loop-i
invariant-loop-i l =
    Fold (replay_in l.initial.log l.initial.marks l.initial.own l.initial.tallies l.initial.shared) l.bytes l.log l.marks l.own l.tallies l.shared l.i × (length l.words ≡ batch)

abbrev pub decreases-loop-i : goal.decreases-loop-i
decreases-loop-i l = length l.bytes - l.i
