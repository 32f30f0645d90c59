-- `log::stream::gather` meets its contract. Assumes nothing.
use mathlib.Core.Path.{◌≡◌}
use lib.ListN.{length, drop}
use Rattle.station_log.specs.Asked.{batch, Gathered}
use Rattle.station_log.proofs.stream.gather.Given as goal

abbrev pub invariant-loop-n : goal.invariant-loop-n
invariant-loop-n l = Gathered (drop l.at l.bytes) l.n l.words × (length l.words ≡ batch)
