-- `fleet::station::silent_days` meets its contract. Loop: the silent days among the first. Assumes nothing.
use Rattle.fleet.proofs.Months.{Counting}
use Rattle.fleet.proofs.station.silent_days.Given as goal

abbrev pub invariant-loop-k : goal.invariant-loop-k
invariant-loop-k l = Counting l.served l.days l.owed l.silent l.k
