-- `fleet::report::counted` meets its contract: 22, then what the stations tell. Assumes nothing.
use Rattle.fleet.proofs.Judging.{fleet_asked, too_many, then_stations}
use Rattle.fleet.proofs.report.stations.Reads as stations_reads
use Rattle.fleet.proofs.report.counted.Goals as goal

pub returns-then-numbers-gt-STATIONS : goal.returns-then-numbers-gt-STATIONS
returns-then-numbers-gt-STATIONS c = too_many _ _ _ c.if-numbers-gt-STATIONS.true c.from.ensures

pub stations-requires : goal.stations-requires
stations-requires c = fleet_asked _ _ _ c.requires c.if-numbers-gt-STATIONS.false

pub returns : goal.returns
returns c = then_stations _ _ _ c.if-numbers-gt-STATIONS.false c.stations.ensures
