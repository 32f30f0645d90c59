-- `fleet::report::report` meets its contract: the answer as it crosses. Assumes nothing.
use Rattle.fleet.proofs.Judging.{room_four, refused_crosses, fleet_crosses}
use Rattle.fleet.proofs.report.judged.Reads as judged_reads
use Rattle.fleet.proofs.report.write.Reads as write_reads
use mathlib.Core.Path.{sym, ap, ◌∙◌}
use Rattle.fleet.proofs.report.report.Goals as goal

pub returns-in-Err : goal.returns-in-Err
returns-in-Err c = refused_crosses _ _ _ _ c.in-Err.ensures

pub write-requires : goal.write-requires
write-requires c = room_four _ _ _ _ c.in-Ok.ensures

pub returns-in-Ok : goal.returns-in-Ok
returns-in-Ok c = fleet_crosses _ _ _ _ c.in-Ok.fleet c.in-Ok.ensures c.write.ensures
