-- `fleet::report::write` meets its contract: the four numbers. Assumes nothing.
use Rattle.fleet.proofs.Judging.{four_written}
use Rattle.fleet.proofs.report.write.Goals as goal

pub returns : goal.returns
returns c =
    let fleet = c.args.fleet in
    four_written c.args.room.now fleet.served fleet.owed fleet.silent fleet.part.station c.requires
