-- `log_rooms::part` meets its contract: each answer crosses as it is told. Assumes nothing.
use Rattle.setting_rooms.specs.Rooms.{tally_numbers}
use mathlib.Core.Path.{refl, ap}
use Rattle.log_rooms.proofs.part.Goals as goal

pub returns : goal.returns
returns c = record { status = refl; room = ap tally_numbers c.part-ended.ensures }
