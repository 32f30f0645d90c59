-- `log_rooms::standing` meets its contract: each answer crosses as it is told. Assumes nothing.
use Rattle.log_rooms.specs.Rooms.{standing_numbers}
use mathlib.Core.Path.{refl, ap}
use Rattle.log_rooms.proofs.standing.Goals as goal

pub returns : goal.returns
returns c = record { status = refl; room = ap standing_numbers c.standing_of-standing.ensures }
