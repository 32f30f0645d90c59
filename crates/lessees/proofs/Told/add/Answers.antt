-- `lessees::Told::add` meets its contract. Assumes nothing.
use mathlib.Core.Path.{ap, ◌∙◌}
use Rattle.lessees.specs.Rooms.{cells_of}
use Rattle.lessees.proofs.Telling.{told_first_lem, add_some, add_none}
use Rattle.lessees.proofs.Told.add.Goals as goal

pub returns-in-Some : goal.returns-in-Some
returns-in-Some c = ap cells_of c.refuse.ensures ∙ told_first_lem (add_some _ c.in-Some.is)

pub returns-in_default : goal.returns-in_default
returns-in_default c = told_first_lem (add_none _ c.in_default.is)
