-- `group::planes::turn_if` meets its contract: the two sides of the choice. Assumes nothing.
use mathlib.Core.Path.{◌∙◌}
use Rattle.group.specs.Cells.{with_active}
use Rattle.group.proofs.Places.{turned_yes, turned_no}
use Rattle.group.proofs.planes.turn_if.Goals as goal

pub returns-then-otherwise : goal.returns-then-otherwise
returns-then-otherwise c =
    c.turn.ensures ∙ turned_yes (with_active c.args.cells.now c.args.active) c.if-otherwise.true

pub returns : goal.returns
returns c = c.requires.active_word ∙ turned_no (with_active c.args.cells.now c.args.active) c.if-otherwise.false
