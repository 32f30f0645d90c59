-- `rectangles::parts::turn` meets its contract. Assumes nothing.
use Rattle.rectangles.proofs.Moves.{out_asked, in_asked, turned_out, turned_in}
use Rattle.rectangles.proofs.parts.turn.Goals as goal

pub carry-requires : goal.carry-requires
carry-requires c = out_asked _ _ _ _ _ _ c.if-out.true c.requires

pub carry-requires-else-out : goal.carry-requires-else-out
carry-requires-else-out c = in_asked _ _ _ _ _ _ c.if-out.false c.requires

pub returns-then-out : goal.returns-then-out
returns-then-out c = turned_out _ _ _ _ _ _ _ c.if-out.true c.carry.ensures

pub returns-else-out : goal.returns-else-out
returns-else-out c = turned_in _ _ _ _ _ _ _ c.if-out.false c.carry-else-out.ensures
