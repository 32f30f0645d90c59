-- `rectangles::parts::two_pairs` meets its contract: four parts, one after the other. Assumes nothing.
use mathlib.Core.Path.{◌∙◌}
use Rattle.rectangles.proofs.Moves.{second_asked, third_asked, fourth_asked, four_moved}
use Rattle.rectangles.proofs.parts.two_pairs.Goals as goal

pub turn-requires-2 : goal.turn-requires-2
turn-requires-2 c =
    second_asked _ _ _ _ _ _ _ _ c.requires c.to-1.given

pub turn-requires-3 : goal.turn-requires-3
turn-requires-3 c =
    third_asked _ _ _ _ _ _ _ _ c.requires
    (c.to-2-1.given ∙ c.to-1.given)

pub turn-requires-4 : goal.turn-requires-4
turn-requires-4 c =
    fourth_asked _ _ _ _ _ _ _ _
    c.requires
    (c.to-3-1.given ∙ c.to-2-1.given ∙ c.to-1.given)

pub returns : goal.returns
returns c =
    four_moved _ _ _ _ _ _ _ _ _ _
    c.turn.ensures
    c.turn-2.ensures
    c.turn-3.ensures c.turn-4.ensures
