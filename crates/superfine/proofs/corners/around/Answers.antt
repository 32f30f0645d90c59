-- `superfine::corners::around` meets its contract: the four addresses one by one. Assumes nothing.
use Rattle.superfine.proofs.Around.{corners_told}
use Rattle.superfine.proofs.corners.around.Goals as goal

pub returns : goal.returns
returns c =
    corners_told _ _ _ _ _ _ _ _ _ _ c.corner-right.ensures c.corner-below.ensures c.corner-across.ensures c.corner-own.ensures
