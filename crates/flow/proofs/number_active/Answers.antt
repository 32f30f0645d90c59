-- `flow::number_active` meets its contract: the ones of the mask. Assumes nothing.
use Rattle.laws.proofs.Masks.{ones_places}
use Rattle.flow.proofs.number_active.Goals as goal

pub returns : goal.returns
returns c = ones_places 32 c.args.active c.ranges.active.fits
