-- `rectangles::parts::hold` meets its contract. Assumes nothing.
use native.Mathlib.Omega.{arith}
use Rattle.memory.proofs.Copies.{put_back}
use Rattle.rectangles.proofs.parts.hold.Goals as goal

pub returns : goal.returns
returns c = put_back _ _ _ 0 c.args.n c.store_all.ensures (omega (arith, c.requires.0))
