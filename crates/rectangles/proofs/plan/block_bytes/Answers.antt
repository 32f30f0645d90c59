-- `rectangles::plan::block_bytes` meets its contract. Assumes nothing.
use Rattle.layout.proofs.Sizes.{sixteen}
use Rattle.rectangles.proofs.Plans.{bytes, one, two, four, eight, sixteenth}
use Rattle.rectangles.proofs.plan.block_bytes.Goals as goal

pub returns-in-1 : goal.returns-in-1
returns-in-1 c = bytes _ _ _ _ c.in-1.is one

pub returns-in-2 : goal.returns-in-2
returns-in-2 c = bytes _ _ _ _ c.in-2.is two

pub returns-in-4 : goal.returns-in-4
returns-in-4 c = bytes _ _ _ _ c.in-4.is four

pub returns-in-8 : goal.returns-in-8
returns-in-8 c = bytes _ _ _ _ c.in-8.is eight

pub returns-in_default : goal.returns-in_default
returns-in_default c = bytes _ _ _ _ (sixteen _ c.requires c.in_default.in_default-own.rest.0.0.0.1 c.in_default.in_default-own.rest.0.0.1 c.in_default.in_default-own.rest.0.1 c.in_default.in_default-own.rest.1) sixteenth
