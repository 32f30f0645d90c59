-- `address::offset::offset` meets its contract: the two cases of the definition. Assumes nothing.
use Rattle.std.proofs.Common.{sym, ◌∙◌, arith}
use Rattle.laws.proofs.Choice.{pick_yes, pick_no}
use Rattle.address.specs.Offset.{offset_of}
use Rattle.address.proofs.Sums.{linear_sums}
use Rattle.address.proofs.offset.offset.Goals as goal

pub overflow_mul-result : goal.overflow_mul-result
overflow_mul-result c = omega (arith, linear_sums c.args.stride c.requires.0 c.requires.1)

pub overflow_mul-result-else-tiled : goal.overflow_mul-result-else-tiled
overflow_mul-result-else-tiled c = omega (arith, linear_sums c.args.stride c.requires.0 c.requires.1)

pub overflow_add-result : goal.overflow_add-result
overflow_add-result c = omega (arith, linear_sums c.args.stride c.requires.0 c.requires.1)

pub returns-then-tiled : goal.returns-then-tiled
unfolding offset_of
returns-then-tiled c = c.tiled_offset.ensures ∙ sym (pick_yes _ _ c.if-tiled.true)

pub returns-else-tiled : goal.returns-else-tiled
unfolding offset_of
returns-else-tiled c = (linear_sums c.args.stride c.requires.0 c.requires.1).offset ∙ sym (pick_no _ _ c.if-tiled.false)
