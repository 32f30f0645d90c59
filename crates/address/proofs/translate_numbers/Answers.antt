-- `address::translate_numbers` meets its contract: the two kinds of layout. Assumes nothing.
use Rattle.std.proofs.Common.{Bool, sym, ap, ◌∙◌}
use Rattle.address.specs.Address.{translate_of, layout_of}
use Rattle.address.proofs.translate_numbers.Goals as goal

pub returns-then-tiled : goal.returns-then-tiled
returns-then-tiled c =
    let args = c.args in
    c.tiled_number.ensures
    ∙ ap (λ (t : Bool). translate_of (layout_of args.base args.pitch args.height args.size t) args.x args.y)
    (sym c.if-tiled.true)

pub returns-else-tiled : goal.returns-else-tiled
returns-else-tiled c =
    let args = c.args in
    c.linear_number.ensures
    ∙ ap (λ (t : Bool). translate_of (layout_of args.base args.pitch args.height args.size t) args.x args.y)
    (sym c.if-tiled.false)
