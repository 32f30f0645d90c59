-- `address_rooms::translate` meets its contract: each answer crosses as it is told. Assumes nothing.
use mathlib.Core.Bool.{true, false}
use Rattle.address.specs.Address.{layout_of}
use Rattle.address.proofs.Answers.{number_small}
use Rattle.address_rooms.proofs.ByKind.{by_kind_lem}
use Rattle.address_rooms.proofs.translate.Goals as goal

pub cross-requires : goal.cross-requires
cross-requires c =
    let args = c.args in
    let layout = layout_of args.base args.pitch args.height args.size true in
    number_small layout args.x args.y _ c.tiled_number.ensures

pub cross-requires-else-tiled : goal.cross-requires-else-tiled
cross-requires-else-tiled c =
    let args = c.args in
    let layout = layout_of args.base args.pitch args.height args.size false in
    number_small layout args.x args.y _ c.linear_number.ensures

-- a tiled layout
pub returns-then-tiled : goal.returns-then-tiled
returns-then-tiled c =
    by_kind_lem _ _ _ _ _ _ _ _ _ c.if-tiled.true c.tiled_number.ensures c.cross.ensures

-- a linear layout
pub returns-else-tiled : goal.returns-else-tiled
returns-else-tiled c =
    by_kind_lem _ _ _ _ _ _ _ _ _ c.if-tiled.false c.linear_number.ensures c.cross-else-tiled.ensures
