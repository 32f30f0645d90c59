-- `address::owner::tiled_16` meets its contract: the owner by the stride is the layout's. Assumes nothing.
use Rattle.std.proofs.Common.{true, arith}
use Rattle.refusal.proofs.Crossings.{crosses_same}
use Rattle.address.specs.Address.{layout_of}
use Rattle.address.proofs.Answers.{stride_taken, owned}
use Rattle.address.proofs.owner.tiled_16.Goals as goal

pub owner-requires : goal.owner-requires
owner-requires c =
    let args = c.args in
    let layout = layout_of args.base args.pitch args.height 16 true in
    stride_taken layout c.requires _ c.window_stride-stride.ensures

pub returns : goal.returns
returns c =
    let args = c.args in
    let layout = layout_of args.base args.pitch args.height 16 true in
    let stride-told = c.window_stride-stride.ensures in
    let apart = c.distance-o in
    crosses_same
    (owned layout c.requires _ stride-told _ _ (omega (arith, apart.type_inv)) c.ranges.base.fits apart.ensures)
    c.owner.ensures
