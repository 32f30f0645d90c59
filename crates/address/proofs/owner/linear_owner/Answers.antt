-- `address::owner::linear_owner` meets its contract: the size is asked first. Assumes nothing.
use Rattle.std.proofs.Common.{false, sym, refl, ◌∙◌, arith}
use Rattle.refusal.proofs.Crossings.{crosses_refuses, crosses_same}
use Rattle.address.specs.Address.{locate_of, layout_of}
use Rattle.address.proofs.Answers.{malformed, form_at, sizeless_form, stride_taken, owned}
use Rattle.address.proofs.owner.linear_owner.Goals as goal

-- it is no size
pub returns-then-not-is_size : goal.returns-then-not-is_size
unfolding locate_of
returns-then-not-is_size c =
    let args = c.args in
    let layout = layout_of args.base args.pitch args.height args.size false in
    let size-told = sym c.is_size.ensures ∙ c.if-not-is_size.true in
    crosses_refuses _ _ _ _ refl (malformed layout _ (sizeless_form _ _ _ size-told))

pub window_stride-stride-requires : goal.window_stride-stride-requires
window_stride-stride-requires c = form_at _ _ 1 _ c.requires (sym c.is_size.ensures ∙ c.if-not-is_size.false)

pub owner-requires : goal.owner-requires
owner-requires c =
    let args = c.args in
    let layout = layout_of args.base args.pitch args.height args.size false in
    let form-told = form_at _ _ 1 _ c.requires (sym c.is_size.ensures ∙ c.if-not-is_size.false) in
    stride_taken layout form-told _ c.window_stride-stride.ensures

pub returns : goal.returns
returns c =
    let args = c.args in
    let layout = layout_of args.base args.pitch args.height args.size false in
    let form-told = form_at _ _ 1 _ c.requires (sym c.is_size.ensures ∙ c.if-not-is_size.false) in
    let stride-told = c.window_stride-stride.ensures in
    let apart = c.distance-o in
    crosses_same
    (owned layout form-told _ stride-told _ _ (omega (arith, apart.type_inv)) c.ranges.base.fits apart.ensures)
    c.owner.ensures
