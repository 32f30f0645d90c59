-- `address::owner::locate` meets its contract: base and pitch are asked first, then the kind. Assumes nothing.
use Rattle.std.proofs.Common.{Bool, sym, refl, ap, ◌∙◌}
use Rattle.refusal.specs.Told.{Told}
use Rattle.refusal.proofs.Crossings.{crosses_refuses, crosses_same}
use Rattle.address.specs.Address.{locate_of, layout_of}
use Rattle.address.proofs.Answers.{malformed, formless}
use Rattle.address.proofs.owner.locate.Goals as goal

-- base or pitch is malformed
pub returns-then-not-formed : goal.returns-then-not-formed
unfolding locate_of
returns-then-not-formed c =
    let args = c.args in
    let layout = layout_of args.base args.pitch args.height args.size args.tiled in
    let form-told = sym c.formed.ensures ∙ c.if-not-formed.true in
    crosses_refuses _ _ _ _ refl (malformed layout _ (formless _ _ _ form-told))

pub tiled_owner-requires : goal.tiled_owner-requires
tiled_owner-requires c = sym c.formed.ensures ∙ c.if-not-formed.false

pub linear_owner-requires : goal.linear_owner-requires
linear_owner-requires c = sym c.formed.ensures ∙ c.if-not-formed.false

pub returns-then-tiled : goal.returns-then-tiled
returns-then-tiled c =
    let args = c.args in
    let told_of : Bool → Told = λ t. locate_of (layout_of args.base args.pitch args.height args.size t) args.address in
    crosses_same (ap told_of (sym c.if-tiled.true))
    c.tiled_owner.ensures

pub returns-else-tiled : goal.returns-else-tiled
returns-else-tiled c =
    let args = c.args in
    let told_of : Bool → Told = λ t. locate_of (layout_of args.base args.pitch args.height args.size t) args.address in
    crosses_same (ap told_of (sym c.if-tiled.false))
    c.linear_owner.ensures
