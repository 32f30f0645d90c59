-- `address::linear_number` meets its contract: the layout's form is asked first. Assumes nothing.
use Rattle.std.proofs.Common.{false, sym, ◌∙◌}
use Rattle.address.specs.Address.{translate_of, layout_of}
use Rattle.address.proofs.Answers.{told_refused, malformed, form_at, formless, sizeless_form}
use Rattle.address.proofs.linear_number.Goals as goal

-- base or pitch is malformed
pub returns-then-not-formed : goal.returns-then-not-formed
unfolding translate_of
returns-then-not-formed c =
    let args = c.args in
    let layout = layout_of args.base args.pitch args.height args.size false in
    let form-told = sym c.formed.ensures ∙ c.if-not-formed.true in
    told_refused 3 ∙ sym (malformed layout _ (formless _ _ _ form-told))

-- it is no size
pub returns-then-not-is_size : goal.returns-then-not-is_size
unfolding translate_of
returns-then-not-is_size c =
    let args = c.args in
    let layout = layout_of args.base args.pitch args.height args.size false in
    let size-told = sym c.is_size.ensures ∙ c.if-not-is_size.true in
    told_refused 3 ∙ sym (malformed layout _ (sizeless_form _ _ _ size-told))

pub sized-requires : goal.sized-requires
sized-requires c =
    let form-told = sym c.formed.ensures ∙ c.if-not-formed.false in
    form_at _ _ 1 _ form-told (sym c.is_size.ensures ∙ c.if-not-is_size.false)
