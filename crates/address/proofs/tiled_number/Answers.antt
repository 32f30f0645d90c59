-- `address::tiled_number` meets its contract: each arm hands over its size. Assumes nothing.
use Rattle.std.proofs.Common.{ℕ, true, sym, refl, ap, ◌∙◌}
use Rattle.laws.specs.Choice.{place_of}
use Rattle.layout.specs.Sizes.{is_size}
use Rattle.address.specs.Address.{translate_of, layout_of}
use Rattle.address.proofs.Answers.{told_refused, malformed, form_at, formless, sizeless}
use Rattle.address.proofs.tiled_number.Goals as goal

-- base or pitch is malformed
pub returns-then-not-formed : goal.returns-then-not-formed
unfolding translate_of
returns-then-not-formed c =
    let args = c.args in
    let layout = layout_of args.base args.pitch args.height args.size true in
    let form-told = sym c.formed.ensures ∙ c.if-not-formed.true in
    told_refused 3 ∙ sym (malformed layout _ (formless _ _ _ form-told))

pub tiled_1-requires : goal.tiled_1-requires
unfolding is_size place_of
tiled_1-requires c =
    form_at _ _ 1 _ (sym c.formed.ensures ∙ c.if-not-formed.false) refl

pub tiled_2-requires : goal.tiled_2-requires
unfolding is_size place_of
tiled_2-requires c =
    form_at _ _ 1 _ (sym c.formed.ensures ∙ c.if-not-formed.false) refl

pub tiled_4-requires : goal.tiled_4-requires
unfolding is_size place_of
tiled_4-requires c =
    form_at _ _ 1 _ (sym c.formed.ensures ∙ c.if-not-formed.false) refl

pub tiled_8-requires : goal.tiled_8-requires
unfolding is_size place_of
tiled_8-requires c =
    form_at _ _ 1 _ (sym c.formed.ensures ∙ c.if-not-formed.false) refl

pub tiled_16-requires : goal.tiled_16-requires
unfolding is_size place_of
tiled_16-requires c =
    form_at _ _ 1 _ (sym c.formed.ensures ∙ c.if-not-formed.false) refl

pub returns-in-1 : goal.returns-in-1
returns-in-1 c =
    let args = c.args in
    c.tiled_1.ensures
    ∙ ap (λ (s : ℕ). translate_of (layout_of args.base args.pitch args.height s true) args.x args.y)
    (sym c.in-1.is)

pub returns-in-2 : goal.returns-in-2
returns-in-2 c =
    let args = c.args in
    c.tiled_2.ensures
    ∙ ap (λ (s : ℕ). translate_of (layout_of args.base args.pitch args.height s true) args.x args.y)
    (sym c.in-2.is)

pub returns-in-4 : goal.returns-in-4
returns-in-4 c =
    let args = c.args in
    c.tiled_4.ensures
    ∙ ap (λ (s : ℕ). translate_of (layout_of args.base args.pitch args.height s true) args.x args.y)
    (sym c.in-4.is)

pub returns-in-8 : goal.returns-in-8
returns-in-8 c =
    let args = c.args in
    c.tiled_8.ensures
    ∙ ap (λ (s : ℕ). translate_of (layout_of args.base args.pitch args.height s true) args.x args.y)
    (sym c.in-8.is)

pub returns-in-16 : goal.returns-in-16
returns-in-16 c =
    let args = c.args in
    c.tiled_16.ensures
    ∙ ap (λ (s : ℕ). translate_of (layout_of args.base args.pitch args.height s true) args.x args.y)
    (sym c.in-16.is)

-- it is no size
pub returns-in_default : goal.returns-in_default
returns-in_default c = sizeless _ _ _ _ _ _ _ c.in_default.in_default-own.rest
