-- `element_rooms::read_sized` meets its contract: the translation's refusal, the place's, or the bytes from the place on.
-- Assumes nothing.
use mathlib.Core.Path.{refl, ap, ◌∙◌}
use native.Mathlib.Omega.{arith}
use Rattle.address.specs.Address.{layout_of}
use Rattle.address.proofs.Answers.{number_small}
use Rattle.memory.specs.Elements.{told_place}
use Rattle.memory.proofs.Calls.{ends_inside, end_fits}
use Rattle.element_rooms.proofs.Sized.{refused_number, started, read_no, read_yes, put_asked}
use Rattle.element_rooms.proofs.read_sized.Goals as goal

pub overflow_cast-result : goal.overflow_cast-result
overflow_cast-result c =
    let args = c.args in
    let layout = layout_of args.base args.pitch args.height args.size args.tiled in
    record { fits = omega (arith, number_small layout args.x args.y _ c.translate_numbers-number.ensures) }

-- the translation is refused
pub returns-then-number-ge-REFUSED : goal.returns-then-number-ge-REFUSED
returns-then-number-ge-REFUSED c = read_no _ _ _ _ _ _ _ _ (refused_number _ _ _ _ _ _ c.translate_numbers-number.ensures c.if-number-ge-REFUSED.true) refl

pub overflow_add-a : goal.overflow_add-a
overflow_add-a c =
    let begins =
    started _ _ _ _ _ _ c.translate_numbers-number.ensures c.if-number-ge-REFUSED.false _ c.start.ensures ∙
    ap told_place c.in-At.is in
    record { fits = end_fits _ _ _ _ _ _ begins }

pub slice_bounds-put-end : goal.slice_bounds-put-end
slice_bounds-put-end c =
    let begins =
    started _ _ _ _ _ _ c.translate_numbers-number.ensures c.if-number-ge-REFUSED.false _ c.start.ensures ∙
    ap told_place c.in-At.is in
    ends_inside _ _ _ _ _ _ begins

pub put-requires : goal.put-requires
put-requires c =
    let begins =
    started _ _ _ _ _ _ c.translate_numbers-number.ensures c.if-number-ge-REFUSED.false _ c.start.ensures ∙
    ap told_place c.in-At.is in
    put_asked _ _ _ _ _ _ begins

-- memory isn't fit, or doesn't hold the element
pub returns-in-Refused : goal.returns-in-Refused
returns-in-Refused c =
    let begins =
    started _ _ _ _ _ _ c.translate_numbers-number.ensures c.if-number-ge-REFUSED.false _ c.start.ensures ∙
    ap told_place c.in-Refused.is in
    read_no _ _ _ _ _ _ _ _ begins c.from.ensures

-- the element is read
pub returns-in-At : goal.returns-in-At
returns-in-At c =
    let begins =
    started _ _ _ _ _ _ c.translate_numbers-number.ensures c.if-number-ge-REFUSED.false _ c.start.ensures ∙
    ap told_place c.in-At.is in
    read_yes _ _ _ _ _ _ _ begins _ c.put.ensures
