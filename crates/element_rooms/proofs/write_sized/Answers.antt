-- `element_rooms::write_sized` meets its contract: each answer with memory at return. Assumes nothing.
use mathlib.Core.Path.{refl, ap, ◌∙◌}
use native.Mathlib.Omega.{arith}
use Rattle.address.specs.Address.{layout_of}
use Rattle.address.proofs.Answers.{number_small}
use Rattle.memory.specs.Elements.{told_place}
use Rattle.memory.proofs.Calls.{ends_inside, end_fits, write_refused, write_unfit, write_done}
use Rattle.element_rooms.proofs.Sized.{refused_number, started, store_asked, write_crosses}
use Rattle.element_rooms.proofs.write_sized.Goals as goal

pub overflow_cast-result : goal.overflow_cast-result
overflow_cast-result c =
    let args = c.args in
    let layout = layout_of args.base args.pitch args.height args.size args.tiled in
    record { fits = omega (arith, number_small layout args.x args.y _ c.translate_numbers-number.ensures) }

-- the translation is refused
pub returns-then-number-ge-REFUSED : goal.returns-then-number-ge-REFUSED
returns-then-number-ge-REFUSED c = write_crosses _ refl (write_refused _ _ _ _ _ _ _ (refused_number _ _ _ _ _ _ c.translate_numbers-number.ensures c.if-number-ge-REFUSED.true))

-- the data isn't the element's size
pub returns-then-given-n : goal.returns-then-given-n
returns-then-given-n c =
    let begins =
    started _ _ _ _ _ _ c.translate_numbers-number.ensures c.if-number-ge-REFUSED.false _ c.start.ensures ∙
    ap told_place c.in-At.is in
    write_crosses _ c.from-then-given-n.ensures (write_unfit _ _ _ _ _ _ _ begins c.if-given-n.true)

pub overflow_add-a : goal.overflow_add-a
overflow_add-a c =
    let begins =
    started _ _ _ _ _ _ c.translate_numbers-number.ensures c.if-number-ge-REFUSED.false _ c.start.ensures ∙
    ap told_place c.in-At.is in
    record { fits = end_fits _ _ _ _ _ _ begins }

pub slice_bounds-store-end : goal.slice_bounds-store-end
slice_bounds-store-end c =
    let begins =
    started _ _ _ _ _ _ c.translate_numbers-number.ensures c.if-number-ge-REFUSED.false _ c.start.ensures ∙
    ap told_place c.in-At.is in
    ends_inside _ _ _ _ _ _ begins

pub store-requires : goal.store-requires
store-requires c =
    let begins =
    started _ _ _ _ _ _ c.translate_numbers-number.ensures c.if-number-ge-REFUSED.false _ c.start.ensures ∙
    ap told_place c.in-At.is in
    let args = c.args in
    store_asked _ _ _ _ args.memory.now _ begins args.given.now c.if-given-n.false

-- memory isn't fit, or doesn't hold the element
pub returns-in-Refused : goal.returns-in-Refused
returns-in-Refused c =
    let begins =
    started _ _ _ _ _ _ c.translate_numbers-number.ensures c.if-number-ge-REFUSED.false _ c.start.ensures ∙
    ap told_place c.in-Refused.is in
    write_crosses _ c.from.ensures (write_refused _ _ _ _ _ _ _ begins)

-- the element is stored
pub returns-else-given-n : goal.returns-else-given-n
returns-else-given-n c =
    let begins =
    started _ _ _ _ _ _ c.translate_numbers-number.ensures c.if-number-ge-REFUSED.false _ c.start.ensures ∙
    ap told_place c.in-At.is in
    write_crosses _ refl (write_done _ _ _ _ _ _ _ begins _ c.if-given-n.false c.store.ensures)
