-- `memory::write` meets its contract: each answer with memory at return. Assumes nothing.
use mathlib.Core.Path.{sym, ap, ◌∙◌}
use Rattle.memory.specs.Elements.{told_place}
use Rattle.memory.proofs.Calls.{ends_inside, end_fits, write_refused, write_unfit, write_done}
use Rattle.memory.proofs.write.Goals as goal

pub returns-then-given-size : goal.returns-then-given-size
returns-then-given-size c =
    write_unfit _ _ _ _ _ _ _ (sym c.find.ensures ∙ ap told_place c.in-At.is) c.if-given-size.true

pub overflow_add-a : goal.overflow_add-a
overflow_add-a c =
    record { fits = end_fits _ _ _ _ _ _ (sym c.find.ensures ∙ ap told_place c.in-At.is) }

pub slice_bounds-store-end : goal.slice_bounds-store-end
slice_bounds-store-end c =
    ends_inside _ _ _ _ _ _ (sym c.find.ensures ∙ ap told_place c.in-At.is)

pub returns-in-Refused : goal.returns-in-Refused
returns-in-Refused c = write_refused _ _ _ _ _ _ _ (sym c.find.ensures ∙ ap told_place c.in-Refused.is)

pub returns-else-given-size : goal.returns-else-given-size
returns-else-given-size c =
    write_done _ _ _ _ _ _ _ (sym c.find.ensures ∙ ap told_place c.in-At.is) _ c.if-given-size.false
    c.store.ensures
