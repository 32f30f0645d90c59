-- `memory::read` meets its contract: the refusal of the place, or the bytes from the place on. Assumes nothing.
use mathlib.Core.Path.{sym, ap, ◌∙◌}
use Rattle.memory.specs.Elements.{told_place}
use Rattle.memory.proofs.Calls.{told_so, read_refused, ends_inside, end_fits, small_element, read_found}
use Rattle.memory.proofs.read.Goals as goal

pub overflow_add-a : goal.overflow_add-a
overflow_add-a c = record { fits = end_fits _ _ _ _ _ _ (sym c.find.ensures ∙ ap told_place c.in-At.is) }

pub slice_bounds-one-end : goal.slice_bounds-one-end
slice_bounds-one-end c = ends_inside _ _ _ _ _ _ (sym c.find.ensures ∙ ap told_place c.in-At.is)

pub one-requires : goal.one-requires
one-requires c =
    small_element _ _ _ _ _ _ (sym c.find.ensures ∙ ap told_place c.in-At.is)

pub returns-in-Refused : goal.returns-in-Refused
returns-in-Refused c =
    told_so (read_refused _ _ _ _ _ _ (sym c.find.ensures ∙ ap told_place c.in-Refused.is)) c.refused.ensures

pub returns-in-At : goal.returns-in-At
returns-in-At c =
    told_so (read_found _ _ _ _ _ _ (sym c.find.ensures ∙ ap told_place c.in-At.is)) c.one.ensures
