-- `memory::place::find` meets its contract: the translation's refusal, or the start of the element at its address.
-- Assumes nothing.
use mathlib.Core.Path.{sym, ap, ◌∙◌}
use Rattle.address.specs.Address.{told_translated}
use Rattle.memory.proofs.Places.{find_refused, find_started}
use Rattle.memory.proofs.place.find.Goals as goal

pub returns-in-Refused : goal.returns-in-Refused
returns-in-Refused c = sym (find_refused _ _ _ _ _ _ (sym c.translate.ensures ∙ ap told_translated c.in-Refused.is))

pub returns-in-At : goal.returns-in-At
returns-in-At c =
    find_started _ _ _ _ _ _ _ _ (sym c.translate.ensures ∙ ap told_translated c.in-At.is)
    c.start.ensures
