-- `session::stream::is_taken` meets its contract: two tests, one after the other. Assumes nothing.
use mathlib.Core.Path.{sym, ◌∙◌}
use Rattle.laws.proofs.Choice.{and_yes, and_no_left}
use Rattle.session.proofs.stream.is_taken.Goals as goal

pub may_name-requires : goal.may_name-requires
may_name-requires c = (c.requires, sym c.place_allowed.ensures ∙ c.if-place_allowed.true)

pub returns-then-place_allowed : goal.returns-then-place_allowed
returns-then-place_allowed c = c.may_name.ensures ∙ sym (and_yes _ (sym c.place_allowed.ensures ∙ c.if-place_allowed.true))

pub returns-else-place_allowed : goal.returns-else-place_allowed
returns-else-place_allowed c =
    c.if-place_allowed.false ∙ sym (and_no_left _ (sym c.place_allowed.ensures ∙ c.if-place_allowed.false))
