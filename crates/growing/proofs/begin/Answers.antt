-- `growing::begin` meets its contract. Assumes nothing.
use mathlib.Core.Path.{refl, sym, ◌∙◌}
use Rattle.growing.proofs.Adding.{begun_as, not_begun}
use Rattle.growing.proofs.begin.Goals as goal

pub returns-then-not-is_known : goal.returns-then-not-is_known
returns-then-not-is_known c = not_begun _ _ (sym c.is_known.ensures ∙ c.if-not-is_known.true) refl

pub returns : goal.returns
returns c = begun_as _ _ (sym c.is_known.ensures ∙ c.if-not-is_known.false) c.none.ensures (rw c.from.ensures at c.put.ensures)
