-- `lessees::begin` meets its contract. Assumes nothing.
use mathlib.Core.Path.{refl, sym, ◌∙◌}
use Rattle.lessees.proofs.Begun.{begins, begins_not, may_bounds}
use Rattle.lessees.proofs.begin.Goals as goal

pub make-requires : goal.make-requires
make-requires c = may_bounds _ _ _ (sym c.may_begin.ensures ∙ c.if-may_begin.true)

pub returns-then-may_begin : goal.returns-then-may_begin
returns-then-may_begin c = begins _ _ _ (sym c.may_begin.ensures ∙ c.if-may_begin.true) c.make.ensures

pub returns : goal.returns
returns c = begins_not _ _ _ (sym c.may_begin.ensures ∙ c.if-may_begin.false) refl
