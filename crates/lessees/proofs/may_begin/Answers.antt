-- `lessees::may_begin` meets its contract. Assumes nothing.
use mathlib.Core.Path.{sym, ◌∙◌}
use borrow.Author.Tests.{le-ltb}
use Rattle.lessees.proofs.Begun.{by_outputs, not_edition, not_inputs}
use Rattle.lessees.proofs.may_begin.Goals as goal

pub returns-then-not-is_known : goal.returns-then-not-is_known
returns-then-not-is_known c =
    sym c.if-not-is_known.true ∙ not_edition _ _ _ c.is_known.ensures c.if-not-is_known.true

pub returns-then-inputs-ge-INPUTS : goal.returns-then-inputs-ge-INPUTS
returns-then-inputs-ge-INPUTS c =
    sym (le-ltb _ _ c.if-inputs-ge-INPUTS.true) ∙ not_inputs _ _ _ c.if-inputs-ge-INPUTS.true

pub returns : goal.returns
returns c = by_outputs _ _ _ c.is_known.ensures c.if-not-is_known.false c.if-inputs-ge-INPUTS.false
