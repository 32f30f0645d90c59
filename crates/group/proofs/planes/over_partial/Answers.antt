-- `group::planes::over_partial` meets its contract: an increment, and a counter at 5. Assumes nothing.
use mathlib.Core.Path.{◌∙◌, sym}
use borrow.Author.Tests.{eq-eqb, ne_eqb}
use Rattle.laws.proofs.Choice.{and_yes, and_no_left}
use Rattle.group.proofs.planes.over_partial.Goals as goal

-- an increment: the counters decide
pub returns-then-op-eq-INCREMENT : goal.returns-then-op-eq-INCREMENT
returns-then-op-eq-INCREMENT c =
    let args = c.args in
    c.at_partial.ensures ∙ sym (and_yes _ (eq-eqb args.op 2 c.if-op-eq-INCREMENT.true))

-- another operation
pub returns-else-op-eq-INCREMENT : goal.returns-else-op-eq-INCREMENT
returns-else-op-eq-INCREMENT c =
    let other = ne_eqb c.args.op 2 c.if-op-eq-INCREMENT.false in
    other ∙ sym (and_no_left _ other)
