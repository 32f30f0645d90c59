-- `group::planes::over_limit` meets its contract: an increment, and a counter at 31. Assumes nothing.
use mathlib.Core.Path.{◌∙◌, sym}
use lib.Dec.{eqb}
use lib.ListN.{get_or}
use borrow.Author.Tests.{eq-eqb, ne_eqb}
use Rattle.laws.proofs.Choice.{and_yes, and_no_left, and_no_right}
use Rattle.group.proofs.Places.{upper_clear}
use Rattle.group.proofs.planes.over_limit.Goals as goal

pub returns-then-op-eq-INCREMENT : goal.returns-then-op-eq-INCREMENT
returns-then-op-eq-INCREMENT c =
    c.at_limit.ensures ∙ sym (and_yes _ (eq-eqb c.args.op 2 c.if-op-eq-INCREMENT.true))

pub returns-else-op-eq-INCREMENT : goal.returns-else-op-eq-INCREMENT
returns-else-op-eq-INCREMENT c =
    let other = ne_eqb c.args.op 2 c.if-op-eq-INCREMENT.false in
    other ∙ sym (and_no_left _ other)

pub returns-else-upper_bits : goal.returns-else-upper_bits
returns-else-upper_bits c =
    let args = c.args in
    let cells = args.cells.now in
    c.if-upper_bits.false ∙
    sym (and_no_right (eqb args.op 2) (upper_clear (get_or cells 2 0) (get_or cells 3 0) (get_or cells 4 0) (get_or cells 5 0) (get_or cells 6 0)
    (sym c.upper_bits.ensures ∙ c.if-upper_bits.false)))
