-- `group::planes::over_own_limit` meets its contract: the limit is that of the mode in the cells. Assumes nothing.
use mathlib.Core.Path.{ap, ◌∙◌, sym}
use lib.Dec.{eqb}
use lib.ListN.{get_or}
use Rattle.laws.specs.Choice.{◌and◌}
use Rattle.group.specs.Modes.{Mode}
use Rattle.group.specs.Masks.{some_at_own_limit}
use Rattle.group.proofs.State.{mode_partial, mode_full}
use Rattle.group.proofs.planes.over_own_limit.Goals as goal

-- partial mode
pub returns-then-cells-eq-PARTIAL : goal.returns-then-cells-eq-PARTIAL
returns-then-cells-eq-PARTIAL c =
    let args = c.args in
    let cells = args.cells.now in
    c.over_partial.ensures ∙
    ap (λ (m : Mode). eqb args.op 2 and some_at_own_limit m cells) (sym (mode_partial (get_or cells 12 0) c.if-cells-eq-PARTIAL.true))

-- full mode
pub returns : goal.returns
returns c =
    let args = c.args in
    let cells = args.cells.now in
    c.over_limit.ensures ∙
    ap (λ (m : Mode). eqb args.op 2 and some_at_own_limit m cells) (sym (mode_full (get_or cells 12 0) c.if-cells-eq-PARTIAL.false))
