-- `stepper::slot::permitted` meets its contract: partial mode has two tests, full mode none. Assumes nothing.
use Rattle.std.specs.Prelude.{not, ◌%◌}
use mathlib.Core.Path.{ap, sym, ◌∙◌}
use borrow.Author.Tests.{eq-eqb, ne_eqb}
use Rattle.laws.proofs.Choice.{and_yes, and_no_left}
use Rattle.group.specs.Modes.{Mode}
use Rattle.group.specs.Group.{op_of, permits}
use Rattle.group.proofs.State.{mode_partial, mode_full}
use Rattle.stepper.proofs.Words.{low_field}
use Rattle.stepper.proofs.slot.permitted.Goals as goal

-- full mode
pub returns-then-mode-ne-PARTIAL : goal.returns-then-mode-ne-PARTIAL
returns-then-mode-ne-PARTIAL c =
    let args = c.args in
    ap not (ne_eqb args.mode 1 c.if-mode-ne-PARTIAL.true) ∙
    sym (ap (λ (m : Mode). permits m args.first) (mode_full args.mode c.if-mode-ne-PARTIAL.true))

-- partial mode, and op 0: A_OP decides
pub returns-then-first-eq0 : goal.returns-then-first-eq0
returns-then-first-eq0 c =
    let args = c.args in
    sym
    (ap (λ (m : Mode). permits m args.first) (mode_partial args.mode c.if-mode-ne-PARTIAL.false) ∙
    and_yes _ (eq-eqb (op_of args.first) 0 (sym (low_field args.first) ∙ c.if-first-eq0.true)))

-- partial mode, and another op
pub returns-else-first-eq0 : goal.returns-else-first-eq0
returns-else-first-eq0 c =
    let args = c.args in
    ne_eqb (args.first % 16) 0 c.if-first-eq0.false ∙
    sym
    (ap (λ (m : Mode). permits m args.first) (mode_partial args.mode c.if-mode-ne-PARTIAL.false) ∙
    and_no_left _ (ne_eqb (op_of args.first) 0 (λ e. c.if-first-eq0.false (low_field args.first ∙ e))))
