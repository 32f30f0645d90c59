-- `stepper::slot::allowed_loop` meets its contract: the op, then each word. Assumes nothing.
use mathlib.Core.Path.{sym, ap, ap₂, ◌∙◌}
use mathlib.Core.Bool.{Bool}
use Rattle.laws.specs.Choice.{◌and◌}
use Rattle.laws.proofs.Masks.{on_zero}
use Rattle.group.specs.Group.{fits_second, allowed_loop}
use Rattle.stepper.proofs.Words.{three_tests, low_op}
use Rattle.stepper.proofs.slot.allowed_loop.Goals as goal

pub returns : goal.returns
unfolding allowed_loop
returns c =
    three_tests _ _ _ ∙
    ap₂ ◌and◌ (low_op c.args.first)
    (ap₂ ◌and◌ c.fits_first.ensures (c.fits_second.ensures ∙ ap (λ (b : Bool). fits_second b c.args.second) (sym (on_zero c.args.first))))
