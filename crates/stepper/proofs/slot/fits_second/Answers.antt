-- `stepper::slot::fits_second` meets its contract: a test for each field. Assumes nothing.
use mathlib.Core.Path.{ap, ◌∙◌}
use mathlib.Core.Bool.{Bool}
use lib.Dec.{eqb}
use Prim.Native.Nat.{◌/◌, ◌%◌}
use Rattle.laws.specs.Choice.{◌and◌}
use Rattle.group.specs.Group.{fits_second}
use Rattle.stepper.proofs.Words.{four_tests, picked_test}
use Rattle.stepper.proofs.slot.fits_second.Goals as goal

pub returns : goal.returns
unfolding fits_second
returns c =
    let second = c.args.second in
    four_tests _ _ _ _ ∙
    ap (λ (b : Bool). eqb (second / 32 % 8) 0 and eqb (second / 8192 % 8) 0 and eqb (second / 33554432 % 128) 0 and b)
    (picked_test c.args.opens (eqb (second / 256 % 32) 0))
