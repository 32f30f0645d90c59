-- `start::ready::settle` meets its contract. Assumes nothing.
use mathlib.Core.Path.{ap, ◌∙◌}
use mathlib.Core.Bool.{Bool}
use lib.Dec.{eqb}
use lib.ListN.{get_or}
use Rattle.laws.specs.Choice.{◌and◌}
use Rattle.start.proofs.Readiness.{both_is, settled_told}
use Rattle.start.proofs.ready.settle.Goals as goal

pub returns : goal.returns
returns c =
    let own = c.args.own.now in
    settled_told own (both_is _ _ ∙ ap (λ (t : Bool). eqb (get_or own 8 0) 1 and t) (both_is _ _)) (both_is _ _) c.first_of-number.ensures _
    c.set_readiness.ensures
