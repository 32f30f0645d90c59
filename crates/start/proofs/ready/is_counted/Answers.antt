-- `start::ready::is_counted` meets its contract: the flag is 1 and the mask has a channel. Assumes nothing.
use mathlib.Core.Path.{ap, ◌∙◌}
use mathlib.Core.Bool.{Bool}
use lib.Dec.{eqb}
use Rattle.laws.specs.Choice.{◌and◌}
use Rattle.start.specs.Windows.{counts_by}
use Rattle.start.proofs.Readiness.{both_is}
use Rattle.start.proofs.ready.is_counted.Goals as goal

pub returns : goal.returns
unfolding counts_by
returns c = both_is _ _ ∙ ap (λ (t : Bool). eqb c.args.flag 1 and t) c.is_unmasked.ensures
