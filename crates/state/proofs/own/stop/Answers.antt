-- `state::own::stop` meets its contract. Assumes nothing.
use mathlib.Core.Path.{◌∙◌}
use Rattle.state.proofs.Puts.{stop_cells}
use Rattle.state.proofs.own.stop.Goals as goal

pub returns : goal.returns
returns c = c.close.ensures ∙ stop_cells c.args.own.now c.told-own
