-- `state::own::set_readiness` meets its contract. Assumes nothing.
use Rattle.state.proofs.Puts.{number_cells}
use Rattle.state.proofs.own.set_readiness.Goals as goal

pub returns : goal.returns
returns c = number_cells _ c.told-own _
