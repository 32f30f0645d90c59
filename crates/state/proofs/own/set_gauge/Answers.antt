-- `state::own::set_gauge` meets its contract. Assumes nothing.
use Rattle.state.proofs.Puts.{gauge_cells}
use Rattle.state.proofs.own.set_gauge.Goals as goal

pub returns : goal.returns
returns c = gauge_cells _ c.told-own _ _ _ _ _
