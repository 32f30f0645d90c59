-- `state::own::set_window` meets its contract. Assumes nothing.
use Rattle.state.proofs.Puts.{window_cells}
use Rattle.state.proofs.own.set_window.Goals as goal

pub returns : goal.returns
returns c = window_cells _ c.told-own _ _ _ c.requires
