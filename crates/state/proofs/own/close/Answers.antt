-- `state::own::close` meets its contract. Assumes nothing.
use Rattle.state.proofs.Puts.{close_cells}
use Rattle.state.proofs.own.close.Goals as goal

pub returns : goal.returns
returns c = close_cells c.args.own.now c.told-own
