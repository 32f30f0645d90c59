-- `state::own::place` meets its contract. Assumes nothing.
use Rattle.state.proofs.Puts.{place_cells}
use Rattle.state.proofs.own.place.Goals as goal

pub returns : goal.returns
returns c = place_cells c.args.own.now c.told-own c.args.count c.args.word c.requires.0 c.requires.1
