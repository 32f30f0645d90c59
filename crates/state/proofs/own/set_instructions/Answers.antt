-- `state::own::set_instructions` meets its contract. Assumes nothing.
use Rattle.state.proofs.Puts.{instructions_cells}
use Rattle.state.proofs.own.set_instructions.Goals as goal

pub returns : goal.returns
returns c = instructions_cells c.args.own.now c.told-own _ _
