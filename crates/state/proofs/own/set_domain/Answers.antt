-- `state::own::set_domain` meets its contract. Assumes nothing.
use Rattle.state.proofs.Puts.{domain_cells}
use Rattle.state.proofs.own.set_domain.Goals as goal

pub returns : goal.returns
returns c = domain_cells c.args.own.now c.told-own _ _ _ _
