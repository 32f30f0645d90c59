-- `state::own::count_word` meets its contract. Assumes nothing.
use native.Mathlib.Omega.{arith}
use Rattle.state.specs.Cells.{party_of}
use Rattle.state.proofs.Puts.{took_cells}
use Rattle.state.proofs.own.count_word.Goals as goal

pub overflow_add-own : goal.overflow_add-own
unfolding party_of
overflow_add-own c = omega (arith, c.requires)

pub returns : goal.returns
returns c = took_cells c.args.own.now c.told-own
