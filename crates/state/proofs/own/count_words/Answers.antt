-- `state::own::count_words` meets its contract. Assumes nothing.
use native.Mathlib.Omega.{arith}
use Rattle.state.specs.Cells.{party_of}
use Rattle.state.proofs.Puts.{words_cells}
use Rattle.state.proofs.own.count_words.Goals as goal

pub overflow_add-own : goal.overflow_add-own
unfolding party_of
overflow_add-own c = omega (arith, c.requires)

pub returns : goal.returns
returns c = words_cells c.args.own.now c.told-own _
