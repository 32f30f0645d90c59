-- `registers::under` meets its contract: its `&` is both tests. Assumes nothing.
use lib.Dec.{eqb}
use Rattle.registers.specs.Registers.{less_than_zero}
use Rattle.registers.proofs.Killing.{both_tests}
use Rattle.registers.proofs.under.Goals as goal

pub returns : goal.returns
returns c = both_tests (eqb c.args.bit 1) (less_than_zero c.args.channel)
