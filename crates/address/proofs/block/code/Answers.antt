-- `address::block::code` meets its contract. Assumes nothing.
use Rattle.address.proofs.Blocks.{code_of_lem, code_lt}
use Rattle.address.proofs.block.code.Goals as goal

pub returns : goal.returns
returns c = record { value = code_of_lem c.args.column c.args.row; most = rw (code_of_lem c.args.column c.args.row) (code_lt _ _) }
