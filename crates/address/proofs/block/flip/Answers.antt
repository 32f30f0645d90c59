-- `address::block::flip` meets its contract. Assumes nothing.
use Rattle.laws.proofs.Bits.{xor_of, xor_lt}
use Rattle.address.proofs.block.flip.Goals as goal

pub returns : goal.returns
returns c = record { value = xor_of _ _ c.requires.0 c.requires.1; most = rw (xor_of _ _ c.requires.0 c.requires.1) (xor_lt _ _) }
