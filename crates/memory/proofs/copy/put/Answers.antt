-- `memory::copy::put` meets its contract: the part that came back is what was stored. Assumes nothing.
use mathlib.Core.Path.{ap}
use Prim.Native.Nat.{ℕ, ◌+◌}
use Rattle.memory.proofs.Copies.{put_back}
use Rattle.memory.proofs.copy.put.Goals as goal

pub returns : goal.returns
returns c =
    put_back _ _ _ _ _ c.store_all.ensures (ap (λ (n : ℕ). c.args.at + n) c.requires.1)
