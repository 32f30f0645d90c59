-- `registers::kill_mask` meets its contract: the loop has the mask of the processors from `i` on, moved down by `i`. Assumes nothing.
use mathlib.Core.Path.{◌≡◌}
use Prim.Native.Nat.{◌/◌}
use lib.ListN.{length}
use Rattle.registers.proofs.Killing.{killed_from}
use Rattle.registers.proofs.kill_mask.Given as goal

abbrev pub invariant-loop-i : goal.invariant-loop-i
invariant-loop-i l = l.found ≡ killed_from l.i (length l.registers / 4) l.registers l.mask
