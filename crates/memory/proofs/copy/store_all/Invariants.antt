-- `memory::copy::store_all` meets its contract: before byte i is copied, the part has the first i given bytes, then its own.
-- Assumes nothing.
use Prim.Native.Nat.{◌≤◌, ◌-◌}
use mathlib.Core.Path.{◌≡◌}
use mathlib.Core.List.{◌++◌}
use lib.ListN.{length, take, drop}
use Rattle.memory.proofs.copy.store_all.Given as goal

abbrev pub invariant-loop-i : goal.invariant-loop-i
invariant-loop-i l = (l.i ≤ length l.given) × (length l.part ≡ length l.initial.part) × (l.part ≡ take l.i l.given ++ drop l.i l.initial.part)

abbrev pub decreases-loop-i : goal.decreases-loop-i
decreases-loop-i l = length l.given - l.i
