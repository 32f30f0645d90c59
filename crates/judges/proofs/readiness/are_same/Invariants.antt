-- `judges::readiness::are_same` meets its contract: number by number. Assumes nothing.
use mathlib.Core.Path.{◌≡◌}
use Prim.Native.Nat.{◌+◌, ◌-◌, ◌≤◌}
use lib.Dec.{eqb}
use lib.ListN.{get_or}
use Rattle.laws.specs.Below.{every}
use Rattle.judges.proofs.readiness.are_same.Given as goal

abbrev pub invariant-loop-k : goal.invariant-loop-k
invariant-loop-k l = (l.k ≤ 14) × (l.good ≡ every l.k (λ n. eqb (get_or l.own (19 + n) 0) (get_or l.fresh (19 + n) 0)))

abbrev pub decreases-loop-k : goal.decreases-loop-k
decreases-loop-k l = 14 - l.k
