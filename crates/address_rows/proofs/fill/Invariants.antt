-- `address_rows::fill` meets its contract: before place j is written, the first j places have their addresses. Assumes nothing.
use mathlib.Core.Path.{◌≡◌}
use mathlib.Core.List.{◌++◌}
use Prim.Native.Nat.{◌+◌, ◌-◌, ◌*◌, ◌≤◌}
use lib.ListN.{length, drop}
use Rattle.address_rows.specs.Rows.{listed}
use Rattle.address_rows.proofs.fill.Given as goal

abbrev pub invariant-loop-j : goal.invariant-loop-j
invariant-loop-j l =
    (l.j ≤ length l.initial.part) × (length l.part ≡ length l.initial.part) × (l.part ≡ listed (λ k. l.at + k * l.size) 0 l.j ++ drop l.j l.initial.part)

abbrev pub decreases-loop-j : goal.decreases-loop-j
decreases-loop-j l = length l.initial.part - l.j
