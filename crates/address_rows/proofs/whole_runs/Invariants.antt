-- `address_rows::whole_runs` meets its contract: before place i all places from `from` on have their addresses. Assumes nothing.
use mathlib.Core.Path.{◌≡◌}
use mathlib.Core.Bool.{true}
use Prim.Native.Nat.{◌-◌, ◌/◌, ◌≤◌}
use lib.ListN.{length}
use Rattle.address_rows.specs.Rows.{element_at, RunBegins, written}
use Rattle.address_rows.proofs.whole_runs.Given as goal

abbrev pub invariant-loop-i : goal.invariant-loop-i
invariant-loop-i l =
    (l.from ≤ l.i) × RunBegins l.size l.x (length l.initial.room) l.i × (length l.room ≡ length l.initial.room) ×
    (l.room ≡ written (element_at l.base l.size true (l.stride / l.size) l.x l.y) l.from l.i l.initial.room)

abbrev pub decreases-loop-i : goal.decreases-loop-i
decreases-loop-i l = length l.initial.room - l.i
