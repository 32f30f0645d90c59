-- `address_rows::by_places` meets its contract: the table is lent to every run; before a run is written, all columns before it have their addresses. Assumes nothing.
use mathlib.Core.Path.{◌≡◌}
use mathlib.Core.Bool.{true}
use Prim.Native.Nat.{◌-◌, ◌/◌, ◌≤◌}
use lib.ListN.{length}
use Rattle.address_rows.specs.Rows.{element_at, written}
use Rattle.address_rows.proofs.by_places.Given as goal

abbrev pub invariant-loop-i : goal.invariant-loop-i
invariant-loop-i l =
    (l.i ≤ length l.initial.room) × (length l.room ≡ length l.initial.room) × (l.room ≡ written (element_at l.base 1 true (l.stride / 1) l.x l.y) 0 l.i l.initial.room)

abbrev pub decreases-loop-i : goal.decreases-loop-i
decreases-loop-i l = length l.initial.room - l.i
