-- `survey::held::row_held` meets its contract: the numbers before number i are held. Assumes nothing.
use mathlib.Core.Path.{◌≡◌}
use mathlib.Core.Bool.{true}
use Prim.Native.Nat.{ℕ, ◌-◌, ◌/◌, ◌<◌, ◌≤◌}
use Rattle.survey.specs.Rows.{row_held}
use Rattle.survey.proofs.held.row_held.Given as goal

abbrev pub invariant-loop-i : goal.invariant-loop-i
invariant-loop-i l =
    (l.i ≤ l.count) × ((k : ℕ) → k < l.i → row_held l.base l.tiled (l.stride / 2) l.first l.length l.x l.y k ≡ true)

abbrev pub decreases-loop-i : goal.decreases-loop-i
decreases-loop-i l = l.count - l.i
