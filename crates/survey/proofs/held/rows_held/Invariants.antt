-- `survey::held::rows_held` meets its contract: the numbers of the rows before row j are held. Assumes nothing.
use mathlib.Core.Path.{◌≡◌}
use mathlib.Core.Bool.{true}
use Prim.Native.Nat.{ℕ, ◌-◌, ◌*◌, ◌/◌, ◌<◌, ◌≤◌}
use Rattle.survey.specs.Rows.{domain_held}
use Rattle.survey.proofs.held.rows_held.Given as goal

abbrev pub invariant-loop-j : goal.invariant-loop-j
invariant-loop-j l =
    (l.j ≤ l.rows) × ((k : ℕ) → k < l.j * l.columns → domain_held l.base l.tiled (l.stride / 2) l.first l.length l.x l.y l.columns k ≡ true)

abbrev pub decreases-loop-j : goal.decreases-loop-j
decreases-loop-j l = l.rows - l.j
