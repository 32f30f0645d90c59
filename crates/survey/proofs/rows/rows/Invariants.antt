-- `survey::rows::rows` meets its contract: before row j, the bytes of the rows before are written and `passed` is their sum. Assumes
-- nothing.
use mathlib.Core.Path.{◌≡◌}
use Prim.Native.Nat.{◌-◌, ◌*◌, ◌/◌, ◌≤◌}
use Rattle.laws.specs.Below.{sum}
use Rattle.conditions.specs.Spans.{written}
use Rattle.survey.specs.Rows.{domain_byte}
use Rattle.survey.proofs.rows.rows.Given as goal

abbrev pub invariant-loop-j : goal.invariant-loop-j
invariant-loop-j l =
    (l.j ≤ l.rows) × (l.line ≡ l.j * l.columns) ×
    (l.passed ≡ sum l.line (domain_byte l.low l.top l.outside l.memory l.base l.tiled (l.stride / 2) l.first l.x l.y l.columns)) ×
    (l.room ≡ written 0 (domain_byte l.low l.top l.outside l.memory l.base l.tiled (l.stride / 2) l.first l.x l.y l.columns) l.line l.initial.room)

abbrev pub decreases-loop-j : goal.decreases-loop-j
decreases-loop-j l = l.rows - l.j
