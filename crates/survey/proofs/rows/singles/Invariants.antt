-- `survey::rows::singles` meets its contract: before turn i, the bytes of the turns before are written and `passed` is their sum. Assumes
-- nothing.
use mathlib.Core.Path.{◌≡◌}
use Prim.Native.Nat.{◌-◌, ◌/◌, ◌≤◌}
use mathlib.Core.Bool.{true}
use Rattle.laws.specs.Below.{sum}
use Rattle.conditions.specs.Spans.{written}
use Rattle.survey.specs.Rows.{row_byte}
use Rattle.survey.proofs.rows.singles.Given as goal

abbrev pub invariant-loop-i : goal.invariant-loop-i
invariant-loop-i l =
    (l.i ≤ l.count) × (l.passed ≡ sum l.i (row_byte l.low l.top l.outside l.memory l.base true (l.stride / 2) l.first l.x l.y)) ×
    (l.room ≡ written l.line (row_byte l.low l.top l.outside l.memory l.base true (l.stride / 2) l.first l.x l.y) l.i l.initial.room)

abbrev pub decreases-loop-i : goal.decreases-loop-i
decreases-loop-i l = l.count - l.i
