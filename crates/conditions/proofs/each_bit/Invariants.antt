-- `conditions::each_bit` meets its contract: before number i, the first i bytes are written and `passed` is their sum. Assumes nothing.
use Rattle.std.proofs.Common.{◌≡◌, ◌+◌, ◌-◌, ◌*◌, ◌≤◌}
use Rattle.laws.specs.Below.{sum}
use Rattle.conditions.specs.Spans.{span_bit, written}
use Rattle.conditions.proofs.each_bit.Given as goal

abbrev pub invariant-loop-i : goal.invariant-loop-i
invariant-loop-i l =
    (l.passed ≡ sum l.i (λ j. span_bit l.low l.top l.outside l.memory (l.at + 2 * j))) ×
    (l.room ≡ written l.line (λ j. span_bit l.low l.top l.outside l.memory (l.at + 2 * j)) l.i l.initial.room)
