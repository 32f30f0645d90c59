-- `conditions::four` meets its contract: four bytes one by one. Assumes nothing.
use Rattle.std.proofs.Common.{ℕ, ◌+◌, ◌*◌, ap, ◌∙◌, arith, length-set}
use Rattle.conditions.specs.Spans.{span_bit}
use Rattle.conditions.proofs.Written.{four_written, four_counted}
use Rattle.conditions.proofs.four.Goals as goal

pub bounds-room-line-2 : goal.bounds-room-line-2
bounds-room-line-2 c =
    simp length-set (omega (arith, c.requires.bytes))

pub bounds-room-line-3 : goal.bounds-room-line-3
bounds-room-line-3 c =
    simp length-set (omega (arith, c.requires.bytes))

pub bounds-room-line-4 : goal.bounds-room-line-4
bounds-room-line-4 c =
    simp length-set (omega (arith, c.requires.bytes))

pub returns : goal.returns
returns c =
    let args = c.args in
    let bit : ℕ → ℕ = λ p. span_bit args.low args.top args.outside args.memory.now p in
    let e0 = c.bit_at-a.ensures.value ∙ ap bit {x = args.at} {y = args.at + 2 * 0} (omega arith) in record { count = four_counted args.line (λ i. bit (args.at + 2 * i)) _ _ _ _ e0 c.bit_at-b.ensures.value c.bit_at-c.ensures.value c.bit_at-d.ensures.value; bytes = four_written args.line (λ i. bit (args.at + 2 * i)) _ _ _ _ e0 c.bit_at-b.ensures.value c.bit_at-c.ensures.value c.bit_at-d.ensures.value _ }
