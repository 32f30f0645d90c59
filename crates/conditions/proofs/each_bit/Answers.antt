-- `conditions::each_bit` meets its contract: before number i, the first i bytes are written and `passed` is their sum. Assumes nothing.
use Rattle.std.proofs.Common.{◌≡◌, ◌+◌, ◌*◌, arith}
use Rattle.conditions.proofs.Written.{written_one, written_none, counted_one, none_counted, sum_few, bit_few}
use Rattle.conditions.proofs.each_bit.Goals as goal

pub loop-i-init : goal.loop-i-init
loop-i-init c = (none_counted _, written_none _ _ _)

pub overflow_add-passed : goal.overflow_add-passed
overflow_add-passed c =
    let args = c.args in
    let few = sum_few c.loop-i.i _ (λ j. bit_few args.low args.top args.outside args.memory.now (args.at + 2 * j)) in
    omega (arith, c.loop-i.invariant.0, few, c.requires.few, c.bit_at-bit.ensures.most)

pub loop-i-preserved : goal.loop-i-preserved
loop-i-preserved c =
    let inv = c.loop-i.invariant in (
      counted_one _ _ _ _ inv.0 c.bit_at-bit.ensures.value,
      written_one _ _ _ _ _ _ inv.1 c.bit_at-bit.ensures.value,
    )

pub returns : goal.returns
returns c =
    let inv = c.loop-i.invariant in
    let all : c.loop-i.i ≡ c.args.n = omega (arith, c.loop-i-test.false) in
    record { count = rw all at inv.0; bytes = rw all at inv.1 }
