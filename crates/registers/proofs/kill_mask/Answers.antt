-- `registers::kill_mask` meets its contract: the loop has the mask of the processors from `i` on, moved down by `i`. Assumes nothing.
use mathlib.Core.Path.{ap, ◌∙◌}
use Prim.Native.Nat.{◌/◌}
use native.Mathlib.Omega.{arith}
use lib.ListN.{length}
use Rattle.laws.proofs.Masks.{digit_lt}
use Rattle.registers.specs.Registers.{killed_by}
use Rattle.registers.proofs.Killing.{bit_digit, from_none, from_room, from_more, from_all}
use Rattle.registers.proofs.kill_mask.Goals as goal

pub loop-i-init : goal.loop-i-init
loop-i-init c =
    let registers = c.args.registers.now in
    from_none registers c.args.mask (length registers / 4)

pub overflow_mul-found : goal.overflow_mul-found
overflow_mul-found c =
    let registers = c.args.registers.now in
    omega (
      arith,
      c.loop-i.invariant,
      from_room registers c.args.mask (length registers / 4) c.loop-i.i c.loop-i-test.true (omega (arith, c.requires)),
    )

pub overflow_add-found : goal.overflow_add-found
overflow_add-found c =
    let registers = c.args.registers.now in
    omega (
      arith,
      c.loop-i.invariant,
      bit_digit c.kills.result c.from.ensures,
      digit_lt c.kills.result,
      from_room registers c.args.mask (length registers / 4) c.loop-i.i c.loop-i-test.true (omega (arith, c.requires)),
    )

-- one processor more
pub loop-i-preserved : goal.loop-i-preserved
loop-i-preserved c =
    let registers = c.args.registers.now in
    from_more registers c.args.mask (length registers / 4) c.loop-i-test.true c.loop-i.auto.i c.loop-i.invariant
    (bit_digit c.kills.result c.from.ensures) (c.kills.ensures ∙ ap killed_by c.masked_at.ensures)

-- all processors
pub returns : goal.returns
returns c =
    let registers = c.args.registers.now in
    c.loop-i.invariant ∙
    from_all registers c.args.mask (length registers / 4) (omega (arith, c.loop-i-test.false))
