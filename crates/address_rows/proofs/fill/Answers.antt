-- `address_rows::fill` meets its contract: before place j is written, the first j places have their addresses. Assumes nothing.
use mathlib.Core.Path.{refl}
use native.Mathlib.Omega.{arith}
use lib.ListN.{length, length-set}
use Rattle.address_rows.proofs.Listed.{listed_set, listed_all, below_end}
use Rattle.address_rows.proofs.fill.Goals as goal

pub loop-j-init : goal.loop-j-init
loop-j-init c = (omega arith, refl, refl)

pub overflow_cast-part : goal.overflow_cast-part
overflow_cast-part c = omega (arith, c.loop-j-test.true, c.loop-j.invariant.1, c.requires.1)

pub overflow_mul-part : goal.overflow_mul-part
overflow_mul-part c =
    let args = c.args in
    omega
    (arith, below_end args.at (length args.part.now) args.size c.loop-j.j (omega (arith, c.loop-j-test.true, c.loop-j.invariant.1)) c.requires.0 c.requires.2)

pub overflow_add-part : goal.overflow_add-part
overflow_add-part c =
    let args = c.args in
    omega
    (arith, below_end args.at (length args.part.now) args.size c.loop-j.j (omega (arith, c.loop-j-test.true, c.loop-j.invariant.1)) c.requires.0 c.requires.2)

pub offset_bounds-part-j : goal.offset_bounds-part-j
offset_bounds-part-j c =
    let args = c.args in
    omega
    (arith, below_end args.at (length args.part.now) args.size c.loop-j.j (omega (arith, c.loop-j-test.true, c.loop-j.invariant.1)) c.requires.0 c.requires.2)

pub bounds-part-j : goal.bounds-part-j
bounds-part-j c = omega (arith, c.loop-j-test.true)

pub overflow_add-j : goal.overflow_add-j
overflow_add-j c = omega (arith, c.loop-j-test.true, c.loop-j.invariant.1, c.requires.1)

pub loop-j-smaller : goal.loop-j-smaller
loop-j-smaller c = omega (arith, c.loop-j-test.true, c.loop-j.invariant.1)

pub loop-j-preserved : goal.loop-j-preserved
loop-j-preserved c = (
  omega (arith, c.loop-j-test.true, c.loop-j.invariant.1),
  simp length-set c.loop-j.invariant.1,
  listed_set _ _ _ _ _ c.loop-j.invariant.2 (omega (arith, c.loop-j-test.true, c.loop-j.invariant.1)) refl,
)

pub shape_of-part : goal.shape_of-part
shape_of-part c = c.loop-j.invariant.1

pub returns : goal.returns
returns c =
    listed_all _ _ _ _ c.loop-j.invariant.2 c.loop-j.invariant.0 (omega (arith, c.loop-j-test.false, c.loop-j.invariant.1))
