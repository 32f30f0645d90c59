-- `score::month::fill` meets its contract. Loop: the first days' numbers stand in the rooms, and are summed. Assumes nothing.
use mathlib.Core.Path.{ap, ◌∙◌}
use Prim.Native.Nat.{min}
use native.Mathlib.Omega.{arith}
use Rattle.score.proofs.Filling.{filling_begins, claimed_length, served_length, total_most, counted_most, filling_goes, filling_ends}
use Rattle.score.proofs.month.fill.Goals as goal

pub loop-k-init : goal.loop-k-init
loop-k-init c = filling_begins _ _ c.requires

pub overflow_add-line : goal.overflow_add-line
overflow_add-line c = omega (arith, c.loop-k.invariant.bounded.no_wrap, c.loop-k-test.true)

pub bounds-claimed-k : goal.bounds-claimed-k
bounds-claimed-k c =
    omega (arith, claimed_length _ _ c.loop-k.invariant, c.loop-k.invariant.bounded.few_days, c.loop-k-test.true)

pub bounds-served-k : goal.bounds-served-k
bounds-served-k c =
    omega (arith, served_length _ _ c.loop-k.invariant, c.loop-k.invariant.bounded.few_days, c.loop-k-test.true)

pub overflow_add-total : goal.overflow_add-total
overflow_add-total c =
    omega (
      arith,
      total_most _ _ c.loop-k.invariant,
      c.loop-k.invariant.bounded.few_days,
      c.loop-k-test.true,
      counted_most _ _ c.loop-k.invariant c.loop-k-test.true _ _ c.claimed_on-number.ensures
          (c.min-counted.ensures ∙ ap (min c.claimed_on-number.result) c.from.ensures),
    )

pub loop-k-preserved : goal.loop-k-preserved
loop-k-preserved c =
    filling_goes _ _ c.loop-k.invariant c.loop-k-test.true _ _ c.claimed_on-number.ensures
    (c.min-counted.ensures ∙ ap (min c.claimed_on-number.result) c.from.ensures)

pub returns : goal.returns
returns c = filling_ends _ _ c.loop-k.invariant c.loop-k-test.false
