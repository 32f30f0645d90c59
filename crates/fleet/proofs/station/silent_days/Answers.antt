-- `fleet::station::silent_days` meets its contract. Loop: the silent days among the first. Assumes nothing.
use native.Mathlib.Omega.{arith}
use mathlib.Core.Path.{◌∙◌}
use lib.Dec.{eqb}
use lib.ListN.{get_or}
use Rattle.fleet.proofs.Months.{as_digit, digit_most, none_owed, counting_begins, counting_goes, counting_most, counting_ends}
use Rattle.fleet.proofs.station.silent_days.Goals as goal

pub returns-then-owed-eq0 : goal.returns-then-owed-eq0
returns-then-owed-eq0 c = none_owed _ _ _ c.if-owed-eq0.true

pub loop-k-init : goal.loop-k-init
loop-k-init c = counting_begins c.requires c.if-owed-eq0.false

pub bounds-served-k : goal.bounds-served-k
bounds-served-k c = omega (arith, c.loop-k.invariant.room_whole, c.loop-k.invariant.few, c.loop-k-test.true)

pub overflow_add-silent : goal.overflow_add-silent
overflow_add-silent c = omega (arith, c.from-silent.ensures, digit_most (eqb (get_or c.args.served.now c.loop-k.k 0) 0), counting_most c.loop-k.invariant)

pub loop-k-preserved : goal.loop-k-preserved
loop-k-preserved c = counting_goes c.loop-k.invariant c.loop-k-test.true (c.from-silent.ensures ∙ as_digit _)

pub returns : goal.returns
returns c = counting_ends c.loop-k.invariant c.loop-k-test.false
