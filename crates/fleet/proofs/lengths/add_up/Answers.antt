-- `fleet::lengths::add_up` meets its contract. Loop: what is left and the lengths so far are the slice. Assumes nothing.
use Rattle.fleet.proofs.Slices.{adding_begins, adding_goes, too_long, adding_ends}
use Rattle.fleet.proofs.lengths.add_up.Goals as goal

pub loop-k-init : goal.loop-k-init
loop-k-init c = adding_begins _ _

pub returns-then-left-log : goal.returns-then-left-log
returns-then-left-log c = too_long _ _ _ _ c.loop-k.invariant c.loop-k-test.true c.if-left-log.true

pub loop-k-preserved : goal.loop-k-preserved
loop-k-preserved c = adding_goes _ _ _ _ c.loop-k.invariant c.loop-k-test.true c.if-left-log.false

pub returns : goal.returns
returns c = adding_ends _ _ _ _ c.loop-k.invariant c.loop-k-test.false
