-- `lessees::run_end` meets its contract: each turn passes a word of the party. Assumes nothing.
use native.Mathlib.Omega.{arith}
use Rattle.lessees.proofs.Taking.{run_on, run_ended, run_out}
use Rattle.lessees.proofs.run_end.Goals as goal

pub loop-at-init : goal.loop-at-init
loop-at-init c = c.passed-at.ensures

pub party_of-requires : goal.party_of-requires
party_of-requires c = omega (arith, c.requires.1.0, c.loop-at-test.true)

pub returns-then-party_of-party : goal.returns-then-party_of-party
returns-then-party_of-party c = run_ended _ _ _ _ _ c.loop-at.invariant.0 c.loop-at.invariant.1

pub loop-at-preserved : goal.loop-at-preserved
loop-at-preserved c =
    (run_on _ _ _ _ _ c.loop-at.invariant.0 c.loop-at-test.true c.party_of.ensures c.if-party_of-party.false, omega (arith, c.loop-at.invariant.1))

pub returns : goal.returns
returns c = run_out _ _ _ _ _ c.loop-at.invariant.0 c.loop-at.invariant.1 c.loop-at-test.false
