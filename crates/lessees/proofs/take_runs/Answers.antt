-- `lessees::take_runs` meets its contract: each turn takes a run of one party's words. Assumes nothing.
use mathlib.Core.Path.{sym}
use native.Mathlib.Omega.{arith}
use Rattle.lessees.proofs.Folding.{fold_begins, asked0, asked1, fold_run0, fold_run1, fold_ends, six, as_party}
use Rattle.lessees.proofs.take_runs.Goals as goal

pub loop-at-init : goal.loop-at-init
loop-at-init c = rw (c.new-told0.ensures, c.new-told1.ensures) (fold_begins _ _ _ _ _ _ _ c.requires.0)

pub party_of-party-requires : goal.party_of-party-requires
party_of-party-requires c = omega (arith, c.requires.1, c.loop-at-test.true)

pub run_end-end-requires : goal.run_end-end-requires
run_end-end-requires c = (c.loop-at-test.true, (omega (arith, c.requires.1), c.party_of-party.ensures))

-- party 1's run
pub take_part-requires : goal.take_part-requires
take_part-requires c =
    let run = c.run_end-end.ensures in (
      run.from_end,
      run.end_most,
      asked1 _ _ _ _ _ _ _ _ _ _ _ c.requires.0.valid c.loop-at.invariant (omega (arith)) _ run,
    )

-- party 0's run
pub take_part-requires-else-party : goal.take_part-requires-else-party
take_part-requires-else-party c =
    let run = c.run_end-end.ensures in (
      run.from_end,
      run.end_most,
      asked0 _ _ _ _ _ _ _ _ _ _ _ c.requires.0.valid c.loop-at.invariant (omega (arith)) _ run,
    )

pub loop-at-smaller-then-party : goal.loop-at-smaller-then-party
loop-at-smaller-then-party c =
    let within = c.loop-at-test.true in
    omega (arith, within, c.run_end-end.ensures.goes_on within (sym c.party_of-party.ensures))

pub loop-at-preserved-then-party : goal.loop-at-preserved-then-party
loop-at-preserved-then-party c =
    fold_run1 _ _ _ _ _ _ _ _ _ _ _ c.requires.0.valid c.loop-at.invariant _
    (as_party c.if-party.true c.run_end-end.ensures) c.take_part.ensures

pub loop-at-smaller : goal.loop-at-smaller
loop-at-smaller c =
    let within = c.loop-at-test.true in
    omega (arith, within, c.run_end-end.ensures.goes_on within (sym c.party_of-party.ensures))

pub loop-at-preserved : goal.loop-at-preserved
loop-at-preserved c =
    fold_run0 _ _ _ _ _ _ _ _ _ _ _ c.requires.0.valid c.loop-at.invariant _
    (as_party c.if-party.false c.run_end-end.ensures) c.take_part-else-party.ensures

pub returns : goal.returns
returns c =
    fold_ends _ _ _ _ _ _ _ _ _ _ _ c.requires.0.valid c.loop-at.invariant c.loop-at-test.false (six c.number.ensures c.number-2.ensures)
