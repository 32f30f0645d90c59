-- `flow_worked::programs::again` meets its contract: a run gives out what may be handed in. Assumes nothing.
use Rattle.flow.proofs.Given.{run_gives}
use Rattle.flow_worked.proofs.programs.again.Goals as goal

pub run-requires-2 : goal.run-requires-2
run-requires-2 c =
    run_gives _ _ _ c.fresh.ensures c.run.ensures
