-- `flow_worked::stepping::one` meets its contract: a step gives out what may be handed in. Assumes nothing.
use Rattle.flow.proofs.Given.{step_gives}
use Rattle.flow_worked.proofs.stepping.one.Goals as goal

pub returns : goal.returns
returns c =
    step_gives _ _ _ _ c.requires c.step.ensures
