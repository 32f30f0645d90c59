-- `flow_worked::stepping::fresh_in` meets its contract: the size and the mode are allowed, so what is begun is a group. Assumes nothing.
use Rattle.flow.proofs.Given.{begin_gives}
use Rattle.flow_worked.proofs.stepping.fresh_in.Goals as goal

pub returns : goal.returns
returns c =
    begin_gives c.args.size c.args.mode c.begin.ensures c.requires.0 c.requires.1 c.requires.2
