-- `flow::tell_loops` meets its contract: the aL shown, and each cell's kind, turns and aL. Assumes nothing.
use Rattle.group.specs.Cells.{group_of}
use Rattle.group.proofs.State.{given_loops}
use Rattle.flow.proofs.Answers.{loops_told_lem}
use Rattle.flow.proofs.tell_loops.Goals as goal

pub shown-requires : goal.shown-requires
shown-requires c =
    given_loops c.args.cells.now c.requires

pub returns : goal.returns
returns c =
    loops_told_lem (group_of c.args.cells.now).loops (given_loops c.args.cells.now c.requires) c.shown.ensures
    c.kind.ensures c.kind-2.ensures c.kind-3.ensures c.kind-4.ensures
