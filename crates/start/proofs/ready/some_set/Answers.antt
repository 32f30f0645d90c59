-- `start::ready::some_set` meets its contract: the chain of tests is the definition's. Assumes nothing.
use Rattle.start.proofs.Readiness.{either_is, some_set_lem}
use Rattle.start.proofs.ready.some_set.Goals as goal

pub returns : goal.returns
returns c =
    let args = c.args in
    some_set_lem args.a args.b args.c args.d (either_is _ _) (either_is _ _) (either_is _ _)
