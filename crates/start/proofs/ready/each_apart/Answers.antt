-- `start::ready::each_apart` meets its contract: the chain of tests is the definition's. Assumes nothing.
use Rattle.start.proofs.Readiness.{both_is, each_apart_lem}
use Rattle.start.proofs.ready.each_apart.Goals as goal

pub returns : goal.returns
returns c =
    let args = c.args in
    each_apart_lem args.a args.b args.c args.d c.keeps_apart-second.ensures c.keeps_apart.ensures
    c.keeps_apart-2.ensures (both_is _ _) c.keeps_apart-3.ensures
    c.keeps_apart-4.ensures (both_is _ _) c.keeps_apart-5.ensures (both_is _ _)
    (both_is _ _) (both_is _ _)
