-- `start::ready::keeps_apart` meets its contract: spans are compared where both outputs count. Assumes nothing.
use Rattle.start.proofs.Readiness.{apart_counted, apart_uncounted, both_is}
use Rattle.start.proofs.ready.keeps_apart.Goals as goal

pub returns-then-a-b : goal.returns-then-a-b
returns-then-a-b c =
    apart_counted c.args.a c.args.b (both_is _ _) c.if-a-b.true c.spans_apart.ensures

pub returns-else-a-b : goal.returns-else-a-b
returns-else-a-b c = apart_uncounted c.args.a c.args.b (both_is _ _) c.if-a-b.false
