-- `start::ready::credit` meets its contract. Assumes nothing.
use Rattle.start.proofs.Readiness.{credit_channels, credit_outputs}
use Rattle.start.proofs.ready.credit.Goals as goal

pub returns-then-edition-eq-BY_CHANNEL : goal.returns-then-edition-eq-BY_CHANNEL
returns-then-edition-eq-BY_CHANNEL c =
    let args = c.args in
    credit_channels args.a args.b args.c args.d args.edition _ c.if-edition-eq-BY_CHANNEL.true c.by_channel.ensures

pub returns-else-edition-eq-BY_CHANNEL : goal.returns-else-edition-eq-BY_CHANNEL
returns-else-edition-eq-BY_CHANNEL c =
    let args = c.args in
    credit_outputs args.a args.b args.c args.d args.edition _ c.if-edition-eq-BY_CHANNEL.false c.by_output.ensures
