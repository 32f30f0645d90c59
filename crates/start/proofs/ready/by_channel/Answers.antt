-- `start::ready::by_channel` meets its contract. Assumes nothing.
use Rattle.start.proofs.Readiness.{channels_told}
use Rattle.start.proofs.ready.by_channel.Goals as goal

pub returns : goal.returns
returns c =
    channels_told c.args.mine c.args.shared.now c.is_on.ensures c.is_on-2.ensures
    c.is_on-3.ensures c.is_on-4.ensures (c.own_channels-a.ensures.value, c.own_channels-a.ensures.most) (c.own_channels-b.ensures.value, c.own_channels-b.ensures.most)
    (c.own_channels-c.ensures.value, c.own_channels-c.ensures.most) (c.own_channels-d.ensures.value, c.own_channels-d.ensures.most)
