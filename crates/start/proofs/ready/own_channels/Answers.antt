-- `start::ready::own_channels` meets its contract. Assumes nothing.
use Rattle.start.specs.Windows.{channels_by}
use Prim.Native.Nat.{ℕ}
use mathlib.Core.Path.{ap, ◌∙◌}
use Rattle.start.proofs.ready.own_channels.Goals as goal

pub returns : goal.returns
returns c =
    let args = c.args in
    record { value = c.channels.ensures.value ∙ ap (λ (n : ℕ). channels_by args.bits n args.format) c.shown.ensures; most = c.channels.ensures.most }
