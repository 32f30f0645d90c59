-- `judges::settings::is_buffer` meets its contract: all zeros, or a window that is accepted. Assumes nothing.
use mathlib.Core.Path.{refl, ap₂, ◌∙◌}
use Rattle.state.specs.Lawful.{lawful, lawful_buffer, window}
use Rattle.judges.proofs.Joined.{both_is, together}
use Rattle.judges.proofs.settings.is_buffer.Goals as goal

pub returns : goal.returns
unfolding lawful_buffer window
returns c =
    c.is_lawful.ensures ∙ ap₂ (lawful c.args.flag)
    (together refl (both_is _ _)) c.is_window.ensures
