-- `rules::last::is_window` meets its contract. Assumes nothing.
use mathlib.Core.Path.{ap, ◌∙◌}
use Rattle.std.specs.Prelude.{Option, is_some}
use Rattle.command.specs.declared.format.Window.{Window}
use Rattle.command.proofs.Windows.{seen_given}
use Rattle.rules.proofs.last.is_window.Goals as goal

pub returns : goal.returns
returns c = c.is_some.ensures ∙ ap (λ (o : Option Window). is_some o) c.window_of.ensures ∙ seen_given _
