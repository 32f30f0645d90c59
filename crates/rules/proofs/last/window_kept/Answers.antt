-- `rules::last::window_kept` meets its contract: each arm by the definition at that variant. Assumes nothing.
use mathlib.Core.Path.{sym, ap, ◌∙◌}
use Rattle.rules.specs.Rules.{window_kept}
use Rattle.rules.proofs.last.window_kept.Goals as goal

pub returns-in-Domain : goal.returns-in-Domain
unfolding window_kept
returns-in-Domain c = sym (ap window_kept c.in-Domain.is)

pub returns-in-Start : goal.returns-in-Start
unfolding window_kept
returns-in-Start c = sym (ap window_kept c.in-Start.is)

pub returns-in-Effectless : goal.returns-in-Effectless
unfolding window_kept
returns-in-Effectless c = sym (ap window_kept c.in-Effectless.is)

pub returns-in-Store : goal.returns-in-Store
unfolding window_kept
returns-in-Store c = c.is_window.ensures ∙ sym (ap window_kept c.in-Store.is)

pub returns-in-Input : goal.returns-in-Input
unfolding window_kept
returns-in-Input c = c.is_window-in-Input.ensures ∙ sym (ap window_kept c.in-Input.is)

pub returns-in-Output : goal.returns-in-Output
unfolding window_kept
returns-in-Output c = c.is_window-in-Output.ensures ∙ sym (ap window_kept c.in-Output.is)

pub returns-in-Conditional : goal.returns-in-Conditional
unfolding window_kept
returns-in-Conditional c = c.is_window-in-Conditional.ensures ∙ sym (ap window_kept c.in-Conditional.is)

pub returns-in-OutputMask : goal.returns-in-OutputMask
unfolding window_kept
returns-in-OutputMask c = sym (ap window_kept c.in-OutputMask.is)

pub returns-in-ConditionalMask : goal.returns-in-ConditionalMask
unfolding window_kept
returns-in-ConditionalMask c = sym (ap window_kept c.in-ConditionalMask.is)

pub returns-in-Test : goal.returns-in-Test
unfolding window_kept
returns-in-Test c = sym (ap window_kept c.in-Test.is)
