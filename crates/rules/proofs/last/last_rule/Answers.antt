-- `rules::last::last_rule` meets its contract: 5, then 6, then fine. Assumes nothing.
use mathlib.Core.Path.{sym, ◌∙◌}
use Rattle.rules.proofs.Rule.{rule_five, rule_six, rule_fine}
use Rattle.rules.proofs.last.last_rule.Goals as goal

pub returns-then-not-domain_kept : goal.returns-then-not-domain_kept
returns-then-not-domain_kept c = sym (rule_five _ (sym c.domain_kept.ensures ∙ c.if-not-domain_kept.true))

pub returns-then-not-window_kept : goal.returns-then-not-window_kept
returns-then-not-window_kept c =
    sym (rule_six _ (sym c.domain_kept.ensures ∙ c.if-not-domain_kept.false) (sym c.window_kept.ensures ∙ c.if-not-window_kept.true))

pub returns : goal.returns
returns c =
    sym (rule_fine _ (sym c.domain_kept.ensures ∙ c.if-not-domain_kept.false) (sym c.window_kept.ensures ∙ c.if-not-window_kept.false))
