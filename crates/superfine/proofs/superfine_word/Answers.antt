-- `superfine::superfine_word` meets its contract: a law for each return. Assumes nothing.
use mathlib.Core.Path.{sym, ◌∙◌}
use Rattle.superfine.proofs.Words.{base_refused, format_refused, not_superfine, by_channels}
use Rattle.superfine.proofs.superfine_word.Goals as goal

pub returns-then-not-is_allowed : goal.returns-then-not-is_allowed
returns-then-not-is_allowed c = sym (base_refused _ _ (sym c.is_allowed.ensures ∙ c.if-not-is_allowed.true))

pub returns-then-not-is_allowed-2 : goal.returns-then-not-is_allowed-2
returns-then-not-is_allowed-2 c = sym (format_refused _ _ (sym c.is_allowed-2.ensures ∙ c.if-not-is_allowed-2.true))

pub returns-then-not-superfine : goal.returns-then-not-superfine
returns-then-not-superfine c = sym (not_superfine _ _ (sym c.superfine.ensures ∙ c.if-not-superfine.true))

pub returns : goal.returns
returns c =
    by_channels _ _ _ _ (sym c.is_allowed.ensures ∙ c.if-not-is_allowed.false)
    (sym c.is_allowed-2.ensures ∙ c.if-not-is_allowed-2.false)
    (sym c.superfine.ensures ∙ c.if-not-superfine.false) c.code.ensures c.channels.ensures
