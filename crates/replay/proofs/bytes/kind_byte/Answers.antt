-- `replay::bytes::kind_byte` meets its contract. Assumes nothing.
use mathlib.Core.Path.{sym, ◌∙◌}
use Rattle.replay.proofs.Midnights.{kind_taken, kind_refused}
use Rattle.replay.proofs.bytes.kind_byte.Goals as goal

pub returns-then-is_kind : goal.returns-then-is_kind
returns-then-is_kind c = kind_taken _ _ _ (sym c.is_kind.ensures ∙ c.if-is_kind.true) c.open.ensures

pub returns : goal.returns
returns c = kind_refused _ _ _ (sym c.is_kind.ensures ∙ c.if-is_kind.false) c.stop.ensures
