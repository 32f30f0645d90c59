-- `replay::bytes::is_kind` meets its contract. Assumes nothing.
use mathlib.Core.Path.{◌∙◌}
use borrow.Author.Tests.{eq-eqb}
use Rattle.replay.proofs.Midnights.{kind_first, kind_second}
use Rattle.replay.proofs.bytes.is_kind.Goals as goal

pub returns-then-byte-eq1 : goal.returns-then-byte-eq1
returns-then-byte-eq1 c = eq-eqb _ 1 c.if-byte-eq1.true ∙ kind_first _ c.if-byte-eq1.true

pub returns-else-byte-eq1 : goal.returns-else-byte-eq1
returns-else-byte-eq1 c = kind_second _ c.if-byte-eq1.false
