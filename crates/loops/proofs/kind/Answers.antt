-- `loops::kind` meets its contract: each return is the kind as far as the tests decide it. Assumes nothing.
use mathlib.Core.Path.{sym, ◌∙◌}
use borrow.Author.Tests.{eq-eqb, ne_eqb, le-leb, lt-leb}
use Rattle.laws.proofs.Choice.{pick_yes, pick_no}
use Rattle.loops.specs.Loops.{kind_at}
use Rattle.loops.proofs.kind.Goals as goal

pub returns-then-cell-eq0 : goal.returns-then-cell-eq0
unfolding kind_at
returns-then-cell-eq0 c = sym (pick_yes _ _ (eq-eqb _ _ c.if-cell-eq0.true))

pub returns-then-cell-ge-LOOPING : goal.returns-then-cell-ge-LOOPING
unfolding kind_at
returns-then-cell-ge-LOOPING c = sym (pick_no _ _ (ne_eqb _ _ c.if-cell-eq0.false) ∙ pick_yes _ _ (le-leb _ _ c.if-cell-ge-LOOPING.true))

pub returns : goal.returns
unfolding kind_at
returns c = sym (pick_no _ _ (ne_eqb _ _ c.if-cell-eq0.false) ∙ pick_no _ _ (lt-leb _ _ c.if-cell-ge-LOOPING.false))
