-- `layout::well_formed` meets its contract: each return is the conjunction as far as the tests on the way decide it.
-- Assumes nothing.
use mathlib.Core.Path.{sym, ◌∙◌}
use borrow.Author.Tests.{eq-eqb, ne_eqb, le-leb, lt-leb}
use Rattle.laws.proofs.Choice.{and_yes, and_no_left, and_no_right}
use Rattle.layout.specs.Layout.{well_formed}
use Rattle.layout.proofs.well_formed.Goals as goal

pub returns-then-base-ne0 : goal.returns-then-base-ne0
unfolding well_formed
returns-then-base-ne0 c = sym (and_no_left _ (ne_eqb _ _ c.if-base-ne0.true))

pub returns-then-pitch-ne0 : goal.returns-then-pitch-ne0
unfolding well_formed
returns-then-pitch-ne0 c = sym (and_no_right _ (and_no_left _ (ne_eqb _ _ c.if-pitch-ne0.true)))

pub returns-then-pitch-gt-PITCH_MOST : goal.returns-then-pitch-gt-PITCH_MOST
unfolding well_formed
returns-then-pitch-gt-PITCH_MOST c = sym (and_no_right _ (and_no_right _ (and_no_left _ (lt-leb _ _ c.if-pitch-gt-PITCH_MOST.true))))

pub returns : goal.returns
unfolding well_formed
returns c =
    c.is_size.ensures
    ∙ sym (and_yes _ (eq-eqb _ _ c.if-base-ne0.false)
    ∙ and_yes _ (eq-eqb _ _ c.if-pitch-ne0.false)
    ∙ and_yes _ (le-leb _ _ c.if-pitch-gt-PITCH_MOST.false))
