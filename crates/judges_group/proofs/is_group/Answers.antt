-- `judges_group::is_group` meets its contract: the tests joined, and what they mean. Assumes nothing.
use mathlib.Core.Path.{refl, sym, ap, ◌∙◌}
use Rattle.judges_group.specs.Judged.{in_aRow, is_group}
use Rattle.judges_group.proofs.Words.{both_tests, joined}
use Rattle.judges_group.proofs.Judging.{judged_given, given_judged}
use Rattle.judges_group.proofs.is_group.Goals as goal

pub returns : goal.returns
unfolding is_group
returns c =
    let l = c.args.cells.now in
    let judged =
    joined (both_tests _ _) c.masks_fit-masks.ensures.equal
    (joined (both_tests _ _) (c.in_a_row-row.ensures ∙ ap in_aRow c.starting-all.ensures)
    (joined (both_tests _ _) c.counters_fit-counters.ensures
    (joined (both_tests _ _) c.returns_fit-returns.ensures
    (joined (both_tests _ _) c.loops_fit-loops.ensures
    (joined (both_tests _ _) refl (both_tests _ _)))))) in
    record {
      sound = λ e. judged_given l c.told-cells c.masks_fit-masks.ensures.words (sym judged ∙ e);
      complete = λ v. judged ∙ given_judged l v;
    }
