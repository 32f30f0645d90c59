-- `conditional::pair_of` meets its contract: the refusal of the place, or the test of what stands there. Assumes nothing.
use mathlib.Core.Path.{sym, ap, ◌∙◌}
use Rattle.memory.specs.Elements.{told_place}
use Rattle.conditional.proofs.Tests.{pair_refused, two_inside, pair_tested}
use Rattle.conditional.proofs.pair_of.Goals as goal

pub word_at-requires : goal.word_at-requires
word_at-requires c =
    two_inside _ _ _ _ c.args.memory.now _ c.requires (sym c.find.ensures ∙ ap told_place c.in-At.is)

pub returns-in-Refused : goal.returns-in-Refused
returns-in-Refused c =
    sym (pair_refused _ _ _ _ c.args.memory.now _ _ _ (sym c.find.ensures ∙ ap told_place c.in-Refused.is))

pub returns-in-At : goal.returns-in-At
returns-in-At c =
    pair_tested _ _ _ _ c.args.memory.now _ _ _ _ _ (sym c.find.ensures ∙ ap told_place c.in-At.is) (c.wide-b.ensures ∙ c.word_at.ensures)
    c.passes_test.ensures
