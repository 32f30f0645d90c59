-- `superfine::four` meets its contract: 11 for the first element that isn't held, or the four parts of memory.
-- Assumes nothing.
use mathlib.Core.Path.{sym, ap, ◌∙◌}
use Rattle.memory.specs.Elements.{told_place}
use Rattle.memory.proofs.Calls.{told_so}
use Rattle.superfine.proofs.Channels.{right_unheld, below_unheld, across_unheld, own_unheld}
use Rattle.superfine.proofs.Channels.{parts_asked, parts_asked_at, four_read, four_read_at}
use Rattle.superfine.proofs.four.Goals as goal

pub returns-in_default : goal.returns-in_default
returns-in_default c =
    told_so (right_unheld _ _ _ _ _ _ _ _ (sym c.start.ensures ∙ ap told_place c.in_default.is))
    c.refused.ensures

pub returns-in_default-start : goal.returns-in_default-start
returns-in_default-start c =
    told_so (below_unheld _ _ _ _ _ _ _ _ (sym c.start-2.ensures ∙ ap told_place c.in_default-start.is))
    c.refused-in_default-start.ensures

pub returns-in_default-start-2 : goal.returns-in_default-start-2
returns-in_default-start-2 c =
    told_so (across_unheld _ _ _ _ _ _ _ _ (sym c.start-3.ensures ∙ ap told_place c.in_default-start-2.is))
    c.refused-in_default-start-2.ensures

pub returns-in_default-start-3 : goal.returns-in_default-start-3
returns-in_default-start-3 c =
    told_so (own_unheld _ _ _ _ _ _ _ _ (sym c.start-4.ensures ∙ ap told_place c.in_default-start-3.is))
    c.refused-in_default-start-3.ensures

pub parts-requires : goal.parts-requires
parts-requires c =
    let start-told = sym c.start.ensures ∙ ap told_place c.in-At.is in
    let start2-told = sym c.start-2.ensures ∙ ap told_place c.in-At-start.is in
    let start3-told = sym c.start-3.ensures ∙ ap told_place c.in-At-start-2.is in
    let start4-told = sym c.start-4.ensures ∙ ap told_place c.in-At-start-3.is in
    parts_asked_at _ _ _ _ _ _ _ _ _ _ _ start-told start2-told start3-told start4-told 2 c.in-2.is c.requires

pub parts-requires-in-4 : goal.parts-requires-in-4
parts-requires-in-4 c =
    let start-told = sym c.start.ensures ∙ ap told_place c.in-At.is in
    let start2-told = sym c.start-2.ensures ∙ ap told_place c.in-At-start.is in
    let start3-told = sym c.start-3.ensures ∙ ap told_place c.in-At-start-2.is in
    let start4-told = sym c.start-4.ensures ∙ ap told_place c.in-At-start-3.is in
    parts_asked_at _ _ _ _ _ _ _ _ _ _ _ start-told start2-told start3-told start4-told 4 c.in-4.is c.requires

pub parts-requires-in_default-size : goal.parts-requires-in_default-size
parts-requires-in_default-size c =
    let start-told = sym c.start.ensures ∙ ap told_place c.in-At.is in
    let start2-told = sym c.start-2.ensures ∙ ap told_place c.in-At-start.is in
    let start3-told = sym c.start-3.ensures ∙ ap told_place c.in-At-start-2.is in
    let start4-told = sym c.start-4.ensures ∙ ap told_place c.in-At-start-3.is in
    parts_asked _ _ _ _ _ _ _ _ _ _ _ start-told start2-told start3-told start4-told c.requires

pub returns-in-2 : goal.returns-in-2
returns-in-2 c =
    let start-told = sym c.start.ensures ∙ ap told_place c.in-At.is in
    let start2-told = sym c.start-2.ensures ∙ ap told_place c.in-At-start.is in
    let start3-told = sym c.start-3.ensures ∙ ap told_place c.in-At-start-2.is in
    let start4-told = sym c.start-4.ensures ∙ ap told_place c.in-At-start-3.is in
    told_so (four_read_at _ _ _ _ _ _ _ _ _ _ _ start-told start2-told start3-told start4-told 2 c.in-2.is) c.parts.ensures

pub returns-in-4 : goal.returns-in-4
returns-in-4 c =
    let start-told = sym c.start.ensures ∙ ap told_place c.in-At.is in
    let start2-told = sym c.start-2.ensures ∙ ap told_place c.in-At-start.is in
    let start3-told = sym c.start-3.ensures ∙ ap told_place c.in-At-start-2.is in
    let start4-told = sym c.start-4.ensures ∙ ap told_place c.in-At-start-3.is in
    told_so (four_read_at _ _ _ _ _ _ _ _ _ _ _ start-told start2-told start3-told start4-told 4 c.in-4.is) c.parts-in-4.ensures

pub returns-in_default-size : goal.returns-in_default-size
returns-in_default-size c =
    let start-told = sym c.start.ensures ∙ ap told_place c.in-At.is in
    let start2-told = sym c.start-2.ensures ∙ ap told_place c.in-At-start.is in
    let start3-told = sym c.start-3.ensures ∙ ap told_place c.in-At-start-2.is in
    let start4-told = sym c.start-4.ensures ∙ ap told_place c.in-At-start-3.is in
    told_so (four_read _ _ _ _ _ _ _ _ _ _ _ start-told start2-told start3-told start4-told) c.parts-in_default-size.ensures
