-- `address::offset::back` meets its contract: the two cases of the definition. Assumes nothing.
use Rattle.std.proofs.Common.{◌/◌, Bool, sym, ◌∙◌, subst}
use Rattle.laws.proofs.Choice.{pick_yes, pick_no}
use Rattle.address.specs.Asked.{StepAsked}
use Rattle.address.specs.Offset.{x_of, y_of}
use Rattle.address.proofs.Offsets.{blocks}
use Rattle.address.proofs.Sums.{row_pos, linear_x_lem, linear_y_lem}
use Rattle.address.proofs.offset.back.Goals as goal

pub tiled_back-requires : goal.tiled_back-requires
tiled_back-requires c =
    let args = c.args in
    subst (λ (t : Bool). StepAsked t args.size (args.stride / args.size)) c.if-tiled.true c.requires.0

pub nonzero_rem-o : goal.nonzero_rem-o
nonzero_rem-o c = row_pos _ _ (blocks _ c.requires.0.size).s_pos c.requires.0.least c.requires.1

pub nonzero_div-result : goal.nonzero_div-result
nonzero_div-result c = row_pos _ _ (blocks _ c.requires.0.size).s_pos c.requires.0.least c.requires.1

pub returns-then-tiled : goal.returns-then-tiled
unfolding x_of y_of
returns-then-tiled c = record { column = c.tiled_back.ensures.column ∙ sym (pick_yes _ _ c.if-tiled.true); row = c.tiled_back.ensures.row ∙ sym (pick_yes _ _ c.if-tiled.true) }

pub returns-else-tiled : goal.returns-else-tiled
unfolding x_of y_of
returns-else-tiled c =
    let s_pos = (blocks _ c.requires.0.size).s_pos in record { column = c.elements.ensures ∙ linear_x_lem _ _ _ s_pos c.requires.0.least c.requires.1 ∙ sym (pick_no _ _ c.if-tiled.false); row = linear_y_lem _ _ _ s_pos c.requires.0.least c.requires.1 ∙ sym (pick_no _ _ c.if-tiled.false) }
