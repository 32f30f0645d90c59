-- `conditional::survey_in` meets its contract: a law for each return. Assumes nothing.
use mathlib.Core.Path.{sym, ap, ◌∙◌}
use lib.ListN.{length}
use Rattle.address.specs.Address.{layout_of, told_translated}
use Rattle.conditional.proofs.Surveys.{answers_refused, crossed_columns, crossed_rows, last_found, last_refused}
use Rattle.conditional.proofs.survey_in.Goals as goal

pub returns-then-i1-i0 : goal.returns-then-i1-i0
returns-then-i1-i0 c =
    let args = c.args in
    let l = layout_of args.base args.pitch args.height 2 args.tiled in
    let m = args.memory.now in
    let n = length args.room.now in
    answers_refused _ _ _ _ (crossed_columns l args.test args.v args.first m args.i0 args.j0 args.i1 args.j1 n c.if-i1-i0.true)

pub returns-then-j1-j0 : goal.returns-then-j1-j0
returns-then-j1-j0 c =
    let args = c.args in
    let l = layout_of args.base args.pitch args.height 2 args.tiled in
    let m = args.memory.now in
    let n = length args.room.now in
    answers_refused _ _ _ _ (crossed_rows l args.test args.v args.first m args.i0 args.j0 args.i1 args.j1 n c.if-j1-j0.true)

pub survey_inside-requires : goal.survey_inside-requires
survey_inside-requires c =
    let args = c.args in
    let l = layout_of args.base args.pitch args.height 2 args.tiled in
    let m = args.memory.now in
    let n = length args.room.now in
    last_found l args.test args.v args.first m args.i0 args.j0 args.i1 args.j1 n c.if-i1-i0.false c.if-j1-j0.false _ _
    (sym c.translate.ensures ∙ ap told_translated c.in-At.is)

pub returns-in-Refused : goal.returns-in-Refused
returns-in-Refused c =
    let args = c.args in
    let l = layout_of args.base args.pitch args.height 2 args.tiled in
    let m = args.memory.now in
    let n = length args.room.now in
    answers_refused _ _ _ _
    (last_refused l args.test args.v args.first m args.i0 args.j0 args.i1 args.j1 n c.if-i1-i0.false c.if-j1-j0.false _
    (sym c.translate.ensures ∙ ap told_translated c.in-Refused.is))
