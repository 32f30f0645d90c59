-- `conditional::survey_inside` meets its contract: a law for each return. Assumes nothing.
use mathlib.Core.Path.{sym, ap, ◌∙◌}
use native.Mathlib.Omega.{arith}
use lib.ListN.{length}
use Rattle.layout.specs.Layout.{told_judged}
use Rattle.address.specs.Address.{layout_of}
use Rattle.conditional.proofs.Surveys.{answers_refused, wrong_room, product, pairs_few}
use Rattle.conditional.proofs.Rows.{judged_so, not_refused}
use Rattle.conditional.proofs.survey_inside.Goals as goal

pub overflow_mul-rows : goal.overflow_mul-rows
overflow_mul-rows c =
    let args = c.args in
    let l = layout_of args.base args.pitch args.height 2 args.tiled in
    let m = args.memory.now in
    let n = length args.room.now in
    let asked = c.requires in
    omega (arith, product l args.test args.v args.first m args.i0 args.j0 args.i1 args.j1 n asked, pairs_few _ _ _ _ _ asked)

pub returns-then-count-rows : goal.returns-then-count-rows
returns-then-count-rows c =
    let args = c.args in
    let l = layout_of args.base args.pitch args.height 2 args.tiled in
    let m = args.memory.now in
    let n = length args.room.now in
    let asked = c.requires in
    let as_many = product l args.test args.v args.first m args.i0 args.j0 args.i1 args.j1 n asked in
    answers_refused _ _ _ _ (wrong_room l args.test args.v args.first m args.i0 args.j0 args.i1 args.j1 n asked (λ e. c.if-count-rows.true (e ∙ sym as_many)))

pub survey_judged-requires : goal.survey_judged-requires
survey_judged-requires c =
    let args = c.args in
    let asked = c.requires in
    let l = layout_of args.base args.pitch args.height 2 args.tiled in
    let m = args.memory.now in
    let n = length args.room.now in
    let told = sym (ap told_judged c.in-Accepted.is) ∙ c.judge.ensures in
    let is = judged_so args.base args.pitch args.height args.tiled asked.accepted _ _ told in
    record {
      domain = asked;
      step_is = is.0;
      span_is = is.1;
      long = c.if-count-rows.false ∙ product l args.test args.v args.first m args.i0 args.j0 args.i1 args.j1 n asked;
    }

-- a layout that is accepted isn't refused
pub returns-in-Refused : goal.returns-in-Refused
returns-in-Refused c =
    let args = c.args in
    absurd
    (not_refused args.base args.pitch args.height args.tiled c.requires.accepted _
    (sym (ap told_judged c.in-Refused.is) ∙ c.judge.ensures))
