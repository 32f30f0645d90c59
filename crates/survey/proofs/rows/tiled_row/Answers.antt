-- `survey::rows::tiled_row` meets its contract: three parts, one after the other. Assumes nothing.
use mathlib.Core.Path.{refl, ap, ◌∙◌}
use mathlib.Core.Bool.{true}
use Prim.Native.Nat.{◌+◌, ◌-◌, ◌*◌, ◌/◌, ◌≤◌}
use native.Mathlib.Omega.{arith}
use lib.ListN.{length}
use Rattle.conditions.proofs.Written.{length_written}
use Rattle.survey.proofs.Numbers.{row_part, row_few}
use Rattle.survey.proofs.Parts.{row_front, parts_counted, parts_written}
use Rattle.survey.proofs.rows.tiled_row.Goals as goal

pub singles-before-requires : goal.singles-before-requires
singles-before-requires c =
    row_front _ _ _ _ _ _ _ _ _ _ _ c.requires c.smaller-lead.ensures.1

pub groups-middle-requires : goal.groups-middle-requires
groups-middle-requires c =
    let args = c.args in
    let lead = c.smaller-lead.result in
    let few = c.smaller-lead.ensures.1 in (
      row_part _ _ _ _ _ _ _ _ _ _ c.requires lead _ _ (omega (arith, few)) (ap length c.singles-before.ensures.bytes ∙ length_written _ _ _ _),
      λ some. omega (arith, c.smaller-lead.ensures.2 (omega (arith, some, few)), some, few),
    )

pub singles-after-requires : goal.singles-after-requires
singles-after-requires c =
    let lead = c.smaller-lead.result in
    let few = c.smaller-lead.ensures.1 in
    row_part _ _ _ _ _ _ _ _ _ _ c.requires (lead + 4 * ((c.args.count - lead) / 4)) _ _ (omega (arith, few))
    (ap length c.groups-middle.ensures.bytes ∙ length_written _ _ _ _ ∙ ap length c.singles-before.ensures.bytes ∙ length_written _ _ _ _)

pub overflow_add-result : goal.overflow_add-result
overflow_add-result c =
    let args = c.args in
    let lead = c.smaller-lead.result in
    let past = lead + 4 * ((args.count - lead) / 4) in
    let most : past ≤ args.count = omega (arith, c.smaller-lead.ensures.1) in
    let counts = parts_counted args.low args.top args.outside args.memory.now args.base true (args.stride / 2) args.first
    args.x args.y lead (4 * ((args.count - lead) / 4)) past args.count refl most _ _ _ c.singles-before.ensures.count c.groups-middle.ensures.count
    c.singles-after.ensures.count in
    let few = row_few args.low args.top args.outside args.memory.now args.base true (args.stride / 2) args.first args.x args.y past in
    omega (arith, counts.0, few, most, c.requires.columns, c.requires.stride_is.step)

pub overflow_add-result-2 : goal.overflow_add-result-2
overflow_add-result-2 c =
    let args = c.args in
    let lead = c.smaller-lead.result in
    let past = lead + 4 * ((args.count - lead) / 4) in
    let most : past ≤ args.count = omega (arith, c.smaller-lead.ensures.1) in
    let counts = parts_counted args.low args.top args.outside args.memory.now args.base true (args.stride / 2) args.first
    args.x args.y lead (4 * ((args.count - lead) / 4)) past args.count refl most _ _ _ c.singles-before.ensures.count c.groups-middle.ensures.count
    c.singles-after.ensures.count in
    let few = row_few args.low args.top args.outside args.memory.now args.base true (args.stride / 2) args.first args.x args.y args.count in
    omega (arith, counts.1, few, c.requires.columns, c.requires.stride_is.step)

pub returns : goal.returns
returns c =
    let args = c.args in
    let lead = c.smaller-lead.result in
    let past = lead + 4 * ((args.count - lead) / 4) in
    let most : past ≤ args.count = omega (arith, c.smaller-lead.ensures.1) in record {
      count = (parts_counted args.low args.top args.outside args.memory.now args.base true (args.stride / 2) args.first
          args.x args.y lead (4 * ((args.count - lead) / 4)) past args.count refl most _ _ _ c.singles-before.ensures.count
          c.groups-middle.ensures.count c.singles-after.ensures.count).1;
      bytes = parts_written args.low args.top args.outside args.memory.now args.base true (args.stride / 2) args.first
          args.x args.y lead (4 * ((args.count - lead) / 4)) past args.count refl most _ _ _ _ _ _ _ c.singles-before.ensures.bytes refl
          c.groups-middle.ensures.bytes refl c.singles-after.ensures.bytes;
    }
