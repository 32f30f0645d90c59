-- `start::ready::renew` meets its contract. Assumes nothing.
use mathlib.Core.Path.{◌∙◌}
use Rattle.start.proofs.Readiness.{digit_from, gauge_told, renew_told}
use Rattle.start.proofs.ready.renew.Goals as goal

pub returns : goal.returns
returns c =
    let gauge =
    gauge_told c.args.shared.now c.args.own.now c.requires c.is_on.ensures c.is_on-2.ensures
    c.is_on-3.ensures c.is_on-4.ensures c.output_at-a.ensures
    c.output_at-b.ensures c.output_at-c.ensures c.output_at-d.ensures
    c.some_set.ensures (c.from-some.ensures ∙ digit_from _) c.columns.ensures c.rows.ensures
    c.each_apart.ensures (c.from-apart.ensures ∙ digit_from _) c.credit.ensures
    in
    renew_told c.args.shared.now c.args.own.now c.requires gauge _ c.set_gauge.ensures _
    c.settle.ensures
