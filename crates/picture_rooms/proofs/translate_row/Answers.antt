-- `picture_rooms::translate_row` meets its contract. Assumes nothing.
use mathlib.Core.Path.{sym, ap, ◌∙◌}
use native.Mathlib.Omega.{arith}
use Rattle.layout.specs.Layout.{told_judged}
use Rattle.refusal.proofs.Crossings.{crosses_refuses}
use Rattle.address.specs.Address.{layout_of}
use Rattle.address_rows.proofs.Asked.{stride_fits}
use Rattle.picture_rooms.proofs.Judging.{refused_so, taken_so}
use Rattle.picture_rooms.proofs.Entries.{row_outside, row_empty, asks, row_done}
use Rattle.picture_rooms.proofs.translate_row.Goals as goal

-- a pair is outside
pub returns-then-not-row_within : goal.returns-then-not-row_within
returns-then-not-row_within c =
    let args = c.args in
    let taken = taken_so (layout_of args.base args.pitch args.height args.size args.tiled) _ _
    (sym c.judge.ensures ∙ ap told_judged c.in-Accepted.is) in
    row_outside _ _ _ taken _ _ _ (sym c.row_within.ensures ∙ c.if-not-row_within.true)

pub overflow_mul-step : goal.overflow_mul-step
overflow_mul-step c =
    let args = c.args in
    let taken = taken_so (layout_of args.base args.pitch args.height args.size args.tiled) _ _
    (sym c.judge.ensures ∙ ap told_judged c.in-Accepted.is) in
    stride_fits _ taken.accepted _ taken.step_is

pub addresses-requires : goal.addresses-requires
addresses-requires c =
    let args = c.args in
    let taken = taken_so (layout_of args.base args.pitch args.height args.size args.tiled) _ _
    (sym c.judge.ensures ∙ ap told_judged c.in-Accepted.is) in
    asks _ _ _ taken _ _ args.addresses.now (sym c.row_within.ensures ∙ c.if-not-row_within.false) c.if-addresses-gt0.true

-- the layout is refused
pub returns-in-Refused : goal.returns-in-Refused
returns-in-Refused c =
    let args = c.args in
    crosses_refuses _ _ _ _ c.from.ensures
    (refused_so (layout_of args.base args.pitch args.height args.size args.tiled) _ _
    (sym c.judge.ensures ∙ ap told_judged c.in-Refused.is))

pub returns-then-addresses-gt0 : goal.returns-then-addresses-gt0
returns-then-addresses-gt0 c =
    let args = c.args in
    let taken = taken_so (layout_of args.base args.pitch args.height args.size args.tiled) _ _
    (sym c.judge.ensures ∙ ap told_judged c.in-Accepted.is) in
    row_done _ _ _ taken _ _ _ (sym c.row_within.ensures ∙ c.if-not-row_within.false) _ c.addresses.ensures

-- no places in the room
pub returns-else-addresses-gt0 : goal.returns-else-addresses-gt0
returns-else-addresses-gt0 c =
    let args = c.args in
    let taken = taken_so (layout_of args.base args.pitch args.height args.size args.tiled) _ _
    (sym c.judge.ensures ∙ ap told_judged c.in-Accepted.is) in
    row_empty _ _ _ taken _ _ _ (sym c.row_within.ensures ∙ c.if-not-row_within.false) (omega (arith, c.if-addresses-gt0.false))
