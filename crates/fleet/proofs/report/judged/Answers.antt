-- `fleet::report::judged` meets its contract: 3 for the edition first, then 11 for the lengths. Assumes nothing.
use mathlib.Core.Path.{sym, ◌∙◌}
use Rattle.fleet.proofs.Judging.{edition_refused, not_in_fours, room_not_four, not_the_slice, counted_asked, then_counted}
use Rattle.fleet.proofs.report.counted.Reads as counted_reads
use Rattle.fleet.proofs.lengths.add_up.Reads as add_up_reads
use Rattle.state.proofs.edition.is_known.Reads as is_known_reads
use Rattle.fleet.proofs.report.judged.Goals as goal
use Rattle.fleet.proofs.report.judged.Goals.{then-numbers-ne0-via-then-numbers-ne0, then-numbers-ne0-via-else-numbers-ne0+then-room-ne-ROOM}

pub returns-then-not-is_known : goal.returns-then-not-is_known
returns-then-not-is_known c = edition_refused _ _ _ _ (sym c.is_known.ensures ∙ c.if-not-is_known.true) c.from.ensures

pub returns-then-numbers-ne0 : goal.returns-then-numbers-ne0
returns-then-numbers-ne0 c =
    let known = sym c.is_known.ensures ∙ c.if-not-is_known.false in
    let by = c.from-then-numbers-ne0.ensures in
    elim c.then-numbers-ne0.branch [
      | then-numbers-ne0-via-then-numbers-ne0 w ↦ not_in_fours _ _ _ _ known w.if-numbers-ne0.true by
      | then-numbers-ne0-via-else-numbers-ne0+then-room-ne-ROOM w ↦ room_not_four _ _ _ _ known w.if-room-ne-ROOM.true by
    ]

pub returns-then-not-add_up : goal.returns-then-not-add_up
returns-then-not-add_up c =
    not_the_slice _ _ _ _ (sym c.is_known.ensures ∙ c.if-not-is_known.false) (sym c.add_up.ensures ∙ c.if-not-add_up.true)
    c.from-then-not-add_up.ensures

pub counted-requires : goal.counted-requires
counted-requires c =
    counted_asked _ _ _ (sym c.is_known.ensures ∙ c.if-not-is_known.false) c.if-numbers-ne0.false (sym c.add_up.ensures ∙ c.if-not-add_up.false)

pub returns : goal.returns
returns c =
    -- the lengths are right
    then_counted _ _ _ _ (sym c.is_known.ensures ∙ c.if-not-is_known.false) c.if-numbers-ne0.false c.if-room-ne-ROOM.false
    (sym c.add_up.ensures ∙ c.if-not-add_up.false) c.counted.ensures
