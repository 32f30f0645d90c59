-- `survey::rows::row` meets its contract: a tiled row, or one run. Assumes nothing.
use mathlib.Core.Path.{refl, ◌∙◌}
use Rattle.laws.proofs.Below.{sum_same}
use Rattle.conditions.proofs.Written.{written_same}
use Rattle.survey.proofs.Parts.{first_place, linear_asked, linear_bytes}
use Rattle.survey.proofs.rows.row.Goals as goal

pub tiled_row-requires : goal.tiled_row-requires
tiled_row-requires c =
    rw c.if-tiled.true at c.requires.0

pub place-at-requires : goal.place-at-requires
place-at-requires c =
    first_place _ _ _ _ _ _ _ _ _ (rw c.if-tiled.false at c.requires.0) c.requires.1

pub stretch-requires : goal.stretch-requires
stretch-requires c =
    linear_asked _ _ _ _ _ _ _ _ _ (rw c.if-tiled.false at c.requires.0) c.requires.1 _ _ c.place-at.ensures refl

pub returns-then-tiled : goal.returns-then-tiled
returns-then-tiled c =
    rw c.if-tiled.true c.tiled_row.ensures

pub returns-else-tiled : goal.returns-else-tiled
returns-else-tiled c =
    let args = c.args in
    let same = linear_bytes _ _ _ _ _ _ _ _ _ (rw c.if-tiled.false at c.requires.0) c.requires.1 args.low args.top args.outside args.memory.now _ c.place-at.ensures in
    rw c.if-tiled.false (record { count = c.stretch.ensures.count ∙ sum_same _ _ _ same; bytes = c.stretch.ensures.bytes ∙ written_same _ _ _ _ _ same })
