-- `address_rows::one_run` meets its contract: the run's elements follow each other. Assumes nothing.
use mathlib.Core.Path.{refl}
use native.Mathlib.Omega.{arith}
use Rattle.address_rows.proofs.Runs.{pair_asked, at_fits, fill_asked, put_in}
use Rattle.address_rows.proofs.one_run.Goals as goal

pub offset-requires : goal.offset-requires
offset-requires c =
    let entry = c.requires in
    (pair_asked entry.0 _ (omega (arith, entry.1.some, entry.1.inside)), entry.0.whole)

pub overflow_add-at : goal.overflow_add-at
overflow_add-at c = omega (arith, at_fits c.requires.0 c.requires.1 _ c.offset.ensures)

pub fill-requires : goal.fill-requires
fill-requires c =
    let entry = c.requires in
    let offset = c.offset in
    fill_asked entry.0 entry.1 _ offset.ensures _ refl

pub returns : goal.returns
returns c =
    let entry = c.requires in
    let offset = c.offset in
    let fill = c.fill in
    put_in entry.0 entry.1 _ offset.ensures _ _ refl fill.ensures
