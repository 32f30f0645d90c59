-- `address_rows::by_places` meets its contract: the table is lent to every run; before a run is written, all columns before it have their addresses. Assumes nothing.
use mathlib.Core.Path.{◌≡◌, refl, sym, ap, ◌∙◌}
use mathlib.Core.Bool.{true}
use Prim.Native.Nat.{ℕ, ◌/◌}
use native.Mathlib.Omega.{arith}
use lib.ListN.{length}
use Rattle.address_rows.specs.Rows.{element_at, written}
use Rattle.address_rows.proofs.Runs.{
  column_bytes,
  pair_asked,
  run_rest,
  at_fits,
  fill_asked,
  put_in,
  written_none,
  written_next,
  written_long,
  written_all,
}
use Rattle.address_rows.proofs.by_places.Goals as goal

pub loop-i-init : goal.loop-i-init
loop-i-init c =
    let args = c.args in
    (omega arith, refl, sym (written_none (element_at args.base 1 true (args.stride / 1) args.x args.y) 0 args.room.now (omega arith)))

pub overflow_cast-column : goal.overflow_cast-column
overflow_cast-column c =
    omega (arith, c.loop-i-test.true, c.requires.columns, c.requires.step)

pub overflow_add-column : goal.overflow_add-column
overflow_add-column c =
    omega (arith, c.loop-i-test.true, c.requires.columns, c.requires.step)

pub run_from-requires : goal.run_from-requires
run_from-requires c =
    (c.requires.size, column_bytes c.requires _ c.loop-i-test.true, c.requires.whole)

pub overflow_sub-count : goal.overflow_sub-count
overflow_sub-count c = omega (arith, c.loop-i-test.true)

pub byte_offset-requires : goal.byte_offset-requires
byte_offset-requires c =
    (c.table-table.ensures, pair_asked c.requires _ c.loop-i-test.true, c.requires.whole)

pub overflow_add-at : goal.overflow_add-at
overflow_add-at c =
    let run = run_rest _ _ _ c.requires c.loop-i-test.true c.run_from.ensures c.smaller-many.ensures refl in
    omega (arith, at_fits c.requires run _ c.byte_offset.ensures)

pub overflow_add-i : goal.overflow_add-i
overflow_add-i c =
    let run = run_rest _ _ _ c.requires c.loop-i-test.true c.run_from.ensures c.smaller-many.ensures refl in
    omega (
      arith,
      run.inside,
      c.requires.columns,
      c.requires.step,
    )

pub offset_bounds-room-i : goal.offset_bounds-room-i
offset_bounds-room-i c =
    omega (arith, c.loop-i-test.true, c.requires.columns, c.requires.step)

pub slice_bounds-fill-count : goal.slice_bounds-fill-count
slice_bounds-fill-count c = omega arith

pub slice_bounds-fill-start : goal.slice_bounds-fill-start
slice_bounds-fill-start c = omega arith

pub slice_bounds-fill-end : goal.slice_bounds-fill-end
slice_bounds-fill-end c =
    let run = run_rest _ _ _ c.requires c.loop-i-test.true c.run_from.ensures c.smaller-many.ensures refl in
    omega
    (arith, run.inside, c.loop-i.invariant.1)

pub fill-requires : goal.fill-requires
fill-requires c =
    let run = run_rest _ _ _ c.requires c.loop-i-test.true c.run_from.ensures c.smaller-many.ensures refl in
    fill_asked c.requires run _ c.byte_offset.ensures _ c.loop-i.invariant.1

pub overflow_add-i-in-loop-i : goal.overflow_add-i-in-loop-i
overflow_add-i-in-loop-i c =
    let run = run_rest _ _ _ c.requires c.loop-i-test.true c.run_from.ensures c.smaller-many.ensures refl in
    omega (
      arith,
      run.inside,
      c.requires.columns,
      c.requires.step,
    )

pub loop-i-smaller : goal.loop-i-smaller
loop-i-smaller c =
    let run = run_rest _ _ _ c.requires c.loop-i-test.true c.run_from.ensures c.smaller-many.ensures refl in
    omega
    (arith, run.some, c.loop-i-test.true)

pub loop-i-preserved : goal.loop-i-preserved
loop-i-preserved c =
    let run = run_rest _ _ _ c.requires c.loop-i-test.true c.run_from.ensures c.smaller-many.ensures refl in
    let inv = c.loop-i.invariant in
    let one = put_in c.requires run _ c.byte_offset.ensures _ _ inv.1 c.fill.ensures in (
      omega (arith, run.inside),
      written_long _ _ _ _ _ (omega arith) (omega (arith, run.inside, inv.1)) one ∙ inv.1,
      written_next _ _ _ _ _ _ _ (omega arith) (omega arith) (omega arith) inv.2 one,
    )

pub shape_of-room : goal.shape_of-room
shape_of-room c = c.loop-i.invariant.1

pub returns : goal.returns
returns c =
    let args = c.args in
    let inv = c.loop-i.invariant in
    let all : c.loop-i.i ≡ length args.room.now = omega (arith, inv.0, c.loop-i-test.false) in
    let f = element_at args.base 1 true (args.stride / 1) args.x args.y in
    written_all f args.room.now _ (inv.2 ∙ ap (λ (n : ℕ). written f 0 n args.room.now) all)
