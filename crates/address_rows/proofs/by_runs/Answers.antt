-- `address_rows::by_runs` meets its contract: the rest of the first run, whole runs, and what is left. Assumes nothing.
use mathlib.Core.Path.{refl, sym, ◌∙◌}
use mathlib.Core.Bool.{true}
use Prim.Native.Nat.{◌/◌}
use native.Mathlib.Omega.{arith}
use Rattle.address_rows.specs.Rows.{element_at}
use Rattle.address_rows.proofs.Listed.{listed_all}
use Rattle.address_rows.proofs.Runs.{
  first_bytes,
  first_run,
  begins_first,
  last_run,
  long_row,
  long_run,
  long_begins,
  written_long,
  in_three,
  in_two,
}
use Rattle.address_rows.proofs.by_runs.Goals as goal

-- a row of no pairs
pub returns-then-count-eq0 : goal.returns-then-count-eq0
returns-then-count-eq0 c = listed_all _ 0 _ _ refl (omega arith) (omega (arith, c.if-count-eq0.true))

pub run_from-requires : goal.run_from-requires
run_from-requires c = (c.requires.0.size, first_bytes c.requires.0 (omega (arith, c.if-count-eq0.false)), c.requires.0.whole)

pub one_run-requires : goal.one_run-requires
one_run-requires c =
    let row = c.requires.0 in
    (row, first_run _ _ row (omega (arith, c.if-count-eq0.false)) c.run_from.ensures c.smaller-head.ensures)

pub whole_of-past-requires : goal.whole_of-past-requires
whole_of-past-requires c =
    let entry = c.requires in
    let few = c.smaller-head.ensures in
    let long = written_long _ _ _ _ _ (omega arith) few.1 c.one_run.ensures in
    (long_row long entry.0, entry.1, long_begins long (begins_first entry.0 _ _ c.run_from.ensures few))

-- the room is as long as before behind the whole runs
pub one_run-requires-then-past-count : goal.one_run-requires-then-past-count
one_run-requires-then-past-count c =
    let row = c.requires.0 in
    let next = c.whole_of-past.ensures.next in
    let first = written_long _ _ _ _ _ (omega arith) c.smaller-head.ensures.1 c.one_run.ensures in
    let long = written_long _ _ _ _ _ next.0 next.1.inside c.whole_of-past.ensures.bytes ∙ first in
    let last = last_run row _ (long_begins (sym first) next.1) (omega (arith, first, next.2)) (omega (arith, c.if-past-count.true)) in
    (long_row long row, long_run long last)

pub returns-then-past-count : goal.returns-then-past-count
returns-then-past-count c =
    let args = c.args in
    let next = c.whole_of-past.ensures.next in
    let first = written_long _ _ _ _ _ (omega arith) c.smaller-head.ensures.1 c.one_run.ensures in
    in_three (element_at args.base args.size true (args.stride / args.size) args.x args.y) _ _ args.room.now _ _ _ next.0
    (omega (arith, first, next.1.inside)) c.one_run.ensures c.whole_of-past.ensures.bytes c.one_run-then-past-count.ensures

pub returns-else-past-count : goal.returns-else-past-count
returns-else-past-count c =
    let args = c.args in
    let next = c.whole_of-past.ensures.next in
    let first = written_long _ _ _ _ _ (omega arith) c.smaller-head.ensures.1 c.one_run.ensures in
    in_two (element_at args.base args.size true (args.stride / args.size) args.x args.y) _ _ args.room.now _ _ next.0
    (omega (arith, first, next.1.inside, c.if-past-count.false)) c.one_run.ensures c.whole_of-past.ensures.bytes
