-- `log::stream::feed` meets its contract. Assumes nothing.
use Rattle.station_log.proofs.Feeding.{fold_begins, fold_ends, fold_refused, fold_goes, fold_records, fold_same, asked}
use borrow.Author.Rules.{rules}
use native.Mathlib.Omega.{arith}
use mathlib.Core.Path.{refl, sym}
use Rattle.station_log.proofs.stream.feed.Goals as goal

pub loop-i-init : goal.loop-i-init
loop-i-init c = (fold_begins _ _ _ _ _ _ c.requires, search rules)

pub slice_bounds-take_records-end : goal.slice_bounds-take_records-end
slice_bounds-take_records-end c = sym c.loop-i.invariant.1

pub take_records-records-requires : goal.take_records-records-requires
take_records-records-requires c =
    let loop = c.loop-i in
    (asked _ _ _ _ _ _ _ _ loop.invariant.0, (loop.invariant.0.within, loop.invariant.1))

pub overflow_mul-i : goal.overflow_mul-i
overflow_mul-i c =
    omega
    (arith, (fold_records _ _ _ _ _ _ _ _ c.loop-i.invariant.0 _ _ _ _ _ c.if-records-gt0.true c.take_records-records.ensures.read).within)

pub overflow_add-i : goal.overflow_add-i
overflow_add-i c =
    omega
    (arith, (fold_records _ _ _ _ _ _ _ _ c.loop-i.invariant.0 _ _ _ _ _ c.if-records-gt0.true c.take_records-records.ensures.read).within)

pub loop-i-smaller-then-records-gt0 : goal.loop-i-smaller-then-records-gt0
loop-i-smaller-then-records-gt0 c =
    omega (arith, c.if-records-gt0.true, c.loop-i-test.true)

pub loop-i-preserved-then-records-gt0 : goal.loop-i-preserved-then-records-gt0
loop-i-preserved-then-records-gt0 c =
    let loop = c.loop-i in
    let records = c.take_records-records.ensures in
    (fold_records _ _ _ _ _ _ _ _ loop.invariant.0 _ _ _ _ _ c.if-records-gt0.true records.read, records.room)

pub read_byte-requires : goal.read_byte-requires
read_byte-requires c =
    let same = fold_same _ _ _ _ _ _ _ _ c.loop-i.invariant.0 _ _ _ _ _ c.if-records-gt0.false c.take_records-records.ensures.read in
    (same.given, omega arith)

pub loop-i-preserved : goal.loop-i-preserved
loop-i-preserved c =
    let loop = c.loop-i in
    let records = c.take_records-records.ensures in
    let same = fold_same _ _ _ _ _ _ _ _ loop.invariant.0 _ _ _ _ _ c.if-records-gt0.false records.read in (
      fold_goes _ _ _ _ _ _ _ _ same c.loop-i-test.true _ _ _ _ _ _ _ _ c.from.ensures (omega arith) c.in-Ok.is
          c.read_byte.ensures,
      records.room,
    )

pub returns : goal.returns
returns c = fold_ends _ _ _ _ _ _ _ _ c.loop-i.invariant.0 c.loop-i-test.false _ refl

pub returns-in-Err : goal.returns-in-Err
returns-in-Err c =
    let same = fold_same _ _ _ _ _ _ _ _ c.loop-i.invariant.0 _ _ _ _ _ c.if-records-gt0.false c.take_records-records.ensures.read in
    fold_refused _ _ _ _ _ _ _ _ same c.loop-i-test.true _ _ _ _ _ _ _ _ c.from.ensures (omega arith) c.in-Err.is
    c.read_byte.ensures
