-- `address_rows::linear` meets its contract: a linear row is one run. Assumes nothing.
use mathlib.Core.Path.{refl}
use mathlib.Core.Bool.{false}
use Prim.Native.Nat.{◌/◌}
use native.Mathlib.Omega.{arith}
use Rattle.layout.proofs.Sizes.{sixteen}
use Rattle.address_rows.specs.Rows.{element_at}
use Rattle.address_rows.proofs.Listed.{listed_all}
use Rattle.address_rows.proofs.Runs.{row_arm, linear_run, written_all}
use Rattle.address_rows.proofs.linear.Goals as goal

-- a row of no pairs
pub returns-then-count-eq0 : goal.returns-then-count-eq0
returns-then-count-eq0 c = listed_all _ 0 _ _ refl (omega arith) (omega (arith, c.if-count-eq0.true))

pub one_run-requires : goal.one_run-requires
one_run-requires c =
    let entry = c.requires in
    let if1 = c.if-count-eq0 in
    let match = c.in-1 in
    let row = row_arm match.is entry in (row, linear_run row (omega (arith, if1.false)))

pub one_run-requires-in-2 : goal.one_run-requires-in-2
one_run-requires-in-2 c =
    let entry = c.requires in
    let if1 = c.if-count-eq0 in
    let match = c.in-2 in
    let row = row_arm match.is entry in (row, linear_run row (omega (arith, if1.false)))

pub one_run-requires-in-4 : goal.one_run-requires-in-4
one_run-requires-in-4 c =
    let entry = c.requires in
    let if1 = c.if-count-eq0 in
    let match = c.in-4 in
    let row = row_arm match.is entry in (row, linear_run row (omega (arith, if1.false)))

pub one_run-requires-in-8 : goal.one_run-requires-in-8
one_run-requires-in-8 c =
    let entry = c.requires in
    let if1 = c.if-count-eq0 in
    let match = c.in-8 in
    let row = row_arm match.is entry in (row, linear_run row (omega (arith, if1.false)))

pub one_run-requires-in_default : goal.one_run-requires-in_default
one_run-requires-in_default c =
    let other = c.in_default.in_default-own.rest in
    let is = sixteen _ c.requires.size other.0.0.0.1 other.0.0.1 other.0.1 other.1 in
    let row = row_arm is c.requires in (row, linear_run row (omega (arith, c.if-count-eq0.false)))

pub returns-in-1 : goal.returns-in-1
returns-in-1 c =
    let args = c.args in
    rw c.in-1.is
    (written_all (element_at args.base 1 false (args.stride / 1) args.x args.y) args.room.now _ c.one_run.ensures)

pub returns-in-2 : goal.returns-in-2
returns-in-2 c =
    let args = c.args in
    rw c.in-2.is
    (written_all (element_at args.base 2 false (args.stride / 2) args.x args.y) args.room.now _ c.one_run-in-2.ensures)

pub returns-in-4 : goal.returns-in-4
returns-in-4 c =
    let args = c.args in
    rw c.in-4.is
    (written_all (element_at args.base 4 false (args.stride / 4) args.x args.y) args.room.now _ c.one_run-in-4.ensures)

pub returns-in-8 : goal.returns-in-8
returns-in-8 c =
    let args = c.args in
    rw c.in-8.is
    (written_all (element_at args.base 8 false (args.stride / 8) args.x args.y) args.room.now _ c.one_run-in-8.ensures)

pub returns-in_default : goal.returns-in_default
returns-in_default c =
    let args = c.args in
    let other = c.in_default.in_default-own.rest in
    let is = sixteen _ c.requires.size other.0.0.0.1 other.0.0.1 other.0.1 other.1 in
    rw is
    (written_all (element_at args.base 16 false (args.stride / 16) args.x args.y) args.room.now _ c.one_run-in_default.ensures)
