-- `session::stream::feed` meets its contract: each turn takes the commands that lie whole, and one word. Assumes nothing.
use native.Mathlib.Omega.{arith}
use Rattle.session.proofs.Feeding.{fold_begins, fold_joined, fold_refused, fold_open, fold_completed, fold_ends}
use Rattle.session.proofs.stream.feed.Goals as goal

pub loop-i-init : goal.loop-i-init
loop-i-init c =
    let args = c.args in
    fold_begins args.words.now args.own.now args.tallies.now args.shared.now c.requires

pub take_commands-whole-requires : goal.take_commands-whole-requires
take_commands-whole-requires c =
    (c.loop-i.invariant.given, c.loop-i.invariant.within)

pub overflow_add-commands : goal.overflow_add-commands
overflow_add-commands c =
    let joined = fold_joined _ _ _ _ _ _ _ c.loop-i.invariant _ _ _ _ _ c.take_commands-whole.ensures in
    omega (arith, joined.fewer, joined.within)

pub overflow_add-i : goal.overflow_add-i
overflow_add-i c =
    omega (arith, (fold_joined _ _ _ _ _ _ _ c.loop-i.invariant _ _ _ _ _ c.take_commands-whole.ensures).within)

pub overflow_add-next : goal.overflow_add-next
overflow_add-next c = omega (arith, c.if-words-i.false)

pub bounds-words-i : goal.bounds-words-i
bounds-words-i c = omega (arith, c.if-words-i.false)

pub step-requires : goal.step-requires
step-requires c =
    (fold_joined _ _ _ _ _ _ _ c.loop-i.invariant _ _ _ _ _ c.take_commands-whole.ensures).given

pub overflow_add-commands-in-Ok-Whole : goal.overflow_add-commands-in-Ok-Whole
overflow_add-commands-in-Ok-Whole c =
    let joined = fold_joined _ _ _ _ _ _ _ c.loop-i.invariant _ _ _ _ _ c.take_commands-whole.ensures in
    omega (arith, joined.fewer, c.if-words-i.false)

pub loop-i-preserved-in-Ok-Open : goal.loop-i-preserved-in-Ok-Open
loop-i-preserved-in-Ok-Open c =
    let joined = fold_joined _ _ _ _ _ _ _ c.loop-i.invariant _ _ _ _ _ c.take_commands-whole.ensures in
    fold_open _ _ _ _ _ _ _ joined c.if-words-i.false _ _ _ c.in-Ok-Open.field-0-is c.in-Ok-Open.ensures

pub loop-i-preserved : goal.loop-i-preserved
loop-i-preserved c =
    let joined = fold_joined _ _ _ _ _ _ _ c.loop-i.invariant _ _ _ _ _ c.take_commands-whole.ensures in
    fold_completed _ _ _ _ _ _ _ joined c.if-words-i.false _ _ _ c.in-Ok-Whole.field-0-is c.in-Ok-Whole.ensures

pub returns-in-Err : goal.returns-in-Err
returns-in-Err c =
    let joined = fold_joined _ _ _ _ _ _ _ c.loop-i.invariant _ _ _ _ _ c.take_commands-whole.ensures in
    fold_refused _ _ _ _ _ _ _ joined c.if-words-i.false _ _ _ _ c.in-Err.ensures

pub returns-after-loop-i : goal.returns-after-loop-i
returns-after-loop-i c = fold_ends _ _ _ _ _ _ _ c.loop-i.invariant c.loop-i-test.false

pub returns-then-words-i : goal.returns-then-words-i
returns-then-words-i c =
    fold_ends _ _ _ _ _ _ _ (fold_joined _ _ _ _ _ _ _ c.loop-i.invariant _ _ _ _ _ c.take_commands-whole.ensures) c.if-words-i.true
