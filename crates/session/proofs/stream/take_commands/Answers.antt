-- `session::stream::take_commands` meets its contract: each turn takes a whole command. Assumes nothing.
use native.Mathlib.Omega.{arith}
use lib.ListN.{length-drop}
use Rattle.state.specs.Cells.{party_of}
use Rattle.session.proofs.Feeding.{fold_begins, fold_whole, fold_same, fold_reach, reach_as, reach_ready, begun_there, begun_most}
use Rattle.session.proofs.stream.take_commands.Goals as goal

pub overflow_sub-left : goal.overflow_sub-left
overflow_sub-left c = omega (arith, c.requires.1)

pub reach-room-requires : goal.reach-room-requires
reach-room-requires c =
    unfold party_of in c.requires.0.valid.full

pub returns-then-left-lt-MOST_WORDS : goal.returns-then-left-lt-MOST_WORDS
returns-then-left-lt-MOST_WORDS c = fold_begins _ _ _ _ c.requires.0

pub loop-taken-init : goal.loop-taken-init
loop-taken-init c =
    (fold_begins _ _ _ _ c.requires.0, (reach_as _ _ _ (omega arith) c.reach-room.ensures.1, omega arith))

pub overflow_sub-room : goal.overflow_sub-room
overflow_sub-room c = omega (arith, c.loop-taken.invariant.1.1)

pub overflow_add-at : goal.overflow_add-at
overflow_add-at c =
    omega (arith, c.loop-taken-test.true, c.reach-room.ensures.0, c.requires.1)

pub take-whole-requires : goal.take-whole-requires
take-whole-requires c = (
  reach_ready _ _ _ _ c.loop-taken.invariant.0.given c.loop-taken.invariant.1.0 c.loop-taken-test.true,
  omega (arith, c.loop-taken-test.true, c.reach-room.ensures.0, c.requires.1),
)

pub returns-then-whole-lt1 : goal.returns-then-whole-lt1
returns-then-whole-lt1 c =
    let args = c.args in
    fold_same _ _ _ _ _ _ _ c.loop-taken.invariant.0 _ _ _ _ (omega (arith, c.if-whole-lt1.true))
    (begun_there args.words.now _ _ _ args.from c.loop-taken.taken _ _ _ _ c.take-whole.ensures)

pub overflow_add-commands : goal.overflow_add-commands
overflow_add-commands c =
    omega (arith, c.loop-taken.invariant.0.fewer, c.loop-taken.invariant.1.1, c.reach-room.ensures.0, c.requires.1)

pub overflow_add-taken : goal.overflow_add-taken
overflow_add-taken c =
    omega (arith, begun_most _ _ _ _ _ _ _ _ c.take-whole.ensures, c.loop-taken-test.true, c.reach-room.ensures.0)

pub loop-taken-smaller : goal.loop-taken-smaller
loop-taken-smaller c =
    omega (arith, begun_most _ _ _ _ _ _ _ _ c.take-whole.ensures, c.loop-taken-test.true, c.if-whole-lt1.false)

pub loop-taken-preserved : goal.loop-taken-preserved
loop-taken-preserved c =
    let inv = c.loop-taken.invariant in
    let five = c.loop-taken-test.true in
    let ready = reach_ready _ _ _ _ inv.0.given inv.1.0 five in
    let taken = c.take-whole.ensures in
    let args = c.args in
    let here = begun_there args.words.now _ _ _ args.from c.loop-taken.taken _ _ _ _ taken in
    let less = length-drop args.from args.words.now in (
      fold_whole _ _ _ _ _ _ _ inv.0 _ _ _ _ ready (omega (arith, five, c.reach-room.ensures.0, less)) (omega (arith, c.if-whole-lt1.false)) here,
      (
        reach_as _ _ _ (omega arith) (fold_reach _ _ _ _ _ _ _ inv.0 _ _ _ _ ready (omega (arith, c.if-whole-lt1.false)) _ inv.1.0 five here),
        omega (arith, begun_most _ _ _ _ _ _ _ _ taken, five),
      ),
    )

pub returns : goal.returns
returns c = c.loop-taken.invariant.0
