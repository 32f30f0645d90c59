-- `flow::load` meets its contract. Loop: the first slots hold the words read so far, the others are plain. Assumes nothing.
use native.Mathlib.Omega.{arith}
use Rattle.flow.specs.Store.{first_words, second_words, plain_first, plain_second}
use Rattle.flow.proofs.Loading.{partly_none, firsts_turn, seconds_turn, load_odd, load_none, load_many, load_done}
use Rattle.flow.proofs.load.Goals as goal

pub returns-then-words-ne0 : goal.returns-then-words-ne0
returns-then-words-ne0 c =
    load_odd c.args.words.now c.args.firsts.now c.args.seconds.now c.if-words-ne0.true

pub returns-then-n-lt1 : goal.returns-then-n-lt1
returns-then-n-lt1 c =
    load_none c.args.words.now c.args.firsts.now c.args.seconds.now c.if-n-lt1.true

pub returns-then-n-gt-SLOTS : goal.returns-then-n-gt-SLOTS
returns-then-n-gt-SLOTS c =
    load_many c.args.words.now c.args.firsts.now c.args.seconds.now c.if-n-gt-SLOTS.true

pub loop-k-init : goal.loop-k-init
loop-k-init c =
    (partly_none plain_first (first_words c.args.words.now), partly_none plain_second (second_words c.args.words.now))

pub loop-k-preserved : goal.loop-k-preserved
loop-k-preserved c = (
  firsts_turn c.args.words.now c.loop-k.k (omega arith) (omega arith) c.loop-k.invariant.0,
  seconds_turn c.args.words.now c.loop-k.k (omega arith) (omega arith) c.loop-k.invariant.1,
)

pub returns : goal.returns
returns c =
    load_done c.args.words.now c.args.firsts.now c.args.seconds.now c.loop-k.k c.if-words-ne0.false
    c.if-n-lt1.false c.if-n-gt-SLOTS.false (omega arith) c.loop-k.invariant.0 c.loop-k.invariant.1
