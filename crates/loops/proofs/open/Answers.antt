-- `loops::open` meets its contract: an allowed word enters, another gets 13. Assumes nothing.
use mathlib.Core.Path.{sym, ap, ◌∙◌}
use native.Mathlib.Omega.{arith}
use Rattle.loops.specs.Loops.{loops_by, turned}
use Rattle.loops.proofs.Stack.{word_bad, word_good}
use Rattle.loops.proofs.open.Goals as goal

-- the word is allowed
pub returns-then-word-lt-LOOPING : goal.returns-then-word-lt-LOOPING
returns-then-word-lt-LOOPING c =
    let ls = loops_by c.args.loops in
    c.enter.ensures ∙
    sym (ap turned (word_good c.args.looping c.args.word ls c.if-word-lt-LOOPING.true))

-- it isn't
pub returns : goal.returns
returns c =
    let ls = loops_by c.args.loops in
    sym
    (ap turned
    (word_bad c.args.looping c.args.word ls c.if-word-lt-LOOPING.false (omega arith)))
