-- `accept::take_test` meets its contract. Assumes nothing.
use mathlib.Core.Path.{refl}
use Rattle.accept.proofs.WholeCommands.{test_tried, test_below, test_past, test_owner, unowned}
use Rattle.accept.proofs.take_test.Reads as reads
use Rattle.accept.proofs.take_test.Lts as lts
use Rattle.owners.proofs.is_on.Reads as is_on_reads
use Rattle.state.proofs.own.count_words.Reads as count_words_reads
use Rattle.accept.proofs.take_test.Goals as goal

pub returns-then-is_on : goal.returns-then-is_on
returns-then-is_on c =
    test_tried _ _ _ c.count_words.ensures _ _ _ (test_below c.if-test-lt8.true)
    (test_owner c.args.own.now _ c.is_on.ensures c.if-is_on.true) refl

pub returns-else-is_on : goal.returns-else-is_on
returns-else-is_on c = λ t rest z. unowned (test_owner c.args.own.now _ c.is_on.ensures c.if-is_on.false)

pub returns-else-test-lt8 : goal.returns-else-test-lt8
returns-else-test-lt8 c = λ t rest z. test_past c.if-test-lt8.false
