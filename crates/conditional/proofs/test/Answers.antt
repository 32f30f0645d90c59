-- `conditional::test` meets its contract: the settings first, then the pair. Assumes nothing.
use mathlib.Core.Path.{sym}
use borrow.Author.Tests.{not-true, not-false}
use Rattle.conditional.proofs.Entries.{buffer_unset, test_unset, other_format, ready, tested_so}
use Rattle.conditional.specs.Conditional.{test_of}
use Rattle.conditional.proofs.test.Goals as goal

pub returns-then-not-buffer : goal.returns-then-not-buffer
unfolding test_of
returns-then-not-buffer c =
    sym (buffer_unset _ _ c.conditional-buffer.ensures _ (not-true _ c.if-not-buffer.true))

pub returns-then-not-has_test : goal.returns-then-not-has_test
unfolding test_of
returns-then-not-has_test c =
    sym
    (test_unset _ _ c.conditional-buffer.ensures _ _ c.has_test.ensures c.if-not-has_test.true)

pub returns-then-code-ne-UINT16_1 : goal.returns-then-code-ne-UINT16_1
unfolding test_of
returns-then-code-ne-UINT16_1 c =
    let same = c.conditional-buffer.ensures in
    let set = not-false _ c.if-not-buffer.false in
    let tests = c.if-not-has_test.false in
    sym (other_format _ _ same _ c.has_test.ensures set tests _ c.code.ensures _ c.if-code-ne-UINT16_1.true)

pub returns : goal.returns
returns c =
    let same = c.conditional-buffer.ensures in
    let set = not-false _ c.if-not-buffer.false in
    let tests = c.if-not-has_test.false in
    tested_so _ _ same _ _ _ c.pitch.ensures c.tiled.ensures c.test.ensures _ _ _ _
    c.args.memory.now _ (λ t. ready _ _ same _ c.has_test.ensures set tests _ c.code.ensures t c.if-code-ne-UINT16_1.false) c.pair_of.ensures
