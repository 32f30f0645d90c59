-- `conditional::survey` meets its contract: the settings first, then the domain. Assumes nothing.
use borrow.Author.Tests.{not-true, not-false}
use Rattle.conditional.proofs.Entries.{buffer_unset, test_unset, other_format, ready, surveyed_so}
use Rattle.conditional.proofs.Surveys.{answers_refused}
use Rattle.conditional.specs.Conditional.{survey_of}
use Rattle.conditional.proofs.survey.Goals as goal

pub returns-then-not-buffer : goal.returns-then-not-buffer
unfolding survey_of
returns-then-not-buffer c =
    answers_refused _ _ _ _ (buffer_unset _ _ c.conditional-buffer.ensures _ (not-true _ c.if-not-buffer.true))

pub returns-then-not-has_test : goal.returns-then-not-has_test
unfolding survey_of
returns-then-not-has_test c =
    answers_refused _ _ _ _
    (test_unset _ _ c.conditional-buffer.ensures _ _ c.has_test.ensures c.if-not-has_test.true)

pub returns-then-code-ne-UINT16_1 : goal.returns-then-code-ne-UINT16_1
unfolding survey_of
returns-then-code-ne-UINT16_1 c =
    let same = c.conditional-buffer.ensures in
    let set = not-false _ c.if-not-buffer.false in
    let tests = c.if-not-has_test.false in
    answers_refused _ _ _ _
    (other_format _ _ same _ c.has_test.ensures set tests _ c.code.ensures _ c.if-code-ne-UINT16_1.true)

pub returns : goal.returns
returns c =
    let same = c.conditional-buffer.ensures in
    let set = not-false _ c.if-not-buffer.false in
    let tests = c.if-not-has_test.false in
    surveyed_so _ _ same _ _ _ c.pitch-pitch.ensures c.tiled-tiled.ensures c.test-test.ensures _ _ _ _ _ _ _
    c.args.memory.now _ _ _ (λ t. ready _ _ same _ c.has_test.ensures set tests _ c.code.ensures t c.if-code-ne-UINT16_1.false) c.survey_in.ensures
