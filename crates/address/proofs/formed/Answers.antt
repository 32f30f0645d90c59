-- `address::formed` meets its contract: a test of the base, and one of the pitch. Assumes nothing.
use Rattle.address.proofs.Answers.{form_base, form_pitch}
use Rattle.address.proofs.formed.Goals as goal

pub returns-then-base-ne0 : goal.returns-then-base-ne0
returns-then-base-ne0 c = form_base _ _ c.if-base-ne0.true

pub returns : goal.returns
returns c = form_pitch _ _ c.if-base-ne0.false
