-- `conditions::word_at` meets its contract: two bytes, low byte first. Assumes nothing.
use Rattle.conditions.specs.Conditions.{word_in}
use Rattle.std.proofs.Common.{rules}
use Rattle.conditions.proofs.word_at.Goals as goal

pub returns : goal.returns
unfolding word_in
returns c = search rules
