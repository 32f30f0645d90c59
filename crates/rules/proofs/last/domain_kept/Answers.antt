-- `rules::last::domain_kept` meets its contract: a domain by its ends, any other command by the definition. Assumes nothing.
use native.Mathlib.Omega.{arith}
use borrow.Enum.Refused.{opened}
use Rattle.std.proofs.lemmas.Grind.{common_steps}
use Rattle.laws.specs.Choice.{◌and◌}
use Rattle.rules.specs.Rules.{domain_kept}
use Rattle.rules.proofs.Rule.{domain_other}
use Rattle.rules.proofs.last.domain_kept.Goals as goal

pub returns-then-i0-i1 : goal.returns-then-i0-i1
unfolding domain_kept ◌and◌
returns-then-i0-i1 c = rw c.in-Domain.is (grind (arith, common_steps))

pub returns-else-i0-i1 : goal.returns-else-i0-i1
unfolding domain_kept ◌and◌
returns-else-i0-i1 c = rw c.in-Domain.is (grind (arith, common_steps))

pub returns-in_default : goal.returns-in_default
returns-in_default c = domain_other c.args.command (opened c.in_default.in_default-own.keys2)
