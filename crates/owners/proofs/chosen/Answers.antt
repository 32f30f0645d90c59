-- `owners::chosen` meets its contract. Assumes nothing.
use Rattle.laws.proofs.Choice.{pick_yes, pick_no}
use native.Mathlib.Omega.{arith}
use mathlib.Core.Path.{sym}
use Rattle.owners.proofs.chosen.Goals as goal

pub returns-then-owned : goal.returns-then-owned
returns-then-owned c = record { value = sym (pick_yes _ _ c.if-owned.true); most = omega arith }

pub returns-else-owned : goal.returns-else-owned
returns-else-owned c = record { value = sym (pick_no _ _ c.if-owned.false); most = omega arith }
