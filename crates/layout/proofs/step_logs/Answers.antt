-- `layout::step_logs` meets its contract: the two kinds of layout. Assumes nothing.
use mathlib.Core.Path.{sym, subst}
use mathlib.Core.Bool.{Bool}
use Rattle.layout.specs.Layout.{unit_of}
use Rattle.layout.specs.Powers.{Powers}
use Rattle.layout.proofs.Powers.{step_powers}
use Rattle.layout.proofs.step_logs.Goals as goal

pub returns-then-tiled : goal.returns-then-tiled
returns-then-tiled c = subst (λ (t : Bool). Powers _ (unit_of t)) (sym c.if-tiled.true) step_powers.0

pub returns-else-tiled : goal.returns-else-tiled
returns-else-tiled c = subst (λ (t : Bool). Powers _ (unit_of t)) (sym c.if-tiled.false) step_powers.1
