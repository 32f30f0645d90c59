-- `layout::rows_logs` meets its contract: the two kinds of layout. Assumes nothing.
use mathlib.Core.Path.{sym, subst}
use mathlib.Core.Bool.{Bool}
use Rattle.laws.specs.Choice.{pick}
use Rattle.layout.specs.Sizes.{height_of}
use Rattle.layout.specs.Powers.{Powers}
use Rattle.layout.proofs.Powers.{row_powers}
use Rattle.layout.proofs.rows_logs.Goals as goal

pub returns-then-tiled : goal.returns-then-tiled
returns-then-tiled c = subst (λ (t : Bool). Powers _ (λ s. pick t (height_of s) 1)) (sym c.if-tiled.true) row_powers.0

pub returns-else-tiled : goal.returns-else-tiled
returns-else-tiled c = subst (λ (t : Bool). Powers _ (λ s. pick t (height_of s) 1)) (sym c.if-tiled.false) row_powers.1
