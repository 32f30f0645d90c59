-- `layout::stride_logs` meets its contract: the two kinds of layout. Assumes nothing.
use mathlib.Core.Path.{sym, subst}
use mathlib.Core.Bool.{Bool}
use Prim.Native.Nat.{◌*◌, ◌/◌}
use Rattle.layout.specs.Layout.{unit_of}
use Rattle.layout.specs.Powers.{Powers}
use Rattle.layout.proofs.Powers.{stride_powers}
use Rattle.layout.proofs.stride_logs.Goals as goal

pub returns-then-tiled : goal.returns-then-tiled
returns-then-tiled c = subst (λ (t : Bool). Powers _ (λ s. unit_of t s * s / 32)) (sym c.if-tiled.true) stride_powers.0

pub returns-else-tiled : goal.returns-else-tiled
returns-else-tiled c = subst (λ (t : Bool). Powers _ (λ s. unit_of t s * s / 32)) (sym c.if-tiled.false) stride_powers.1
