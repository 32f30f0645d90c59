-- `layout::tile_height` meets its contract: the line of the size, or none. Assumes nothing.
use mathlib.Core.Path.{◌∙◌, sym, ap}
use Prim.Native.Nat.{ℕ}
use lib.ListN.{get_or, get_or-eq_default}
use native.Mathlib.Omega.{arith}
use Rattle.layout.specs.Sizes.{heights, height_of}
use Rattle.layout.proofs.tile_height.Goals as goal

-- the size's line
pub returns-then-line-lt-SIZE_LINES : goal.returns-then-line-lt-SIZE_LINES
unfolding height_of
returns-then-line-lt-SIZE_LINES c = c.tile_height_at.ensures ∙ ap (λ (n : ℕ). get_or heights n 0) c.size_line-line.ensures

-- no size: no line
pub returns-else-line-lt-SIZE_LINES : goal.returns-else-line-lt-SIZE_LINES
unfolding height_of
returns-else-line-lt-SIZE_LINES c =
    sym (get_or-eq_default heights 0 {n = c.size_line-line.result} (omega (arith, c.if-line-lt-SIZE_LINES.false))) ∙
    ap (λ (n : ℕ). get_or heights n 0) c.size_line-line.ensures
