-- `picture_rooms::row_within` meets its contract. Assumes nothing.
use mathlib.Core.Path.{sym}
use native.Mathlib.Omega.{arith}
use Rattle.rectangles.proofs.Inside.{one_out}
use Rattle.picture_rooms.proofs.row_within.Goals as goal

-- more places than the row has pairs
pub returns-then-step-columns : goal.returns-then-step-columns
returns-then-step-columns c = sym (one_out _ _ _ _ _ _ (omega (arith, c.if-step-columns.true)) (omega arith) (λ o. omega (arith, c.if-step-columns.true, o.0)))
