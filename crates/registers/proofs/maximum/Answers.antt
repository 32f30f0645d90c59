-- `registers::maximum` meets its contract: channel by channel. Assumes nothing.
use mathlib.Core.List.{[], ◌∷◌}
use Rattle.registers.proofs.maximum.Goals as goal

-- the four channels are those of the definition
pub returns : goal.returns
returns c =
    λ j.
    c.larger.ensures j ∷ (c.larger-2.ensures j ∷ (c.larger-3.ensures j ∷ (c.larger-4.ensures j ∷ [])))
