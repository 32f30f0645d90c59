-- `registers::choice` meets its contract: channel by channel. Assumes nothing.
use mathlib.Core.List.{[], ◌∷◌}
use Rattle.registers.proofs.choice.Goals as goal

-- the four channels are those of the definition
pub returns : goal.returns
returns c =
    λ j.
    c.chosen.ensures j ∷ (c.chosen-2.ensures j ∷ (c.chosen-3.ensures j ∷ (c.chosen-4.ensures j ∷ [])))
