-- Document 02, request 9: what a party sees of inputs and outputs: its own; the others' are as if they weren't set. Assumes nothing.
use Rattle.std.specs.Prelude.{List, [], ◌∷◌, ℕ, suc}
use Rattle.laws.specs.Choice.{pick}
use Rattle.laws.specs.Masks.{on}
use Rattle.state.specs.State.{Buffer, unset}

-- of buffers the first of which has bit `k`
unfoldable pub seen_from : ℕ → ℕ → List Buffer → List Buffer
seen_from mine k [] = []
seen_from mine k (b ∷ bs) = pick (on k mine) b unset ∷ seen_from mine (suc k) bs

abbrev pub seen_inputs : ℕ → List Buffer → List Buffer
seen_inputs mine inputs = seen_from mine 0 inputs

abbrev pub seen_outputs : ℕ → List Buffer → List Buffer
seen_outputs mine outputs = seen_from mine 16 outputs
