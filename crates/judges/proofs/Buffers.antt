-- The buffers of the settings, by their places in the cells and by their numbers. Assumes nothing.
use mathlib.Core.Path.{◌≡◌, refl}
use mathlib.Core.Bool.{Bool}
use mathlib.Core.List.{List}
use Prim.Native.Nat.{ℕ, ◌+◌, ◌*◌}
use lib.ListN.{get_or}
use Rattle.laws.specs.Below.{every}
use Rattle.state.specs.State.{Buffer, unset}
use Rattle.state.specs.Cells.{buffer_at, shared_of}

module _ (f : Buffer → Bool) (l : List ℕ) where
  pub outputs_listed : every 4 (λ n. f (buffer_at l (21 + 4 * n))) ≡ every 4 (λ n. f (get_or (shared_of l).outputs n unset))
  unfolding every shared_of
  outputs_listed = refl

  pub inputs_listed : every 16 (λ n. f (buffer_at l (37 + 4 * n))) ≡ every 16 (λ n. f (get_or (shared_of l).inputs n unset))
  unfolding every shared_of
  inputs_listed = refl
