-- The cells of a number's buffer are the view's entry at that number; past the last there is none. Assumes nothing.
use mathlib.Core.Path.{◌≡◌, refl, sym}
use mathlib.Core.List.{List}
use Prim.Native.Nat.{ℕ, ◌+◌, ◌*◌, ◌<◌, ◌≤◌}
use lib.ListN.{get_or, get_or-eq_default}
use Rattle.laws.proofs.Table.{each, ◌&◌}
use Rattle.state.specs.State.{unset}
use Rattle.state.specs.Cells.{buffer_at, shared_of}

module _ (l : List ℕ) (n : ℕ) where
  pub output_seen : n < 4 → buffer_at l (21 + 4 * n) ≡ get_or (shared_of l).outputs n unset
  unfolding shared_of
  output_seen =
      each (λ m. buffer_at l (21 + 4 * m) ≡ get_or (shared_of l).outputs m unset) 4 (tt & refl & refl & refl & refl) n

  pub output_past : 4 ≤ n → unset ≡ get_or (shared_of l).outputs n unset
  unfolding shared_of
  output_past h = sym (get_or-eq_default (shared_of l).outputs unset h)

  pub input_seen : n < 16 → buffer_at l (37 + 4 * n) ≡ get_or (shared_of l).inputs n unset
  unfolding shared_of
  input_seen =
      each (λ m. buffer_at l (37 + 4 * m) ≡ get_or (shared_of l).inputs m unset) 16
      (tt & refl & refl & refl & refl & refl & refl & refl & refl & refl & refl & refl & refl & refl & refl & refl & refl) n

  pub input_past : 16 ≤ n → unset ≡ get_or (shared_of l).inputs n unset
  unfolding shared_of
  input_past h = sym (get_or-eq_default (shared_of l).inputs unset h)
