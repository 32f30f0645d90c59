-- What a command stores in the shared cells, said of the record: one law for each kind of command. Assumes nothing.
use mathlib.Core.Path.{◌≡◌, refl, sym, ap, ◌∙◌}
use mathlib.Core.List.{List}
use Prim.Native.Nat.{ℕ, ◌+◌, ◌*◌, ◌<◌}
use lib.ListN.{length, get_or, set}
use Rattle.laws.proofs.Table.{each, ◌&◌}
use Rattle.command.specs.declared.commands.NoEffect.{NoEffect}
use Rattle.command.specs.declared.commands.Stored.TheVariants as stored
use Rattle.command.specs.declared.commands.Command.{Command}
use Rattle.command.specs.declared.commands.Command.TheVariants as command
use Rattle.owners.specs.Owners.{mask_by}
use Rattle.state.specs.Effects.{buffer, shared_after}
use Rattle.state.specs.Cells.{set_buffer, shared_of, shared_cells, shared_length}
use Rattle.state.proofs.Cells.{shared_canon}

module _ (mine : ℕ) (l : List ℕ) (h : length l ≡ shared_length) where
  -- the shared cells after a command of a party that owns so much
  abbrev pub cells_after : Command → List ℕ
  cells_after c = shared_cells (shared_after mine c (shared_of l))

  -- commands that set nothing shared
  pub domain_shared : (i0 j0 i1 j1 : ℕ) → l ≡ cells_after (command.Domain i0 j0 i1 j1)
  unfolding shared_after
  domain_shared i0 j0 i1 j1 = sym (shared_canon l h)

  pub start_shared : l ≡ cells_after command.Start
  unfolding shared_after
  start_shared = sym (shared_canon l h)

  pub effectless_shared : (what : NoEffect) → l ≡ cells_after (command.Effectless what)
  unfolding shared_after
  effectless_shared what = sym (shared_canon l h)

  pub instructions_shared : (b f : ℕ) → l ≡ cells_after (command.Store stored.Instructions b f)
  unfolding shared_after
  instructions_shared b f = sym (shared_canon l h)

  -- commands that set a buffer
  pub floats_shared : (b f : ℕ) → set_buffer l 5 (buffer b f 1) ≡ cells_after (command.Store stored.Floats b f)
  unfolding shared_after shared_of shared_cells
  floats_shared b f = ap (λ (x : List ℕ). set_buffer x 5 (buffer b f 1)) (sym (shared_canon l h))

  pub integers_shared : (b f : ℕ) → set_buffer l 9 (buffer b f 1) ≡ cells_after (command.Store stored.Integers b f)
  unfolding shared_after shared_of shared_cells
  integers_shared b f = ap (λ (x : List ℕ). set_buffer x 9 (buffer b f 1)) (sym (shared_canon l h))

  pub booleans_shared : (b f : ℕ) → set_buffer l 13 (buffer b f 1) ≡ cells_after (command.Store stored.Booleans b f)
  unfolding shared_after shared_of shared_cells
  booleans_shared b f = ap (λ (x : List ℕ). set_buffer x 13 (buffer b f 1)) (sym (shared_canon l h))

  pub conditional_shared : (b f k : ℕ) → set_buffer l 17 (buffer b f k) ≡ cells_after (command.Conditional b f k)
  unfolding shared_after shared_of shared_cells
  conditional_shared b f k = ap (λ (x : List ℕ). set_buffer x 17 (buffer b f k)) (sym (shared_canon l h))

  pub output_shared : (n b f k : ℕ) → n < 4 → set_buffer l (21 + 4 * n) (buffer b f k) ≡ cells_after (command.Output n b f k)
  unfolding shared_after shared_of shared_cells
  output_shared n b f k less =
      ap (λ (x : List ℕ). set_buffer x (21 + 4 * n) (buffer b f k)) (sym (shared_canon l h)) ∙
      each (λ m. set_buffer (shared_cells (shared_of l)) (21 + 4 * m) (buffer b f k) ≡ cells_after (command.Output m b f k)) 4
      (tt & refl & refl & refl & refl) n less

  pub input_shared : (n b f k : ℕ) → n < 16 → set_buffer l (37 + 4 * n) (buffer b f k) ≡ cells_after (command.Input n b f k)
  unfolding shared_after shared_of shared_cells
  input_shared n b f k less =
      ap (λ (x : List ℕ). set_buffer x (37 + 4 * n) (buffer b f k)) (sym (shared_canon l h)) ∙
      each (λ m. set_buffer (shared_cells (shared_of l)) (37 + 4 * m) (buffer b f k) ≡ cells_after (command.Input m b f k)) 16
      (tt & refl & refl & refl & refl & refl & refl & refl & refl & refl & refl & refl & refl & refl & refl & refl & refl) n less

  -- masks and the test
  pub mask_shared : (m : ℕ) → set l 0 (mask_by mine m (get_or l 0 0)) ≡ cells_after (command.OutputMask m)
  unfolding shared_after shared_of shared_cells
  mask_shared m = ap (λ (x : List ℕ). set x 0 (mask_by mine m (get_or l 0 0))) (sym (shared_canon l h))

  pub conditional_mask_shared : (m : ℕ) → set (set l 1 1) 2 m ≡ cells_after (command.ConditionalMask m)
  unfolding shared_after shared_of shared_cells
  conditional_mask_shared m = ap (λ (x : List ℕ). set (set x 1 1) 2 m) (sym (shared_canon l h))

  pub test_shared : (m : ℕ) → set (set l 3 1) 4 m ≡ cells_after (command.Test m)
  unfolding shared_after shared_of shared_cells
  test_shared m = ap (λ (x : List ℕ). set (set x 3 1) 4 m) (sym (shared_canon l h))
