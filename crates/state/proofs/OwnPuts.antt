-- What a command stores in a party's own cells and tallies, said of the record: one law for each kind of command.
-- Assumes nothing.
use mathlib.Core.Path.{◌≡◌, refl, sym, ap, ◌∙◌}
use mathlib.Core.List.{List, [], ◌∷◌}
use Prim.Native.Nat.{ℕ, ◌+◌}
use lib.ListN.{length, get_or, set}
use Rattle.command.specs.declared.commands.NoEffect.{NoEffect}
use Rattle.command.specs.declared.commands.Stored.{Stored}
use Rattle.command.specs.declared.commands.Stored.TheVariants as stored
use Rattle.command.specs.declared.commands.Command.TheVariants as command
use Rattle.state.specs.State.{Party, Shared, new_shared}
use Rattle.state.specs.Effects.{domain_from, buffer, with_domain, with_instructions, claim_for, own_after}
use Rattle.state.specs.Asked.{HeldOwn}
use Rattle.state.specs.Cells.{party_of, party_cells, tally_cells, own_length}
use Rattle.state.proofs.Cells.{own_canon, tally_canon}

module _ (l : List ℕ) (h : length l ≡ own_length) where
  abbrev pub stored_cells : Stored → ℕ → ℕ → List ℕ
  stored_cells what b f = party_cells (own_after (command.Store what b f) new_shared (party_of l []))

  pub own_instructions : (b f : ℕ) →
      party_cells (with_instructions (buffer b f 1) (party_of l [])) ≡ stored_cells stored.Instructions b f
  unfolding own_after
  own_instructions b f = refl

  pub own_floats : (b f : ℕ) → l ≡ stored_cells stored.Floats b f
  unfolding own_after
  own_floats b f = sym (own_canon l [] h)

  pub own_integers : (b f : ℕ) → l ≡ stored_cells stored.Integers b f
  unfolding own_after
  own_integers b f = sym (own_canon l [] h)

  pub own_booleans : (b f : ℕ) → l ≡ stored_cells stored.Booleans b f
  unfolding own_after
  own_booleans b f = sym (own_canon l [] h)

  module _ (t : List ℕ) (k : length t ≡ 2) where
    abbrev p : Party
    p = party_of l t

    -- the tallies after a start
    pub second_tally : (v : ℕ) → get_or (set t 0 v) 1 0 ≡ get_or t 1 0
    unfolding party_of tally_cells
    second_tally v = ap (λ (x : List ℕ). get_or (set x 0 v) 1 0) (sym (tally_canon l t k))

    pub start_tallies : (s : Shared) (c : ℕ) → c ≡ claim_for (party_of l []) s →
        set (set t 0 (get_or t 0 0 + 1)) 1 (get_or (set t 0 (get_or t 0 0 + 1)) 1 0 + c) ≡ tally_cells (own_after command.Start s p)
    unfolding party_of tally_cells own_after
    start_tallies s c e =
        ap (λ (x : List ℕ). set (set x 0 (get_or x 0 0 + 1)) 1 (get_or (set x 0 (get_or x 0 0 + 1)) 1 0 + c)) (sym (tally_canon l t k)) ∙
        ap {B = List ℕ} (λ (n : ℕ). (get_or t 0 0 + 1) ∷ (get_or t 1 0 + n) ∷ []) e

    same : HeldOwn p l t
    same = record { own_cells = sym (own_canon l t h); tally_cells_lem = sym (tally_canon l t k) }

    pub domain_own : (s : Shared) (a b c d : ℕ) {x : List ℕ} → x ≡ party_cells (with_domain (domain_from a b c d) (party_of l [])) →
        HeldOwn (own_after (command.Domain a b c d) s p) x t
    unfolding own_after party_of party_cells tally_cells
    domain_own s a b c d e = record { own_cells = e; tally_cells_lem = sym (tally_canon l t k) }

    pub start_own : (s : Shared) {y : List ℕ} → y ≡ tally_cells (own_after command.Start s p) → HeldOwn (own_after command.Start s p) l y
    start_own s e = record { own_cells = unfold own_after party_of party_cells in sym (own_canon l t h); tally_cells_lem = e }

    pub store_own : (s : Shared) (w : Stored) (b f : ℕ) {x : List ℕ} → x ≡ stored_cells w b f →
        HeldOwn (own_after (command.Store w b f) s p) x t
    unfolding own_after party_of party_cells tally_cells
    store_own s stored.Instructions b f e = record { own_cells = e; tally_cells_lem = sym (tally_canon l t k) }
    store_own s stored.Floats b f e = record { own_cells = e; tally_cells_lem = sym (tally_canon l t k) }
    store_own s stored.Integers b f e = record { own_cells = e; tally_cells_lem = sym (tally_canon l t k) }
    store_own s stored.Booleans b f e = record { own_cells = e; tally_cells_lem = sym (tally_canon l t k) }

    -- commands that set nothing of a party's own
    module _ (s : Shared) where
      pub effectless_own : (w : NoEffect) → HeldOwn (own_after (command.Effectless w) s p) l t
      unfolding own_after
      effectless_own w = same

      pub input_own : (n b f g : ℕ) → HeldOwn (own_after (command.Input n b f g) s p) l t
      unfolding own_after
      input_own n b f g = same

      pub output_own : (n b f g : ℕ) → HeldOwn (own_after (command.Output n b f g) s p) l t
      unfolding own_after
      output_own n b f g = same

      pub conditional_own : (b f g : ℕ) → HeldOwn (own_after (command.Conditional b f g) s p) l t
      unfolding own_after
      conditional_own b f g = same

      pub mask_own : (m : ℕ) → HeldOwn (own_after (command.OutputMask m) s p) l t
      unfolding own_after
      mask_own m = same

      pub conditional_mask_own : (m : ℕ) → HeldOwn (own_after (command.ConditionalMask m) s p) l t
      unfolding own_after
      conditional_mask_own m = same

      pub test_own : (m : ℕ) → HeldOwn (own_after (command.Test m) s p) l t
      unfolding own_after
      test_own m = same
