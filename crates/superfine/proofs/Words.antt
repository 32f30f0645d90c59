-- The format word of a superfine read: one law a return of the code, and the sizes that are left. Assumes nothing.
use mathlib.Core.Path.{◌≡◌, sym, ap, ◌∙◌}
use mathlib.Core.Bool.{true, false}
use Prim.Native.Nat.{ℕ, zero, suc, ◌≤◌}
use native.Mathlib.Omega.{arith}
use lib.Dec.{eqb, lit≤}
use borrow.Author.Tests.{eqb-true}
use Rattle.laws.specs.Choice.{◌and◌}
use Rattle.laws.proofs.Choice.{and_yes, and_right, and_no_left, and_no_right}
use Rattle.command.specs.Format.{superfine_of, code_of, size_of, channels_of}
use Rattle.command.specs.Kinds.{allowed}
use Rattle.command.specs.declared.kinds.Kind.TheVariants.{Base, Format}
use Rattle.superfine.specs.Superfine.{superfine_word}

module _ (base format : ℕ) where
  pub base_refused : allowed Base base ≡ false → superfine_word base format ≡ false
  unfolding superfine_word
  base_refused e = and_no_left _ e

  pub format_refused : allowed Format format ≡ false → superfine_word base format ≡ false
  unfolding superfine_word
  format_refused e = and_no_right _ (and_no_left _ e)

  pub not_superfine : superfine_of format ≡ false → superfine_word base format ≡ false
  unfolding superfine_word
  not_superfine e = and_no_right _ (and_no_right _ (and_no_left _ e))

  pub by_channels :
      (code channels : ℕ) → allowed Base base ≡ true → allowed Format format ≡ true → superfine_of format ≡ true →
      code ≡ code_of format → channels ≡ channels_of code → eqb channels 1 ≡ superfine_word base format
  unfolding superfine_word
  by_channels code channels b f s ec en =
      ap (λ (n : ℕ). eqb n 1) (en ∙ ap channels_of ec) ∙ sym (and_yes _ b ∙ and_yes _ f ∙ and_yes _ s)

one_channel : (code : ℕ) → channels_of code ≡ 1 → size_of code ≤ 4
unfolding channels_of size_of
one_channel zero e = lit≤ tt
one_channel (suc zero) e = lit≤ tt
one_channel (suc (suc zero)) e = lit≤ tt
one_channel (suc (suc (suc zero))) e = absurd (omega (arith, e))
one_channel (suc (suc (suc (suc zero)))) e = absurd (omega (arith, e))
one_channel (suc (suc (suc (suc (suc n))))) e = absurd (omega (arith, e))

-- "the code has one channel": its elements have 2 or 4 bytes
pub small_size : (base format : ℕ) → superfine_word base format ≡ true → size_of (code_of format) ≤ 4
unfolding superfine_word
small_size base format e = one_channel (code_of format) (eqb-true _ _ (and_right _ _ (and_right _ _ (and_right _ _ e))))
