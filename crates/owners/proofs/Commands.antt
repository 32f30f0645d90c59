-- A command that sets nothing but what the party owns: its header and each of its parameters pass, and one whose header and first
-- parameter passed is such a one. Assumes nothing.
use mathlib.Core.Path.{◌≡◌, refl}
use mathlib.Core.Bool.{true}
use mathlib.Core.List.{List, [], ◌∷◌}
use Prim.Native.Nat.{ℕ, ◌<◌}
use lib.ListN.{get_or}
use Rattle.laws.specs.Choice.{pick, place_of}
use Rattle.laws.proofs.Table.{each, ◌&◌}
use Rattle.command.specs.Table.{count_of}
use Rattle.command.specs.Kinds.{kind_of}
use Rattle.command.specs.Commands.{no_effect_line, stored_line, line_of, fields_of, command_of}
use Rattle.command.specs.declared.commands.NoEffect.{NoEffect}
use Rattle.command.specs.declared.commands.NoEffect.TheVariants as no_effect
use Rattle.command.specs.declared.commands.Stored.TheVariants as stored
use Rattle.command.specs.declared.commands.Command.{Command}
use Rattle.command.specs.declared.commands.Command.TheVariants as command
use Rattle.owners.specs.Owners.{sets_common, may_open, may_name, owned}

module _ (mine : ℕ) where
  effectless_opens : (what : NoEffect) → may_open mine (no_effect_line what) ≡ true
  unfolding may_open sets_common place_of pick no_effect_line
  effectless_opens no_effect.Wait = refl
  effectless_opens no_effect.InvalidateInstructions = refl
  effectless_opens no_effect.InvalidateFloats = refl
  effectless_opens no_effect.InvalidateIntegers = refl
  effectless_opens no_effect.InvalidateBooleans = refl
  effectless_opens no_effect.InvalidateConditional = refl
  effectless_opens no_effect.InvalidateInputs = refl
  effectless_opens no_effect.FlushOutputs = refl
  effectless_opens no_effect.FlushConditional = refl

  pub owned_opens : (c : Command) → owned mine c ≡ true → may_open mine (line_of c) ≡ true
  unfolding owned may_open sets_common place_of pick line_of stored_line
  owned_opens (command.Domain i0 j0 i1 j1) o = refl
  owned_opens command.Start o = refl
  owned_opens (command.Effectless what) o = effectless_opens what
  owned_opens (command.Store stored.Instructions base format) o = refl
  owned_opens (command.Store stored.Floats base format) o = o
  owned_opens (command.Store stored.Integers base format) o = o
  owned_opens (command.Store stored.Booleans base format) o = o
  owned_opens (command.Input number base format height) o = refl
  owned_opens (command.Output number base format height) o = refl
  owned_opens (command.Conditional base format height) o = o
  owned_opens (command.OutputMask mask) o = refl
  owned_opens (command.ConditionalMask mask) o = o
  owned_opens (command.Test test) o = o

  abbrev Names : ℕ → List ℕ → ℕ → Type 0
  Names line fields k = may_name mine (kind_of line k) (get_or fields k 0) ≡ true

  effectless_names : (what : NoEffect) (k : ℕ) → k < count_of (no_effect_line what) → Names (no_effect_line what) (0 ∷ []) k
  unfolding may_name kind_of no_effect_line count_of
  effectless_names no_effect.Wait k = each (Names 2 (0 ∷ [])) 1 (tt & refl) k
  effectless_names no_effect.InvalidateInstructions k = each (Names 10 (0 ∷ [])) 1 (tt & refl) k
  effectless_names no_effect.InvalidateFloats k = each (Names 11 (0 ∷ [])) 1 (tt & refl) k
  effectless_names no_effect.InvalidateIntegers k = each (Names 12 (0 ∷ [])) 1 (tt & refl) k
  effectless_names no_effect.InvalidateBooleans k = each (Names 13 (0 ∷ [])) 1 (tt & refl) k
  effectless_names no_effect.InvalidateConditional k = each (Names 14 (0 ∷ [])) 1 (tt & refl) k
  effectless_names no_effect.InvalidateInputs k = each (Names 15 (0 ∷ [])) 1 (tt & refl) k
  effectless_names no_effect.FlushOutputs k = each (Names 16 (0 ∷ [])) 1 (tt & refl) k
  effectless_names no_effect.FlushConditional k = each (Names 17 (0 ∷ [])) 1 (tt & refl) k

  pub owned_names : (c : Command) → owned mine c ≡ true → (k : ℕ) → k < count_of (line_of c) → Names (line_of c) (fields_of c) k
  unfolding owned may_name kind_of line_of stored_line fields_of count_of
  owned_names (command.Domain i0 j0 i1 j1) o k = each (Names 0 (i0 ∷ j0 ∷ i1 ∷ j1 ∷ [])) 4 (tt & refl & refl & refl & refl) k
  owned_names command.Start o k = each (Names 1 (0 ∷ [])) 1 (tt & refl) k
  owned_names (command.Effectless what) o k = effectless_names what k
  owned_names (command.Store stored.Instructions base format) o k = each (Names 3 (base ∷ format ∷ [])) 2 (tt & refl & refl) k
  owned_names (command.Store stored.Floats base format) o k = each (Names 7 (base ∷ format ∷ [])) 2 (tt & refl & refl) k
  owned_names (command.Store stored.Integers base format) o k = each (Names 8 (base ∷ format ∷ [])) 2 (tt & refl & refl) k
  owned_names (command.Store stored.Booleans base format) o k = each (Names 9 (base ∷ format ∷ [])) 2 (tt & refl & refl) k
  owned_names (command.Input number base format height) o k =
      each (Names 4 (number ∷ base ∷ format ∷ height ∷ [])) 4 (tt & o & refl & refl & refl) k
  owned_names (command.Output number base format height) o k =
      each (Names 5 (number ∷ base ∷ format ∷ height ∷ [])) 4 (tt & o & refl & refl & refl) k
  owned_names (command.Conditional base format height) o k = each (Names 6 (base ∷ format ∷ height ∷ [])) 3 (tt & refl & refl & refl) k
  owned_names (command.OutputMask mask) o k = each (Names 18 (mask ∷ [])) 1 (tt & refl) k
  owned_names (command.ConditionalMask mask) o k = each (Names 19 (mask ∷ [])) 1 (tt & refl) k
  owned_names (command.Test test) o k = each (Names 20 (test ∷ [])) 1 (tt & refl) k

  -- the other way, line by line
  pub named_owned : (p0 p1 p2 p3 line : ℕ) → line < 21 → may_open mine line ≡ true → may_name mine (kind_of line 0) p0 ≡ true →
      owned mine (command_of line p0 p1 p2 p3) ≡ true
  unfolding owned may_open may_name sets_common place_of pick kind_of command_of
  named_owned p0 p1 p2 p3 line =
      each (λ n. may_open mine n ≡ true → may_name mine (kind_of n 0) p0 ≡ true → owned mine (command_of n p0 p1 p2 p3) ≡ true) 21
      (tt
      & (λ a b. refl)
      & (λ a b. refl)
      & (λ a b. refl)
      & (λ a b. refl)
      & (λ a b. b)
      & (λ a b. b)
      & (λ a b. a)
      & (λ a b. a)
      & (λ a b. a)
      & (λ a b. a)
      & (λ a b. refl)
      & (λ a b. refl)
      & (λ a b. refl)
      & (λ a b. refl)
      & (λ a b. refl)
      & (λ a b. refl)
      & (λ a b. refl)
      & (λ a b. refl)
      & (λ a b. refl)
      & (λ a b. a)
      & (λ a b. a))
      line
