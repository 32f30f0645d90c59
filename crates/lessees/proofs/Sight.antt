-- Laws of what a party sees of the settings: it sees what it sets itself, and nothing of what another sets. Assumes nothing.
use mathlib.Core.Path.{◌≡◌, refl, sym, ap, ◌∙◌}
use mathlib.Core.Bool.{Bool, true, false}
use mathlib.Core.List.{List}
use Prim.Native.Nat.{ℕ, ◌+◌}
use native.Mathlib.Nat.{zero-add}
use Rattle.laws.specs.Choice.{pick}
use Rattle.laws.specs.Masks.{on}
use Rattle.laws.proofs.Choice.{pick_yes, pick_no}
use Rattle.command.specs.declared.commands.Stored.TheVariants as stored
use Rattle.command.specs.declared.commands.Command.{Command}
use Rattle.command.specs.declared.commands.Command.TheVariants as command
use Rattle.owners.specs.Owners.{mask_by, owns_output, owned}
use Rattle.state.specs.State.{Buffer, Shared, unset}
use Rattle.state.specs.Seen.{seen_inputs, seen_outputs}
use Rattle.state.specs.Effects.{buffer, with_shared, shared_after}
use Rattle.state.proofs.Seen.{seen_own, seen_other}
use Rattle.lessees.specs.Sight.{seen_shared, Apart}
use Rattle.owners.proofs.Blend.{blend_own, blend_rest, blend_other}

-- settings with one of the lists or the mask replaced
abbrev with_inputs : List Buffer → Shared → Shared
with_inputs x h =
    with_shared h.mask h.conditional_mask_set h.conditional_mask h.test_set h.test h.floats h.integers h.booleans
    h.conditional h.outputs x

abbrev with_outputs : List Buffer → Shared → Shared
with_outputs x h =
    with_shared h.mask h.conditional_mask_set h.conditional_mask h.test_set h.test h.floats h.integers h.booleans
    h.conditional x h.inputs

abbrev with_mask : ℕ → Shared → Shared
with_mask x h =
    with_shared x h.conditional_mask_set h.conditional_mask h.test_set h.test h.floats h.integers h.booleans
    h.conditional h.outputs h.inputs

-- what party 0 sees, and what party 1 does: the constants and the conditional unit, or nothing of them
abbrev common : ℕ → Shared → Shared
common m h =
    with_shared (mask_by m h.mask 0) h.conditional_mask_set h.conditional_mask h.test_set h.test h.floats h.integers
    h.booleans h.conditional (seen_outputs m h.outputs) (seen_inputs m h.inputs)

abbrev bare : ℕ → Shared → Shared
bare m h =
    with_shared (mask_by m h.mask 0) 0 0 0 0 unset unset unset unset (seen_outputs m h.outputs) (seen_inputs m h.inputs)

module _ (m : ℕ) (h : Shared) where
  with_common : on 20 m ≡ true → seen_shared m h ≡ common m h
  unfolding seen_shared
  with_common e =
      λ i.
      with_shared (mask_by m h.mask 0) (pick_yes h.conditional_mask_set 0 e i) (pick_yes h.conditional_mask 0 e i)
      (pick_yes h.test_set 0 e i) (pick_yes h.test 0 e i) (pick_yes h.floats unset e i) (pick_yes h.integers unset e i)
      (pick_yes h.booleans unset e i) (pick_yes h.conditional unset e i) (seen_outputs m h.outputs) (seen_inputs m h.inputs)

  without_common : on 20 m ≡ false → seen_shared m h ≡ bare m h
  unfolding seen_shared
  without_common e =
      λ i.
      with_shared (mask_by m h.mask 0) (pick_no h.conditional_mask_set 0 e i) (pick_no h.conditional_mask 0 e i)
      (pick_no h.test_set 0 e i) (pick_no h.test 0 e i) (pick_no h.floats unset e i) (pick_no h.integers unset e i)
      (pick_no h.booleans unset e i) (pick_no h.conditional unset e i) (seen_outputs m h.outputs) (seen_inputs m h.inputs)

-- what a party sets of its own, it sees set the same way
module _ (m : ℕ) (h : Shared) where
  seen_common : (c : Command) → common m (shared_after m c h) ≡ shared_after m c (common m h) → on 20 m ≡ true →
      seen_shared m (shared_after m c h) ≡ shared_after m c (seen_shared m h)
  seen_common c k e = with_common m (shared_after m c h) e ∙ k ∙ sym (ap (shared_after m c) (with_common m h e))

  pub seen_after : (c : Command) → owned m c ≡ true → seen_shared m (shared_after m c h) ≡ shared_after m c (seen_shared m h)
  unfolding owned shared_after
  seen_after (command.Domain i0 j0 i1 j1) e = refl
  seen_after command.Start e = refl
  seen_after (command.Effectless what) e = refl
  seen_after (command.Store stored.Instructions base format) e = refl
  seen_after (command.Store stored.Floats base format) e = seen_common (command.Store stored.Floats base format) refl e
  seen_after (command.Store stored.Integers base format) e = seen_common (command.Store stored.Integers base format) refl e
  seen_after (command.Store stored.Booleans base format) e = seen_common (command.Store stored.Booleans base format) refl e
  seen_after (command.Input number base format height) e =
      unfold seen_shared in
      ap (λ (x : List Buffer). with_inputs x (seen_shared m h))
      (seen_own m 0 number h.inputs (buffer base format height) (rw (zero-add number) e))
  seen_after (command.Output number base format height) e =
      unfold seen_shared in
      ap (λ (x : List Buffer). with_outputs x (seen_shared m h)) (seen_own m 16 number h.outputs (buffer base format height) e)
  seen_after (command.Conditional base format height) e = seen_common (command.Conditional base format height) refl e
  seen_after (command.OutputMask mask) e =
      unfold seen_shared in
      ap (λ (x : ℕ). with_mask x (seen_shared m h))
      (blend_own 4 (owns_output m) mask h.mask 0 ∙ sym (blend_rest 4 (owns_output m) h.mask 0 mask))
  seen_after (command.ConditionalMask mask) e = seen_common (command.ConditionalMask mask) refl e
  seen_after (command.Test test) e = seen_common (command.Test test) refl e

-- what it sets, another doesn't see
module _ (m o : ℕ) (h : Shared) (a : Apart m o) where
  hidden_common : (c : Command) → bare o (shared_after m c h) ≡ bare o h → on 20 m ≡ true →
      seen_shared o (shared_after m c h) ≡ seen_shared o h
  hidden_common c k e = without_common o (shared_after m c h) (a 20 e) ∙ k ∙ sym (without_common o h (a 20 e))

  pub hidden : (c : Command) → owned m c ≡ true → seen_shared o (shared_after m c h) ≡ seen_shared o h
  unfolding owned shared_after
  hidden (command.Domain i0 j0 i1 j1) e = refl
  hidden command.Start e = refl
  hidden (command.Effectless what) e = refl
  hidden (command.Store stored.Instructions base format) e = refl
  hidden (command.Store stored.Floats base format) e = hidden_common (command.Store stored.Floats base format) refl e
  hidden (command.Store stored.Integers base format) e = hidden_common (command.Store stored.Integers base format) refl e
  hidden (command.Store stored.Booleans base format) e = hidden_common (command.Store stored.Booleans base format) refl e
  hidden (command.Input number base format height) e =
      unfold seen_shared in
      ap (λ (x : List Buffer). with_inputs x (seen_shared o h))
      (seen_other o 0 number h.inputs (buffer base format height) (rw (zero-add number) (a number e)))
  hidden (command.Output number base format height) e =
      unfold seen_shared in
      ap (λ (x : List Buffer). with_outputs x (seen_shared o h))
      (seen_other o 16 number h.outputs (buffer base format height) (a (16 + number) e))
  hidden (command.Conditional base format height) e = hidden_common (command.Conditional base format height) refl e
  hidden (command.OutputMask mask) e =
      unfold seen_shared in
      ap (λ (x : ℕ). with_mask x (seen_shared o h)) (blend_other 4 (owns_output m) (owns_output o) mask h.mask 0 (λ k. a (16 + k)))
  hidden (command.ConditionalMask mask) e = hidden_common (command.ConditionalMask mask) refl e
  hidden (command.Test test) e = hidden_common (command.Test test) refl e
