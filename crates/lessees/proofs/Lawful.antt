-- What a party sees of lawful settings is lawful: its own, and others' as if they weren't set. Assumes nothing.
use mathlib.Core.Path.{◌≡◌}
use mathlib.Core.Bool.{Bool, true, false}
use Prim.Native.Nat.{ℕ}
use Rattle.laws.specs.Choice.{pick}
use Rattle.laws.proofs.Choice.{by_pick}
use Rattle.command.specs.declared.kinds.Kind.{Kind}
use Rattle.command.specs.declared.kinds.Kind.TheVariants.{Format, InputFormat, ConditionalMaskBit, TestBits}
use Rattle.owners.specs.Owners.{owns_common}
use Rattle.owners.proofs.Blend.{mask_lt}
use Rattle.state.specs.State.{Buffer, Shared, unset}
use Rattle.state.specs.Lawful.{lawful_buffer, lawful_row, lawful_word, SharedLawful}
use Rattle.state.proofs.Lawful.{unset_buffer, unset_row, unset_word, each_seen, lawful_with}
use Rattle.lessees.specs.Sight.{seen_shared}

-- party 0's word, or none
word_seen : (kind : Kind) (mine flag w : ℕ) → lawful_word kind flag w ≡ true →
    lawful_word kind (pick (owns_common mine) flag 0) (pick (owns_common mine) w 0) ≡ true
unfolding pick
word_seen kind mine flag w a = go (owns_common mine)
  where
    go : (t : Bool) → lawful_word kind (pick t flag 0) (pick t w 0) ≡ true
    go true = a
    go false = unset_word kind

-- party 0's row, or none
row_seen : (mine : ℕ) (b : Buffer) → lawful_row b ≡ true → lawful_row (pick (owns_common mine) b unset) ≡ true
row_seen mine b a = by_pick (λ (c : Buffer). lawful_row c ≡ true) (owns_common mine) b unset (λ e. a) (λ e. unset_row)

pub seen_lawful : (mine : ℕ) (h : Shared) → SharedLawful h → SharedLawful (seen_shared mine h)
unfolding seen_shared
seen_lawful mine h l =
    lawful_with (mask_lt mine h.mask 0) (word_seen ConditionalMaskBit mine _ _ l.conditional_mask) (word_seen TestBits mine _ _ l.test)
    (row_seen mine _ l.floats) (row_seen mine _ l.integers) (row_seen mine _ l.booleans)
    (by_pick (λ (c : Buffer). lawful_buffer Format c ≡ true) (owns_common mine) h.conditional unset (λ e. l.conditional) (λ e. unset_buffer Format))
    (each_seen (λ b. lawful_buffer Format b ≡ true) (unset_buffer Format) mine 16 h.outputs l.outputs)
    (each_seen (λ b. lawful_buffer InputFormat b ≡ true) (unset_buffer InputFormat) mine 0 h.inputs l.inputs)
