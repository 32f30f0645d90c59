-- The masks that a kill makes, place by place; and how many places two masks have together. Assumes nothing.
use mathlib.Core.Path.{◌≡◌, ap, ◌∙◌}
use mathlib.Core.Bool.{not}
use Prim.Native.Nat.{ℕ, ◌-◌, ◌^◌, ◌<◌}
use lib.Bits.{bit_and, bit_or}
use lib.Count.{ones}
use Rattle.laws.specs.Choice.{◌and◌}
use Rattle.laws.specs.Below.{count}
use Rattle.laws.specs.Masks.{◌or◌, on, pack, Places}
use Rattle.laws.proofs.Masks.{pack_on, and_places, or_places, not_places, ones_count}

own : (a : ℕ) → a < 2 ^ 32 → Places 32 (λ i. on i a) a
own a h = record { word = pack_on 32 a h }

module _ (a b : ℕ) (ha : a < 2 ^ 32) (hb : b < 2 ^ 32) where
  pub both_word : bit_and a b ≡ pack 32 (λ i. on i a and on i b)
  both_word = (and_places (own a ha) (own b hb)).word

  pub without_word : bit_and a (0xFFFFFFFF - b) ≡ pack 32 (λ i. on i a and not (on i b))
  without_word = (and_places (own a ha) (not_places (own b hb))).word

  pub either_word : bit_or a b ≡ pack 32 (λ i. on i a or on i b)
  either_word = (or_places (own a ha) (own b hb)).word

  pub either_count : ones (bit_or a b) ≡ count 32 (λ i. on i a or on i b)
  either_count = ap ones either_word ∙ ones_count 32 (λ i. on i a or on i b)
