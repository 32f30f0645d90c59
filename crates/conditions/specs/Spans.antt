-- A condition and a value as a span of the numbers below 2^16, so that a number is tested by one comparison whatever the condition; and
-- bytes written to a room one after the other. Assumes nothing.
use Rattle.std.specs.Prelude.{◌≡◌, ℕ, zero, suc, ◌+◌, ◌-◌, ◌%◌, ◌^◌, ◌<◌, Bool, List, nat_le, slice_set}
use Rattle.laws.specs.Masks.{differ, digit}
use Rattle.conditions.specs.Conditions.{passes, word_in}

-- The span of `low` has `top` + 1 numbers: from `low` on, and after 2^16 - 1 from 0 on. A number passes that is in it, or, where `outside`
-- holds, that isn't.
unfoldable pub in_span : ℕ → ℕ → Bool → ℕ → Bool
in_span low top outside b = differ (nat_le ((b + (2 ^ 16 - low)) % 2 ^ 16) top) outside

-- the span that a condition and a value have
pub record SpanOf (test v low top : ℕ) (outside : Bool) : Type 0 where
  pub same : (b : ℕ) → b < 2 ^ 16 → in_span low top outside b ≡ passes test v b

-- the byte of the number at a place of memory: 1 where it passes
unfoldable pub span_bit : ℕ → ℕ → Bool → List ℕ → ℕ → ℕ
span_bit low top outside m at = digit (in_span low top outside (word_in m at))

-- the room after the bytes f 0, f 1, and so on, `n` of them, were written from the place `line` on
unfoldable pub written : ℕ → (ℕ → ℕ) → ℕ → List ℕ → List ℕ
written line f zero room = room
written line f (suc n) room = slice_set (written line f n room) (line + n) (f n)
