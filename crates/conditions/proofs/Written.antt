-- Bytes written one after the other. Assumes nothing.
use Rattle.std.proofs.Common.{◌≡◌, ℕ, zero, suc, ◌+◌, ◌^◌, ◌<◌, ◌≤◌, Bool, true, false, List, length, get_or, set, sym, refl, ap, ◌∙◌, ap₂, arith, length-set}
use mir.Val.{bool_byte}
use Rattle.laws.specs.Below.{sum}
use Rattle.laws.proofs.Below.{sum_last}
use Rattle.laws.specs.Masks.{digit}
use Rattle.conditions.specs.Conditions.{word_in}
use Rattle.conditions.specs.Spans.{in_span, span_bit, written}

digit_few : (t : Bool) → digit t ≤ 1
unfolding digit
digit_few true = omega arith
digit_few false = omega arith

pub length_written : (line : ℕ) (f : ℕ → ℕ) (n : ℕ) (room : List ℕ) → length (written line f n room) ≡ length room
unfolding written
length_written line f zero room = refl
length_written line f (suc n) room = length-set (written line f n room) (line + n) (f n) ∙ length_written line f n room

-- one byte more, and one more counted
pub written_one :
    (line : ℕ) (f : ℕ → ℕ) (i : ℕ) (before room : List ℕ) (bit : ℕ) → room ≡ written line f i before → bit ≡ f i →
    set room (line + i) bit ≡ written line f (i + 1) before
unfolding written
written_one line f i before room bit er eb =
    ap₂ (λ (q : List ℕ) (z : ℕ). set q (line + i) z) er eb ∙
    ap (λ (n : ℕ). written line f n before) {x = suc i} {y = i + 1} (omega arith)

pub counted_one : (f : ℕ → ℕ) (i passed bit : ℕ) → passed ≡ sum i f → bit ≡ f i → passed + bit ≡ sum (i + 1) f
counted_one f i passed bit es eb =
    omega (arith, es, eb, sum_last i f, ap (λ (n : ℕ). sum n f) {x = suc i} {y = i + 1} (omega arith))

-- some written after others
pub written_more :
    (line : ℕ) (f g : ℕ → ℕ) (i n : ℕ) (room : List ℕ) → ((j : ℕ) → j < n → g j ≡ f (i + j)) →
    written (line + i) g n (written line f i room) ≡ written line f (i + n) room
unfolding written
written_more line f g i zero room same =
    ap (λ (n : ℕ). written line f n room) {x = i} {y = i + zero} (omega arith)
written_more line f g i (suc n) room same =
    ap₂ (λ (q : List ℕ) (z : ℕ). set q (line + i + n) z)
    (written_more line f g i n room (λ j h. same j (omega (arith, h))))
    (same n (omega arith)) ∙
    ap (λ (p : ℕ). set (written line f (i + n) room) p (f (i + n))) {x = line + i + n} {y = line + (i + n)} (omega arith) ∙
    ap (λ (k : ℕ). written line f k room) {x = suc (i + n)} {y = i + suc n} (omega arith)

none_summed : (f : ℕ → ℕ) → sum zero f ≡ 0
unfolding sum
none_summed f = refl

pub sum_more :
    (f g : ℕ → ℕ) (i n : ℕ) → ((j : ℕ) → j < n → g j ≡ f (i + j)) → sum i f + sum n g ≡ sum (i + n) f
sum_more f g i zero same =
    omega (arith, none_summed g, ap (λ (n : ℕ). sum n f) {x = i} {y = i + zero} (omega arith))
sum_more f g i (suc n) same =
    omega (
      arith,
      sum_last n g,
      sum_last (i + n) f,
      sum_more f g i n (λ j h. same j (omega (arith, h))),
      same n (omega arith),
      ap (λ (k : ℕ). sum k f) {x = suc (i + n)} {y = i + suc n} (omega arith),
    )

-- the same bytes
pub written_same :
    (line : ℕ) (f g : ℕ → ℕ) (n : ℕ) (room : List ℕ) → ((j : ℕ) → j < n → g j ≡ f j) → written line g n room ≡ written line f n room
unfolding written
written_same line f g zero room same = refl
written_same line f g (suc n) room same =
    ap₂ (λ (q : List ℕ) (z : ℕ). set q (line + n) z) (written_same line f g n room (λ j h. same j (omega (arith, h))))
    (same n (omega arith))

-- bytes of 1 and 0 add up to no more than their number
pub sum_few : (n : ℕ) (f : ℕ → ℕ) → ((i : ℕ) → f i ≤ 1) → sum n f ≤ n
sum_few zero f few = omega (arith, none_summed f)
sum_few (suc n) f few = omega (arith, sum_last n f, sum_few n f few, few n)

pub bit_few : (low top : ℕ) (outside : Bool) (m : List ℕ) (at : ℕ) → span_bit low top outside m at ≤ 1
unfolding span_bit
bit_few low top outside m at = digit_few (in_span low top outside (word_in m at))

-- nothing written yet
pub written_none : (line : ℕ) (f : ℕ → ℕ) (room : List ℕ) → room ≡ written line f 0 room
unfolding written
written_none line f room = refl

pub none_counted : (f : ℕ → ℕ) → 0 ≡ sum 0 f
none_counted f = sym (none_summed f)

-- four bytes one by one
module _ (line : ℕ) (f : ℕ → ℕ) (a b c d : ℕ) (ea : a ≡ f 0) (eb : b ≡ f 1) (ec : c ≡ f 2) (ed : d ≡ f 3) where
  pub four_written :
      (room : List ℕ) → set (set (set (set room line a) (line + 1) b) (line + 2) c) (line + 3) d ≡ written line f 4 room
  unfolding written
  four_written room =
      ap₂ (λ (q : List ℕ) (z : ℕ). set q (line + 3) z)
      (ap₂ (λ (q : List ℕ) (z : ℕ). set q (line + 2) z)
      (ap₂ (λ (q : List ℕ) (z : ℕ). set q (line + 1) z)
      (ap₂ (λ (p z : ℕ). set room p z) {x = line} {y = line + 0} (omega arith) ea) eb) ec) ed

  pub four_counted : a + b + c + d ≡ sum 4 f
  unfolding sum
  four_counted = omega (arith, ea, eb, ec, ed)

-- a number is below 2^16
pub word_few : (m : List ℕ) (at : ℕ) → get_or m at 0 < 256 → get_or m (at + 1) 0 < 256 → word_in m at < 2 ^ 16
unfolding word_in
word_few m at h0 h1 = omega (arith, h0, h1)

byte_digit : (t : Bool) → bool_byte t ≡ digit t
unfolding digit
byte_digit true = refl
byte_digit false = refl

-- the byte of the number at a place
pub bit_is :
    (low top : ℕ) (outside : Bool) (m : List ℕ) (at b : ℕ) (passed : Bool) → b ≡ word_in m at → passed ≡ in_span low top outside b →
    bool_byte passed ≡ span_bit low top outside m at
unfolding span_bit
bit_is low top outside m at b passed eb ep = byte_digit passed ∙ ap digit (ep ∙ ap (in_span low top outside) eb)

-- what a call writes and counts after what was before
module _ (f g : ℕ → ℕ) (i n k : ℕ) (same : (j : ℕ) → j < n → g j ≡ f (i + j)) (all : k ≡ i + n) where
  pub written_next :
      (line at : ℕ) (before room after : List ℕ) → room ≡ written line f i before → at ≡ line + i → after ≡ written at g n room →
      after ≡ written line f k before
  written_next line at before room after er ea ew =
      ew ∙ ap₂ (λ (p : ℕ) (q : List ℕ). written p g n q) ea er ∙ written_more line f g i n before same ∙
      ap (λ (z : ℕ). written line f z before) (sym all)

  pub counted_next : (passed r : ℕ) → passed ≡ sum i f → r ≡ sum n g → passed + r ≡ sum k f
  counted_next passed r ep er =
      ap₂ (λ (p q : ℕ). p + q) ep er ∙ sum_more f g i n same ∙ ap (λ (z : ℕ). sum z f) (sym all)
