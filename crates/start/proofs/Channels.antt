-- The mask's bits of an output: the code finds a remainder of them that isn't 0 exactly where the output isn't silent, and that has
-- as many ones as the output has unmasked channels, at every output and every format code. Assumes nothing.
use mathlib.Core.Path.{◌≡◌, refl, sym, ap, ◌∙◌}
use mathlib.Core.Bool.{Bool, true, false, not}
use mathlib.Core.List.{[], ◌∷◌}
use Prim.Native.Nat.{ℕ, ◌+◌, ◌-◌, ◌*◌, ◌/◌, ◌%◌, ◌^◌, ◌<◌, ◌≤◌}
use native.Mathlib.Nat.{zero-add, mod-lt, mod-one, le_trans, le_of_eq, lt_of_lt_of_le}
use native.Mathlib.Omega.{arith}
use lib.Bits.{bit_and, and_mask}
use lib.Dec.{eqb, leb, ltb}
use lib.ListN.{get_or-eq_default}
use lib.Pow.{pow_pos, pow_mono, shr-shr, field, mod-mod-pow}
use borrow.Author.Tests.{eq-eqb, ne_eqb, eqb-true, leb-true, ltb-true, ltb-false}
use Rattle.laws.specs.Below.{some, every, sum, count}
use Rattle.laws.specs.Choice.{◌and◌}
use Rattle.laws.proofs.Choice.{Tested, holds, fails, tested, pick_yes, pick_no}
use Rattle.laws.specs.Masks.{on, digit}
use Rattle.laws.proofs.Below.{some_same, every_at, none_at, count_same, count_none, count_bounded}
use Rattle.laws.proofs.Masks.{pack_on, none_zero, ones_places}
use Rattle.command.specs.Format.{channels_of, code_of}
use Rattle.state.specs.Start.{unmasked, channels_unmasked}
use Rattle.start.specs.Windows.{ones_in, channels_by}

-- the bits below `k` of a word are those of its remainder
low_on : (k m i : ℕ) → i < k → on i (m % 2 ^ k) ≡ on i m
unfolding on
low_on k m i h =
    let j = k - 1 - i in
    let e : k ≡ (j + 1) + i = omega arith in
    ap (λ (x : ℕ). eqb x 1)
    (ap (λ (x : ℕ). m % 2 ^ x / 2 ^ i % 2) e ∙ ap (λ (x : ℕ). x % 2) (field m (j + 1) i) ∙ mod-mod-pow (m / 2 ^ i) j 1)

-- the remainder is 0 exactly when none of them is set
none_low : (k m : ℕ) → eqb (m % 2 ^ k) 0 ≡ not (some k (λ i. on i m))
none_low k m =
    ap (λ (x : ℕ). eqb x 0) (pack_on k (m % 2 ^ k) (mod-lt m (pow_pos k))) ∙ none_zero k (λ i. on i (m % 2 ^ k)) ∙
    ap not (some_same k (λ i. on i (m % 2 ^ k)) (λ i. on i m) (λ i h. low_on k m i h))

-- output `n` of a mask is output 0 of the mask's bits from its own on
pub from_own : (mask n format : ℕ) → unmasked (mask / 2 ^ (4 * n)) 0 format ≡ unmasked mask n format
unfolding unmasked on
from_own mask n format =
    some_same (channels_of (code_of format)) (λ c. on (4 * 0 + c) (mask / 2 ^ (4 * n))) (λ c. on (4 * n + c) mask)
    (λ c h. ap (λ (x : ℕ). eqb (mask / 2 ^ (4 * n) / 2 ^ x % 2) 1) (zero-add c) ∙ ap (λ (x : ℕ). eqb (x % 2) 1) (shr-shr mask (4 * n) c))

not_not : (t : Bool) → not (not t) ≡ t
not_not true = refl
not_not false = refl

-- the code's test
unmasked_low : (bits format : ℕ) → eqb (bits % 2 ^ channels_of (code_of format)) 0 ≡ not (unmasked bits 0 format)
unfolding unmasked
unmasked_low bits format =
    let k = channels_of (code_of format) in
    none_low k bits ∙ ap not (some_same k (λ c. on c bits) (λ c. on (4 * 0 + c) bits) (λ c h. ap (λ (x : ℕ). on x bits) (sym (zero-add c))))

pub unmasked_told : (bits format : ℕ) {code low : ℕ} → code ≡ code_of format → low ≡ bits % 2 ^ channels_of code →
    not (eqb low 0) ≡ unmasked bits 0 format
unmasked_told bits format e h =
    ap not (ap (λ (x : ℕ). eqb x 0) (h ∙ ap (λ (x : ℕ). bits % 2 ^ channels_of x) e) ∙ unmasked_low bits format) ∙ not_not _

-- the bits that the code has for each format code: as many ones as it has channels
channels_right : ℕ → Bool
channels_right code = eqb (995825 / 2 ^ (4 * code) % 16) (2 ^ channels_of code - 1)

channels_right_lem : (code : ℕ) → code < 8 → channels_right code ≡ true
unfolding channels_right channels_of every ◌and◌
channels_right_lem = every_at 8 channels_right refl

pub bits_read : (bits code : ℕ) → code ≤ 7 → bit_and bits (995825 / 2 ^ (4 * code) % 16) ≡ bits % 2 ^ channels_of code
unfolding channels_right
bits_read bits code h = ap (bit_and bits) (eqb-true _ _ (channels_right_lem code (omega arith))) ∙ and_mask bits (channels_of code)

pub bits_past : (bits code : ℕ) → 7 < code → 0 ≡ bits % 2 ^ channels_of code
unfolding channels_of
bits_past bits code h =
    sym (ap (λ (x : ℕ). bits % 2 ^ x) (get_or-eq_default (1 ∷ 4 ∷ 1 ∷ 2 ∷ 4 ∷ []) 0 {n = code} (omega arith)) ∙ mod-one bits)

-- the digits that the code has for the numbers of four bits: how many ones each has
ones_right : ℕ → Bool
ones_right four = eqb (4841987667533046032 / 2 ^ (4 * four) % 16) (count 4 (λ c. on c four))

ones_right_lem : (four : ℕ) → four < 16 → ones_right four ≡ true
unfolding ones_right count sum on digit every ◌and◌
ones_right_lem = every_at 16 ones_right refl

pub ones_read : (four : ℕ) → four < 16 → 4841987667533046032 / 2 ^ (4 * four) % 16 ≡ ones_in four
unfolding ones_right ones_in
ones_read four h = eqb-true _ _ (ones_right_lem four h)

pub ones_most : (four : ℕ) → ones_in four ≤ 4
unfolding ones_in
ones_most four = count_bounded 4 (λ c. on c four)

few_channels : (code : ℕ) → code < 5 → leb (channels_of code) 4 ≡ true
unfolding channels_of every ◌and◌
few_channels = every_at 5 (λ k. leb (channels_of k) 4) refl

channels_most : (code : ℕ) → channels_of code ≤ 4
unfolding channels_of
channels_most code = go (tested (ltb code 5))
  where
    go : Tested (ltb code 5) → channels_of code ≤ 4
    go (holds e) = leb-true _ _ (few_channels code (ltb-true _ _ e))
    go (fails e) = le_trans (le_of_eq (get_or-eq_default {A = ℕ} (1 ∷ 4 ∷ 1 ∷ 2 ∷ 4 ∷ []) 0 {n = code} (omega (arith, ltb-false code 5 e)))) (omega arith)

-- output `n` of a mask is output 0 of the mask's bits from its own on, in its channels too
pub channels_own : (mask n format : ℕ) → channels_unmasked (mask / 2 ^ (4 * n)) 0 format ≡ channels_unmasked mask n format
unfolding channels_unmasked on
channels_own mask n format =
    count_same (channels_of (code_of format)) (λ c. on (4 * 0 + c) (mask / 2 ^ (4 * n))) (λ c. on (4 * n + c) mask)
    (λ c h. ap (λ (x : ℕ). eqb (mask / 2 ^ (4 * n) / 2 ^ x % 2) 1) (zero-add c) ∙ ap (λ (x : ℕ). eqb (x % 2) 1) (shr-shr mask (4 * n) c))

-- the remainder has as many ones as there are unmasked channels
ones_low : (bits format : ℕ) → ones_in (bits % 2 ^ channels_of (code_of format)) ≡ channels_unmasked bits 0 format
unfolding ones_in channels_unmasked
ones_low bits format =
    let k = channels_of (code_of format) in
    let low = bits % 2 ^ k in
    let less : low < 2 ^ k = mod-lt bits (pow_pos k) in
    let most : low < 2 ^ 4 = lt_of_lt_of_le less (pow_mono (channels_most (code_of format))) in
    sym (ones_places 4 low most) ∙ ones_places k low less ∙
    count_same k (λ c. on c low) (λ c. on (4 * 0 + c) bits) (λ c h. low_on k bits c h ∙ ap (λ (x : ℕ). on x bits) (sym (zero-add c)))

low_lt : (bits format : ℕ) → bits % 2 ^ channels_of (code_of format) < 16
low_lt bits format =
    lt_of_lt_of_le (mod-lt bits (pow_pos (channels_of (code_of format)))) (pow_mono (channels_most (code_of format)))

-- so the code's four bits are four bits, and their ones the channels
pub four_bits : (bits format : ℕ) {code low : ℕ} → code ≡ code_of format → low ≡ bits % 2 ^ channels_of code → low < 16
four_bits bits format e h = rw (h ∙ ap (λ (x : ℕ). bits % 2 ^ channels_of x) e) (low_lt bits format)

module _ (bits flag format : ℕ) where
  pub channels_set : {code low n : ℕ} → flag ≡ 1 → code ≡ code_of format → low ≡ bits % 2 ^ channels_of code →
      (n ≡ ones_in low) × (n ≤ 4) → (n ≡ channels_by bits flag format) × (n ≤ 4)
  unfolding channels_by
  channels_set f e h k =
      (k.0 ∙ ap ones_in (h ∙ ap (λ (x : ℕ). bits % 2 ^ channels_of x) e) ∙ ones_low bits format ∙ sym (pick_yes _ 0 (eq-eqb flag 1 f)), k.1)

  pub channels_unset : (flag ≡ 1 → ⊥) → (0 ≡ channels_by bits flag format) × (0 ≤ 4)
  unfolding channels_by
  channels_unset n = (sym (pick_no _ 0 (ne_eqb flag 1 n)), omega arith)

-- an output that is silent has no unmasked channel
pub silent_none : (mask n format : ℕ) → unmasked mask n format ≡ false → channels_unmasked mask n format ≡ 0
unfolding unmasked channels_unmasked
silent_none mask n format e = count_none (channels_of (code_of format)) _ (none_at (channels_of (code_of format)) _ e)

pub unmasked_most : (mask n format : ℕ) → channels_unmasked mask n format ≤ 4
unfolding channels_unmasked
unmasked_most mask n format = le_trans (count_bounded (channels_of (code_of format)) _) (channels_most (code_of format))
