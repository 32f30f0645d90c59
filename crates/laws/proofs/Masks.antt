-- Laws of words as masks: what `&`, `|`, `^` and `!` do, they do to each place by itself; how many ones a word has, and the
-- least of them.
-- Assumes nothing.
use mathlib.Core.Path.{◌≡◌, refl, sym, ap, ap₂, ◌∙◌}
use mathlib.Core.Bool.{Bool, true, false, not}
use Prim.Native.Nat.{ℕ, zero, suc, ◌+◌, ◌-◌, ◌*◌, ◌/◌, ◌%◌, ◌^◌, ◌<◌, ◌≤◌, min, max, zero-le, suc-le-suc}
use native.Mathlib.Nat.{pow-suc, zero-div, not-suc-le-zero, le_of_suc-le-suc}
use native.Mathlib.Omega.{arith}
use lib.Dec.{eqb}
use lib.Pow.{pow_pos, shr-shr}
use lib.Bits.{bit_and, bit_or, bit_xor, and_step, or_step, xor_step}
use lib.Count.{ones, ones_in, ones_step}
use borrow.Author.Tests.{eqb-true, eqb-false, eq-eqb, ne_eqb}
use Rattle.laws.specs.Choice.{◌and◌}
use Rattle.laws.specs.Masks.{◌or◌, differ, digit, on, pack, Places}
use Rattle.laws.specs.Below.{some, sum, count, least}
use Rattle.laws.proofs.Choice.{Tested, holds, fails, tested}
use Rattle.laws.proofs.Below.{least_here, least_later, least_same}

pub digit_lt : (b : Bool) → digit b < 2
unfolding digit
digit_lt true = omega arith
digit_lt false = omega arith

-- a word of places below `k` is below `2 ^ k`
pub pack_lt : (k : ℕ) (f : ℕ → Bool) → pack k f < 2 ^ k
unfolding pack
pack_lt zero f = omega arith
pack_lt (suc k) f = omega (arith, pack_lt k (λ i. f (suc i)), digit_lt (f zero), pow-suc 2 k)

-- the same tests below `k` make the same word
pub pack_same : (k : ℕ) (f g : ℕ → Bool) → ((i : ℕ) → i < k → f i ≡ g i) → pack k f ≡ pack k g
unfolding pack
pack_same zero f g h = refl
pack_same (suc k) f g h =
    ap₂ (λ (b : Bool) (n : ℕ). digit b + n * 2) (h zero (suc-le-suc zero-le))
    (pack_same k (λ i. f (suc i)) (λ i. g (suc i)) (λ i p. h (suc i) (suc-le-suc p)))

-- the lowest place of a word, and the places above it
module _ (k : ℕ) (f : ℕ → Bool) where
  pub pack_low : pack (suc k) f % 2 ≡ digit (f zero)
  unfolding pack
  pack_low = omega (arith, digit_lt (f zero))

  pub pack_high : pack (suc k) f / 2 ≡ pack k (λ i. f (suc i))
  unfolding pack
  pack_high = omega (arith, digit_lt (f zero))

-- an operation on words that works on each digit by itself, `d` on digits and `t` on tests
module _ (op d : ℕ → ℕ → ℕ) (t : Bool → Bool → Bool)
    (step : (a b : ℕ) → op a b ≡ op (a / 2) (b / 2) * 2 + d (a % 2) (b % 2))
    (none : op 0 0 ≡ 0)
    (same : (x y : Bool) → d (digit x) (digit y) ≡ digit (t x y)) where
  pack_op : (k : ℕ) (f g : ℕ → Bool) → op (pack k f) (pack k g) ≡ pack k (λ i. t (f i) (g i))
  unfolding pack
  pack_op zero f g = none
  pack_op (suc k) f g =
      step (pack (suc k) f) (pack (suc k) g) ∙
      ap₂ (λ (x y : ℕ). x * 2 + y)
      (ap₂ op (pack_high k f) (pack_high k g) ∙ pack_op k (λ i. f (suc i)) (λ i. g (suc i)))
      (ap₂ d (pack_low k f) (pack_low k g) ∙ same (f zero) (g zero)) ∙
      swap (pack k (λ i. t (f (suc i)) (g (suc i)))) (digit (t (f zero) (g zero)))
    where
      swap : (a b : ℕ) → a * 2 + b ≡ b + a * 2
      swap a b = omega arith

min_digits : (x y : Bool) → min (digit x) (digit y) ≡ digit (x and y)
unfolding digit ◌and◌
min_digits true true = refl
min_digits true false = refl
min_digits false true = refl
min_digits false false = refl

max_digits : (x y : Bool) → max (digit x) (digit y) ≡ digit (x or y)
unfolding digit ◌or◌
max_digits true true = refl
max_digits true false = refl
max_digits false true = refl
max_digits false false = refl

differ_digits : (x y : Bool) → lib.Bits.differ (digit x) (digit y) ≡ digit (differ x y)
unfolding digit differ
differ_digits true true = refl
differ_digits true false = refl
differ_digits false true = refl
differ_digits false false = refl

-- where two words are known place by place, so are their `&`, `|` and `^`
module _ {k a b : ℕ} {f g : ℕ → Bool} where
  pub and_places : Places k f a → Places k g b → Places k (λ i. f i and g i) (bit_and a b)
  and_places p q =
      record { word = ap₂ bit_and p.word q.word ∙ pack_op bit_and min ◌and◌ and_step refl min_digits k f g }

  pub or_places : Places k f a → Places k g b → Places k (λ i. f i or g i) (bit_or a b)
  or_places p q =
      record { word = ap₂ bit_or p.word q.word ∙ pack_op bit_or max ◌or◌ or_step refl max_digits k f g }

  pub xor_places : Places k f a → Places k g b → Places k (λ i. differ (f i) (g i)) (bit_xor a b)
  xor_places p q =
      record {
        word = ap₂ bit_xor p.word q.word ∙ pack_op bit_xor lib.Bits.differ differ xor_step refl differ_digits k f g;
      }

not_digit : (b : Bool) → digit b + digit (not b) ≡ 1
unfolding digit
not_digit true = refl
not_digit false = refl

pack_not : (k : ℕ) (f : ℕ → Bool) → (2 ^ k - 1) - pack k f ≡ pack k (λ i. not (f i))
unfolding pack
pack_not zero f = refl
pack_not (suc k) f =
    omega
    (arith, pow-suc 2 k, pow_pos k, pack_lt k (λ i. f (suc i)), pack_not k (λ i. f (suc i)), not_digit (f zero))

-- and so is the word with each of its `k` bits turned
pub not_places : {k a : ℕ} {f : ℕ → Bool} → Places k f a → Places k (λ i. not (f i)) ((2 ^ k - 1) - a)
not_places {k} {a} {f} p = record { word = ap (λ (n : ℕ). (2 ^ k - 1) - n) p.word ∙ pack_not k f }

-- bit 0 and the bits above it
pub on_zero : (n : ℕ) → on zero n ≡ eqb (n % 2) 1
unfolding on
on_zero n = ap (λ (m : ℕ). eqb m 1) (low n)
  where
    low : (n : ℕ) → n / 2 ^ 0 % 2 ≡ n % 2
    low n = omega arith

pub on_suc : (i n : ℕ) → on (suc i) n ≡ on i (n / 2)
unfolding on
on_suc i n = ap (λ (m : ℕ). eqb (m % 2) 1) (ap (λ (j : ℕ). n / 2 ^ j) (turn i) ∙ sym (shr-shr n 1 i))
  where
    turn : (i : ℕ) → suc i ≡ 1 + i
    turn i = omega arith

digit_on : (n : ℕ) → digit (eqb (n % 2) 1) ≡ n % 2
unfolding digit
digit_on n = go (tested (eqb (n % 2) 1))
  where
    go : Tested (eqb (n % 2) 1) → digit (eqb (n % 2) 1) ≡ n % 2
    go (holds e) = rw e (sym (eqb-true _ _ e))
    go (fails e) = rw e (omega (arith, eqb-false (n % 2) 1 e))

on_digit : (b : Bool) → eqb (digit b) 1 ≡ b
unfolding digit
on_digit true = refl
on_digit false = refl

-- a word is made of its bits
pub pack_on : (k m : ℕ) → m < 2 ^ k → m ≡ pack k (λ i. on i m)
unfolding pack
pack_on zero m h = omega arith
pack_on (suc k) m h =
    let rest : m / 2 < 2 ^ k = omega (arith, pow-suc 2 k) in
    parts m ∙
    ap₂ (λ (x y : ℕ). x + y * 2)
    (sym (ap digit (on_zero m) ∙ digit_on m))
    (pack_on k (m / 2) rest ∙ pack_same k (λ i. on i (m / 2)) (λ i. on (suc i) m) (λ i p. sym (on_suc i m)))
  where
    parts : (m : ℕ) → m ≡ m % 2 + m / 2 * 2
    parts m = omega arith

-- and its bits are the tests that it was made of
pub on_pack : (k i : ℕ) (f : ℕ → Bool) → i < k → on i (pack k f) ≡ f i
on_pack zero i f h = absurd (not-suc-le-zero h)
on_pack (suc k) zero f h = on_zero _ ∙ ap (λ (n : ℕ). eqb n 1) (pack_low k f) ∙ on_digit (f zero)
on_pack (suc k) (suc i) f h =
    on_suc i _ ∙ ap (on i) (pack_high k f) ∙ on_pack k i (λ j. f (suc j)) (le_of_suc-le-suc h)

-- with no bit from place `k` on
pub on_above : (k i : ℕ) (f : ℕ → Bool) → k ≤ i → on i (pack k f) ≡ false
unfolding pack on
on_above zero i f h = ap (λ (n : ℕ). eqb (n % 2) 1) (zero-div (2 ^ i))
on_above (suc k) zero f h = absurd (not-suc-le-zero h)
on_above (suc k) (suc i) f h =
    on_suc i _ ∙ ap (on i) (pack_high k f) ∙ on_above k i (λ j. f (suc j)) (le_of_suc-le-suc h)

-- a word is 0 exactly when no test holds
pub none_zero : (k : ℕ) (f : ℕ → Bool) → eqb (pack k f) 0 ≡ not (some k f)
unfolding pack some digit ◌or◌
none_zero zero f = refl
none_zero (suc k) f = go (f zero) (pack k (λ i. f (suc i))) (some k (λ i. f (suc i))) (none_zero k (λ i. f (suc i)))
  where
    odd : (n : ℕ) → digit true + n * 2 ≡ 0 → ⊥
    odd n h = omega arith

    even : (n : ℕ) → Tested (eqb n 0) → eqb (digit false + n * 2) 0 ≡ eqb n 0
    even n (holds e) = let z : n ≡ 0 = eqb-true n 0 e in eq-eqb (0 + n * 2) 0 (omega arith) ∙ sym e
    even n (fails e) = let z : n ≡ 0 → ⊥ = eqb-false n 0 e in ne_eqb (0 + n * 2) 0 (λ q. z (omega arith)) ∙ sym e

    go : (b : Bool) (n : ℕ) (t : Bool) → eqb n 0 ≡ not t → eqb (digit b + n * 2) 0 ≡ not (b or t)
    go true n t h = ne_eqb _ _ (odd n)
    go false n t h = even n (tested (eqb n 0)) ∙ h

-- the ones of a word are the places at which its test holds
pub ones_count : (k : ℕ) (f : ℕ → Bool) → ones (pack k f) ≡ count k f
unfolding count sum pack ones ones_in
ones_count zero f = refl
ones_count (suc k) f =
    ones_step (pack (suc k) f) ∙ ap₂ ◌+◌ (pack_low k f) (ap ones (pack_high k f) ∙ ones_count k (λ i. f (suc i)))

-- the least place of a word, bit by bit from the lowest
pub least_odd : (k n : ℕ) → n % 2 ≡ 1 → least (suc k) (λ i. on i n) ≡ 0
least_odd k n e = least_here k (λ i. on i n) (on_zero n ∙ eq-eqb (n % 2) 1 e)

pub least_even : (k n : ℕ) → (n % 2 ≡ 1 → ⊥) → least (suc k) (λ i. on i n) ≡ suc (least k (λ i. on i (n / 2)))
least_even k n e =
    least_later k (λ i. on i n) (on_zero n ∙ ne_eqb (n % 2) 1 e) ∙
    ap suc (least_same k (λ i. on (suc i) n) (λ i. on i (n / 2)) (λ i h. on_suc i n))

-- the count of a word's ones is the number of its places
pub ones_places : (k n : ℕ) → n < 2 ^ k → ones n ≡ count k (λ i. on i n)
ones_places k n h = ap ones (pack_on k n h) ∙ ones_count k (λ i. on i n)
