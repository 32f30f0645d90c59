-- One processor by its bits: which bits go together, and which counters they show. Laws over bits are computed for each way of them.
-- Assumes nothing.
use mathlib.Core.Path.{◌≡◌, refl, sym, ap}
use mathlib.Core.Bool.{Bool, true, false, not, true≢false}
use Prim.Native.Nat.{ℕ, ◌≤◌}
use native.Mathlib.Omega.{arith}
use lib.Dec.{leb}
use borrow.Author.Tests.{leb-true}
use Rattle.laws.specs.Choice.{◌and◌}
use Rattle.laws.specs.Below.{every}
use Rattle.laws.specs.Masks.{◌or◌, digit, on}
use Rattle.laws.proofs.Choice.{and_left, and_right, and_no_right}
use Rattle.laws.proofs.Below.{every_at}
use Rattle.group.specs.Proc.{Proc, Active, Idle, Absent, is_live, is_active, counter_bit, within}
use Rattle.group.specs.Cells.{counter_of, proc_of}

-- two tests agree
abbrev same : Bool → Bool → Bool
same true b = b
same false true = false
same false false = true

same_true : (a b : Bool) → same a b ≡ true → a ≡ b
same_true true b e = sym e
same_true false true e = e
same_true false false e = refl

-- a test of two, four, eight bits holds whatever they are
abbrev one : (Bool → Bool) → Bool
one t = t true and t false

by_one : (t : Bool → Bool) → one t ≡ true → (a : Bool) → t a ≡ true
by_one t h true = and_left (t true) (t false) h
by_one t h false = and_right (t true) (t false) h

abbrev two : (Bool → Bool → Bool) → Bool
two t = one (λ a. one (t a))

by_two : (t : Bool → Bool → Bool) → two t ≡ true → (a b : Bool) → t a b ≡ true
by_two t h a = by_one (t a) (by_one (λ a. one (t a)) h a)

abbrev four : (Bool → Bool → Bool → Bool → Bool) → Bool
four t = two (λ a b. two (t a b))

by_four : (t : Bool → Bool → Bool → Bool → Bool) → four t ≡ true → (a b c d : Bool) → t a b c d ≡ true
by_four t h a b = by_two (t a b) (by_two (λ a b. two (t a b)) h a b)

abbrev eight : (Bool → Bool → Bool → Bool → Bool → Bool → Bool → Bool → Bool) → Bool
eight t = four (λ a b c d. four (t a b c d))

by_eight :
    (t : Bool → Bool → Bool → Bool → Bool → Bool → Bool → Bool → Bool) → eight t ≡ true →
    (a b c d e f g h : Bool) → t a b c d e f g h ≡ true
by_eight t q a b c d = by_four (t a b c d) (by_four (λ a b c d. four (t a b c d)) q a b c d)

-- the bits of a processor don't go together: in the group, active, killed, and its counter's
abbrev pub stray : Bool → Bool → Bool → Bool → Bool → Bool → Bool → Bool → Bool
stray live active killed b0 b1 b2 b3 b4 =
    ((active and not live) or (killed and live)) or (((((b0 or b1) or b2) or b3) or b4) and not (live and not active))

-- where they do, they are just those of the processor that they show
pub record OwnBits (live active killed b0 b1 b2 b3 b4 : Bool) (p : Proc) : Type 0 where
  pub active_bit : active ≡ is_active p
  pub bit0 : b0 ≡ counter_bit 0 p
  pub bit1 : b1 ≡ counter_bit 1 p
  pub bit2 : b2 ≡ counter_bit 2 p
  pub bit3 : b3 ≡ counter_bit 3 p
  pub bit4 : b4 ≡ counter_bit 4 p
  pub killed_bit : killed ≡ true → p ≡ Absent

-- the same as a test, to be computed
abbrev owns : Bool → Bool → Bool → Bool → Bool → Bool → Bool → Bool → Bool
owns live active killed b0 b1 b2 b3 b4 =
    let p = proc_of live active (counter_of b0 b1 b2 b3 b4) in
    same active (is_active p) and same b0 (counter_bit 0 p) and same b1 (counter_bit 1 p) and same b2 (counter_bit 2 p) and
    same b3 (counter_bit 3 p) and same b4 (counter_bit 4 p) and (not killed or not (is_live p))

or_no : (a b : Bool) → (a or b) ≡ true → a ≡ false → b ≡ true
unfolding ◌or◌
or_no true b e f = absurd (true≢false f)
or_no false b e f = e

not_live : (k : Bool) (p : Proc) → (not k or not (is_live p)) ≡ true → k ≡ true → p ≡ Absent
unfolding ◌or◌
not_live true Active e f = absurd (true≢false (sym e))
not_live true (Idle n) e f = absurd (true≢false (sym e))
not_live true Absent e f = refl
not_live false p e f = absurd (true≢false (sym f))

module _ (live active killed b0 b1 b2 b3 b4 : Bool) where
  computed : (stray live active killed b0 b1 b2 b3 b4 or owns live active killed b0 b1 b2 b3 b4) ≡ true
  unfolding ◌and◌ ◌or◌ digit on
  computed =
      by_eight (λ l a k c0 c1 c2 c3 c4. stray l a k c0 c1 c2 c3 c4 or owns l a k c0 c1 c2 c3 c4) refl live active killed b0 b1 b2 b3 b4

  pub own_bits :
      stray live active killed b0 b1 b2 b3 b4 ≡ false →
      OwnBits live active killed b0 b1 b2 b3 b4 (proc_of live active (counter_of b0 b1 b2 b3 b4))
  own_bits e =
      let t = or_no _ (owns live active killed b0 b1 b2 b3 b4) computed e in
      let t0 = and_right _ _ t in
      let t1 = and_right _ _ t0 in
      let t2 = and_right _ _ t1 in
      let t3 = and_right _ _ t2 in
      let t4 = and_right _ _ t3 in
      record {
        active_bit = same_true _ _ (and_left _ _ t);
        bit0 = same_true _ _ (and_left _ _ t0);
        bit1 = same_true _ _ (and_left _ _ t1);
        bit2 = same_true _ _ (and_left _ _ t2);
        bit3 = same_true _ _ (and_left _ _ t3);
        bit4 = same_true _ _ (and_left _ _ t4);
        killed_bit = not_live killed _ (and_right _ _ t4);
      }

-- who is in the group
pub live_bit : (live active : Bool) (n : ℕ) → live ≡ is_live (proc_of live active n)
live_bit true true n = refl
live_bit true false n = refl
live_bit false a n = refl

-- and back: a processor's own bits go together
pub own_not_stray :
    (p : Proc) (killed : Bool) → (killed ≡ true → p ≡ Absent) →
    stray (is_live p) (is_active p) killed (counter_bit 0 p) (counter_bit 1 p) (counter_bit 2 p) (counter_bit 3 p) (counter_bit 4 p) ≡ false
unfolding ◌and◌ ◌or◌
own_not_stray Active true h = ap is_live (h refl)
own_not_stray Active false h = refl
own_not_stray (Idle n) true h = ap is_live (h refl)
own_not_stray (Idle n) false h = and_no_right ((((on 0 n or on 1 n) or on 2 n) or on 3 n) or on 4 n) refl
own_not_stray Absent true h = refl
own_not_stray Absent false h = refl

-- counters: five bits hold none above 31, and one above 5 has bit 3 or 4, or bits 1 and 2
abbrev pub high : Bool → Bool → Bool → Bool → Bool
high b1 b2 b3 b4 = (b3 or b4) or (b1 and b2)

abbrev five : (Bool → Bool → Bool → Bool → Bool → Bool) → Bool
five t = one (λ a. four (t a))

by_five : (t : Bool → Bool → Bool → Bool → Bool → Bool) → five t ≡ true → (a b c d e : Bool) → t a b c d e ≡ true
by_five t h a = by_four (t a) (by_one (λ a. four (t a)) h a)

pub full_counter : (b0 b1 b2 b3 b4 : Bool) → leb (counter_of b0 b1 b2 b3 b4) 31 ≡ true
unfolding ◌and◌ digit
full_counter = by_five (λ b0 b1 b2 b3 b4. leb (counter_of b0 b1 b2 b3 b4) 31) refl

pub partial_counter : (b0 b1 b2 b3 b4 : Bool) → high b1 b2 b3 b4 ≡ false → leb (counter_of b0 b1 b2 b3 b4) 5 ≡ true
unfolding ◌and◌ ◌or◌ digit
partial_counter b0 b1 b2 b3 b4 =
    or_no _ _ (by_five (λ b0 b1 b2 b3 b4. high b1 b2 b3 b4 or leb (counter_of b0 b1 b2 b3 b4) 5) refl b0 b1 b2 b3 b4)

pub shown_within : (limit : ℕ) (live active : Bool) (n : ℕ) → leb n limit ≡ true → within limit (proc_of live active n) ≡ true
shown_within limit true true n e = refl
shown_within limit true false n e = e
shown_within limit false a n e = refl

-- and back
pub low_not_high : (p : Proc) → within 5 p ≡ true → high (counter_bit 1 p) (counter_bit 2 p) (counter_bit 3 p) (counter_bit 4 p) ≡ false
unfolding ◌and◌ ◌or◌ on every
low_not_high Active w = refl
low_not_high (Idle n) w =
    let h : n ≤ 5 = leb-true n 5 w in
    not_no _ (every_at 6 (λ m. not (high (on 1 m) (on 2 m) (on 3 m) (on 4 m))) refl n (omega arith))
  where
    not_no : (b : Bool) → not b ≡ true → b ≡ false
    not_no true e = sym e
    not_no false e = refl
low_not_high Absent w = refl
