-- What a party works out for a start depends on the mask bits of its own outputs alone. Assumes nothing.
use mathlib.Core.Path.{◌≡◌, refl, sym, ap, ap₂, ◌∙◌, subst}
use mathlib.Core.Bool.{Bool, true, false}
use mathlib.Core.List.{List, [], ◌∷◌}
use Prim.Native.Nat.{ℕ, zero, suc, ◌+◌, ◌*◌, ◌/◌, ◌%◌, ◌<◌, ◌≤◌}
use native.Mathlib.Nat.{le_trans, le_of_eq, add-zero, div-div-eq-div-mul}
use native.Mathlib.Omega.{arith}
use lib.Dec.{eqb, leb, ltb}
use lib.ListN.{get_or, get_or-eq_default}
use borrow.Author.Tests.{leb-true, ltb-true, ltb-false}
use Rattle.laws.specs.Below.{some, every, sum, count}
use Rattle.laws.specs.Choice.{◌and◌, pick}
use Rattle.laws.specs.Masks.{on, digit}
use Rattle.laws.proofs.Below.{some_same, every_same, every_at, sum_same, count_same}
use Rattle.laws.proofs.Choice.{pick_yes, pick_no, and_no_left, Tested, tested, holds, fails}
use Rattle.laws.proofs.Masks.{on_zero, on_suc}
use Rattle.laws.proofs.Table.{each, ◌&◌}
use Rattle.refusal.specs.Told.{gives, refuses}
use Rattle.command.specs.Format.{channels_of, code_of}
use Rattle.owners.specs.Owners.{blend, mask_by, owns_output}
use Rattle.state.specs.State.{Buffer, Domain, Gauge, Party, Shared, unset, most_extent}
use Rattle.state.specs.Seen.{seen_from, seen_outputs}
use Rattle.state.specs.Start.{
  output,
  is_set,
  unmasked,
  counts,
  covered,
  contains_domain,
  apart,
  disjoint,
  complete,
  ready_of,
  number_told,
  readiness_of,
  channels_unmasked,
  credit_at,
  credit_of,
  claim_of,
  pairs_of,
  step_of_buffer,
}
use Rattle.state.specs.Readiness.{lesser, least_extent, columns_left, rows_left, gauge_of, worked_out, readiness_for, window_for}
use Rattle.state.specs.Effects.{claim_for}
use Rattle.state.proofs.Seen.{seen_twice}
use Rattle.lessees.specs.Sight.{seen_shared}
use Rattle.owners.proofs.Blend.{blend_low, blend_high}

few_channels : (code : ℕ) → code < 5 → leb (channels_of code) 4 ≡ true
unfolding channels_of every ◌and◌
few_channels = every_at 5 (λ k. leb (channels_of k) 4) refl

channels_most : (code : ℕ) → channels_of code ≤ 4
unfolding channels_of
channels_most code = go (tested (ltb code 5))
  where
    go : Tested (ltb code 5) → channels_of code ≤ 4
    go (holds e) = leb-true _ _ (few_channels code (ltb-true _ _ e))
    go (fails e) =
        le_trans (le_of_eq (get_or-eq_default {A = ℕ} (1 ∷ 4 ∷ 1 ∷ 2 ∷ 4 ∷ []) 0 {n = code} (omega (arith, ltb-false code 5 e)))) (omega arith)

-- output `n` isn't set, or two masks have the same bits for it
pub data Alike (a b : ℕ) (os : List Buffer) (n : ℕ) : Type 0 where
  is_unset : is_set os n ≡ false → Alike a b os n
  same_bits : ((c : ℕ) → c < 4 → on (4 * n + c) a ≡ on (4 * n + c) b) → Alike a b os n

module _ (a b : ℕ) (os : List Buffer) (h : (n : ℕ) → n < 4 → Alike a b os n) where
  counts_same : (n : ℕ) → n < 4 → counts a os n ≡ counts b os n
  unfolding counts unmasked
  counts_same n k = go (h n k)
    where
      go : Alike a b os n → (is_set os n and unmasked a n (output os n).format) ≡ (is_set os n and unmasked b n (output os n).format)
      go (is_unset e) = and_no_left _ e ∙ sym (and_no_left _ e)
      go (same_bits e) =
          ap (λ (t : Bool). is_set os n and t)
          (some_same (channels_of (code_of (output os n).format)) _ _ (λ c l. e c (le_trans l (channels_most (code_of (output os n).format)))))

  credit_same : (edition n : ℕ) → n < 4 → credit_at edition a os n ≡ credit_at edition b os n
  credit_same edition n k = go (h n k)
    where
      none : (m : ℕ) → is_set os n ≡ false → credit_at edition m os n ≡ 0
      none m e = unfold credit_at counts in pick_no _ 0 (and_no_left _ e)

      go : Alike a b os n → credit_at edition a os n ≡ credit_at edition b os n
      go (is_unset e) = none a e ∙ sym (none b e)
      go (same_bits e) =
          unfold credit_at channels_unmasked in
          ap₂ (λ (t : Bool) (x : ℕ). pick t (pick (eqb edition 2) x 1) 0) (counts_same n k)
          (count_same (channels_of (code_of (output os n).format)) _ _ (λ c l. e c (le_trans l (channels_most (code_of (output os n).format)))))

  least_same : (k : ℕ) (f g : ℕ → ℕ) → ((n : ℕ) → n < k → f n ≡ g n) → least_extent k f ≡ least_extent k g
  unfolding least_extent
  least_same zero f g e = refl
  least_same (suc k) f g e =
      ap₂ lesser (e zero (omega arith)) (least_same k (λ i. f (suc i)) (λ i. g (suc i)) (λ n l. e (suc n) (omega arith)))

  disjoint_same : disjoint a os ≡ disjoint b os
  unfolding disjoint
  disjoint_same =
      every_same 4 _ _
      (λ n k. every_same n _ _
      (λ m l. ap₂ (λ (s t : Bool). pick (s and t) (apart (output os n) (output os m)) true) (counts_same n k) (counts_same m (omega arith))))

  covered_same : (d : Domain) → covered a os d ≡ covered b os d
  unfolding covered
  covered_same d = every_same 4 _ _ (λ n k. ap (λ (t : Bool). pick t (contains_domain d (output os n)) true) (counts_same n k))

  pub ready_same : (d : Domain) (instructions : Buffer) → ready_of d instructions a os ≡ ready_of d instructions b os
  unfolding ready_of
  ready_same d instructions =
      λ i. pick (complete d instructions os) (pick (covered_same d i) (pick (disjoint_same i) (gives []) (refuses 9)) (refuses 8)) (refuses 7)

  pub claim_same : (edition : ℕ) (d : Domain) → claim_of edition d a os ≡ claim_of edition d b os
  unfolding claim_of credit_of
  claim_same edition d = ap (λ (x : ℕ). pairs_of d * x) (sum_same 4 _ _ (credit_same edition))

  gauge_same : (edition : ℕ) → gauge_of a os edition ≡ gauge_of b os edition
  unfolding gauge_of columns_left rows_left credit_of
  gauge_same edition =
      λ i.
      record {
        some = digit (some 4 (is_set os));
        columns =
            least_same 4 (columns_left a os) (columns_left b os)
            (λ n k. ap (λ (t : Bool). pick t (step_of_buffer (output os n)) most_extent) (counts_same n k)) i;
        rows =
            least_same 4 (rows_left a os) (rows_left b os)
            (λ n k. ap (λ (t : Bool). pick t (output os n).height most_extent) (counts_same n k)) i;
        apart = digit (disjoint_same i);
        credit = sum_same 4 (credit_at edition a os) (credit_at edition b os) (credit_same edition) i;
      }

  pub worked_same : (edition : ℕ) (d : Domain) (instructions : Buffer) →
      worked_out edition d instructions a os ≡ worked_out edition d instructions b os
  unfolding worked_out readiness_of
  worked_same edition d instructions =
      λ i.
      record {
        number = number_told (ready_same d instructions i);
        gauge = gauge_same edition i;
        window0 = window_for (output os 0);
        window1 = window_for (output os 1);
        window2 = window_for (output os 2);
        window3 = window_for (output os 3);
      }

-- the bits of a mask from the fourth on, and the four lowest
bits_on : (j x : ℕ) → on (suc (suc (suc (suc j)))) x ≡ on j (x / 16)
bits_on j x =
    on_suc (suc (suc (suc j))) x ∙ on_suc (suc (suc j)) (x / 2) ∙ on_suc (suc j) (x / 2 / 2) ∙ on_suc j (x / 2 / 2 / 2) ∙
    ap (on j) (let e : x / 2 / 2 / 2 / 2 ≡ x / 16 = omega arith in e)

low_bits : (x y : ℕ) → x % 16 ≡ y % 16 → (c : ℕ) → c < 4 → on c x ≡ on c y
low_bits x y e =
    each (λ c. on c x ≡ on c y) 4
    (tt
    & (on_zero x ∙ ap (λ (n : ℕ). eqb n 1) (let k : x % 2 ≡ y % 2 = omega arith in k) ∙ sym (on_zero y))
    & (on_suc 0 x ∙ on_zero (x / 2) ∙ ap (λ (n : ℕ). eqb n 1) (let k : x / 2 % 2 ≡ y / 2 % 2 = omega arith in k) ∙
    sym (on_suc 0 y ∙ on_zero (y / 2)))
    & (on_suc 1 x ∙ on_suc 0 (x / 2) ∙ on_zero (x / 2 / 2) ∙
    ap (λ (n : ℕ). eqb n 1) (let k : x / 2 / 2 % 2 ≡ y / 2 / 2 % 2 = omega arith in k) ∙
    sym (on_suc 1 y ∙ on_suc 0 (y / 2) ∙ on_zero (y / 2 / 2)))
    & (on_suc 2 x ∙ on_suc 1 (x / 2) ∙ on_suc 0 (x / 2 / 2) ∙ on_zero (x / 2 / 2 / 2) ∙
    ap (λ (n : ℕ). eqb n 1) (let k : x / 2 / 2 / 2 % 2 ≡ y / 2 / 2 / 2 % 2 = omega arith in k) ∙
    sym (on_suc 2 y ∙ on_suc 1 (y / 2) ∙ on_suc 0 (y / 2 / 2) ∙ on_zero (y / 2 / 2 / 2))))

-- a blend has the first mask's bits for an output that the test names
own_bits : (n k : ℕ) (f : ℕ → Bool) (a b c : ℕ) → k < n → c < 4 → f k ≡ true → on (4 * k + c) (blend n f a b) ≡ on (4 * k + c) a
own_bits zero k f a b c l d e = absurd (omega arith)
own_bits (suc n) zero f a b c l d e =
    let z : 4 * zero + c ≡ c = omega arith in
    ap (λ (j : ℕ). on j (blend (suc n) f a b)) z ∙
    low_bits (blend (suc n) f a b) a (blend_low n f a b ∙ pick_yes _ _ e) c d ∙ ap (λ (j : ℕ). on j a) (sym z)
own_bits (suc n) (suc k) f a b c l d e =
    let z : 4 * suc k + c ≡ suc (suc (suc (suc (4 * k + c)))) = omega arith in
    ap (λ (j : ℕ). on j (blend (suc n) f a b)) z ∙ bits_on (4 * k + c) (blend (suc n) f a b) ∙
    ap (on (4 * k + c)) (blend_high n f a b) ∙
    own_bits n k (λ i. f (suc i)) (a / 16) (b / 16) c (omega arith) d e ∙
    sym (ap (λ (j : ℕ). on j a) z ∙ bits_on (4 * k + c) a)

-- what isn't one's own is seen as if it weren't set
seen_unset : (m k n : ℕ) (l : List Buffer) → on (k + n) m ≡ false → get_or (seen_from m k l) n unset ≡ unset
unfolding seen_from
seen_unset m k n [] e = refl
seen_unset m k zero (b ∷ bs) e = pick_no b unset (rw (add-zero k) at e)
seen_unset m k (suc n) (b ∷ bs) e =
    seen_unset m (suc k) n bs (subst (λ (j : ℕ). on j m ≡ false) (let z : k + suc n ≡ suc k + n = omega arith in z) e)

module _ (m mask : ℕ) (os : List Buffer) where
  own_alike : (n : ℕ) → n < 4 → Alike (mask_by m mask 0) mask (seen_outputs m os) n
  own_alike n k = go (tested (on (16 + n) m))
    where
      go : Tested (on (16 + n) m) → Alike (mask_by m mask 0) mask (seen_outputs m os) n
      go (holds e) = same_bits (λ c l. own_bits 4 n (owns_output m) mask 0 c k l e)
      go (fails e) = is_unset (unfold is_set output in ap (λ (b : Buffer). eqb b.is_set 1) (seen_unset m 16 n os e))

-- a party works out the same from what it sees
module _ (m : ℕ) (h : Shared) where
  pub seen_worked : (edition : ℕ) (d : Domain) (i : Buffer) →
      worked_out edition d i (seen_shared m h).mask (seen_outputs m (seen_shared m h).outputs) ≡ worked_out edition d i h.mask (seen_outputs m h.outputs)
  unfolding seen_shared
  seen_worked edition d i =
      ap (worked_out edition d i (mask_by m h.mask 0)) (seen_twice m 16 h.outputs) ∙
      worked_same _ _ _ (own_alike m h.mask h.outputs) edition d i

  pub seen_claim : (edition : ℕ) (d : Domain) →
      claim_of edition d (seen_shared m h).mask (seen_outputs m (seen_shared m h).outputs) ≡ claim_of edition d h.mask (seen_outputs m h.outputs)
  unfolding seen_shared
  seen_claim edition d =
      ap (claim_of edition d (mask_by m h.mask 0)) (seen_twice m 16 h.outputs) ∙
      claim_same _ _ _ (own_alike m h.mask h.outputs) edition d

  pub seen_ready : (d : Domain) (i : Buffer) →
      ready_of d i (seen_shared m h).mask (seen_outputs m (seen_shared m h).outputs) ≡ ready_of d i h.mask (seen_outputs m h.outputs)
  unfolding seen_shared
  seen_ready d i =
      ap (ready_of d i (mask_by m h.mask 0)) (seen_twice m 16 h.outputs) ∙
      ready_same _ _ _ (own_alike m h.mask h.outputs) d i
