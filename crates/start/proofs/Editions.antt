-- What a pair is credited by the two editions: the number of outputs that count by edition 1, and of their unmasked channels by
-- edition 2; so that edition 2 claims at least what edition 1 does, at most four times it, and the same of outputs with one channel.
-- Assumes nothing.
use mathlib.Core.Path.{◌≡◌, refl, sym, ap, ◌∙◌, subst}
use mathlib.Core.Bool.{Bool, true, false}
use mathlib.Core.List.{List}
use Prim.Native.Nat.{ℕ, zero, suc, ◌+◌, ◌*◌, ◌<◌, ◌≤◌}
use native.Mathlib.Nat.{mul-le-mul, mul_assoc, mul_comm, le_refl, le_of_eq, le_trans}
use native.Mathlib.Omega.{arith}
use lib.Dec.{eqb}
use Rattle.laws.specs.Below.{some, sum, count}
use Rattle.laws.specs.Choice.{◌and◌, pick}
use Rattle.laws.specs.Masks.{◌or◌, on, digit}
use Rattle.laws.proofs.Below.{sum_same, count_bounded}
use Rattle.laws.proofs.Choice.{Tested, holds, fails, tested, pick_yes, pick_no, by_pick, and_yes, and_right, and_no_left}
use Rattle.command.specs.Format.{channels_of, code_of}
use Rattle.state.specs.State.{Buffer, Domain}
use Rattle.state.specs.Start.{output, is_set, unmasked, counts, channels_unmasked, credit_at, credit_of, pairs_of, claim_of, most_credit}
use Rattle.start.specs.Windows.{channels_in}
use Rattle.start.proofs.Channels.{silent_none, unmasked_most}

-- a sum of numbers that are at most so much each
sum_most : (k most : ℕ) (f : ℕ → ℕ) → ((i : ℕ) → f i ≤ most) → sum k f ≤ k * most
unfolding sum
sum_most zero most f h = omega arith
sum_most (suc k) most f h = omega (arith, h zero, sum_most k most (λ i. f (suc i)) (λ i. h (suc i)))

module _ (mask : ℕ) (outputs : List Buffer) (n : ℕ) where
  abbrev channels : ℕ
  channels = channels_unmasked mask n (output outputs n).format

  -- silent outputs have no unmasked channel, so that it is enough to ask whether an output is set
  set_alone : pick (counts mask outputs n) channels 0 ≡ pick (is_set outputs n) channels 0
  unfolding counts
  set_alone = go (tested (is_set outputs n)) (tested (unmasked mask n (output outputs n).format))
    where
      go : Tested (is_set outputs n) → Tested (unmasked mask n (output outputs n).format) →
          pick (is_set outputs n and unmasked mask n (output outputs n).format) channels 0 ≡ pick (is_set outputs n) channels 0
      go (holds e) (holds u) = pick_yes _ _ (and_yes _ e ∙ u) ∙ sym (pick_yes _ _ e)
      go (holds e) (fails u) =
          pick_no _ _ (and_yes _ e ∙ u) ∙ sym (pick_yes _ _ e ∙ silent_none mask n (output outputs n).format u)
      go (fails e) u = pick_no _ _ (and_no_left _ e) ∙ sym (pick_no _ _ e)

digit_pick : (t : Bool) → pick t 1 0 ≡ digit t
unfolding pick digit
digit_pick true = refl
digit_pick false = refl

-- the credit by the edition alone
pub credit_by_lem : (edition mask : ℕ) (outputs : List Buffer) →
    credit_of edition mask outputs ≡ pick (eqb edition 2) (channels_in mask outputs) (count 4 (counts mask outputs))
unfolding credit_of credit_at channels_in count
credit_by_lem edition mask outputs = go (tested (eqb edition 2))
  where
    go : Tested (eqb edition 2) →
        sum 4 (λ n. pick (counts mask outputs n) (pick (eqb edition 2) (channels_unmasked mask n (output outputs n).format) 1) 0) ≡
        pick (eqb edition 2) (sum 4 (λ n. pick (is_set outputs n) (channels_unmasked mask n (output outputs n).format) 0))
        (sum 4 (λ n. digit (counts mask outputs n)))
    go (holds e) =
        sum_same 4 _ _
        (λ n h. ap (λ (x : ℕ). pick (counts mask outputs n) x 0) (pick_yes _ _ e) ∙ set_alone mask outputs n) ∙
        sym (pick_yes _ _ e)
    go (fails e) =
        sum_same 4 _ _
        (λ n h. ap (λ (x : ℕ). pick (counts mask outputs n) x 0) (pick_no _ _ e) ∙ digit_pick (counts mask outputs n)) ∙
        sym (pick_no _ _ e)

module _ (edition mask : ℕ) (outputs : List Buffer) where
  at_most : (n : ℕ) → credit_at edition mask outputs n ≤ 4
  unfolding credit_at
  at_most n =
      by_pick (λ (x : ℕ). x ≤ 4) (counts mask outputs n) _ 0
      (λ e. by_pick (λ (x : ℕ). x ≤ 4) (eqb edition 2) _ 1 (λ f. unmasked_most mask n (output outputs n).format) (λ f. omega arith))
      (λ e. omega arith)

  pub credit_bounded : credit_of edition mask outputs ≤ most_credit
  unfolding credit_of
  credit_bounded = sum_most 4 4 (credit_at edition mask outputs) at_most

-- "edition 1" is what stood before: one for each output that counts
pub first_edition : (mask : ℕ) (outputs : List Buffer) → credit_of 1 mask outputs ≡ count 4 (counts mask outputs)
unfolding pick
first_edition mask outputs = credit_by_lem 1 mask outputs

-- an output that isn't silent has a channel that is unmasked
some_counted : (k : ℕ) (f : ℕ → Bool) → some k f ≡ true → 1 ≤ count k f
unfolding some count sum digit ◌or◌
some_counted zero f e = absurd (no_way e)
  where
    no_way : false ≡ true → ⊥
    no_way h = let z : digit false ≡ digit true = ap digit h in omega arith
some_counted (suc k) f e = go (tested (f zero)) (some_counted k (λ i. f (suc i)))
  where
    go : Tested (f zero) → (some k (λ i. f (suc i)) ≡ true → 1 ≤ sum k (λ i. digit (f (suc i)))) → 1 ≤ digit (f zero) + sum k (λ i. digit (f (suc i)))
    go (holds h) rest = rw h (omega arith)
    go (fails h) rest =
        let later : some k (λ i. f (suc i)) ≡ true = sym (ap (λ (t : Bool). t or some k (λ i. f (suc i))) h) ∙ e in
        omega (arith, rest later)

module _ (mask : ℕ) (outputs : List Buffer) (n : ℕ) where
  abbrev heard : ℕ
  heard = channels_unmasked mask n (output outputs n).format

  heard_least : counts mask outputs n ≡ true → 1 ≤ heard
  unfolding counts unmasked channels_unmasked
  heard_least e =
      some_counted (channels_of (code_of (output outputs n).format)) _ (and_right (is_set outputs n) _ e)

  -- what an output is credited by edition 2 is at least what it is by edition 1, and at most four times it
  credit_between : (credit_at 1 mask outputs n ≤ credit_at 2 mask outputs n) × (credit_at 2 mask outputs n ≤ 4 * credit_at 1 mask outputs n)
  unfolding credit_at pick
  credit_between = go (tested (counts mask outputs n))
    where
      go : Tested (counts mask outputs n) →
          (pick (counts mask outputs n) (pick (eqb 1 2) heard 1) 0 ≤ pick (counts mask outputs n) (pick (eqb 2 2) heard 1) 0) ×
          (pick (counts mask outputs n) (pick (eqb 2 2) heard 1) 0 ≤ 4 * pick (counts mask outputs n) (pick (eqb 1 2) heard 1) 0)
      go (holds e) = rw e (heard_least e, unmasked_most mask n (output outputs n).format)
      go (fails e) = rw e (omega arith)

  -- "an output with one channel" is credited the same by both
  pub one_channel : channels_of (code_of (output outputs n).format) ≡ 1 → credit_at 2 mask outputs n ≡ credit_at 1 mask outputs n
  unfolding credit_at pick
  one_channel k = go (tested (counts mask outputs n))
    where
      most : heard ≤ 1
      most = unfold channels_unmasked in subst (λ (c : ℕ). count c (λ i. on (4 * n + i) mask) ≤ 1) (sym k) (count_bounded 1 _)

      go : Tested (counts mask outputs n) →
          pick (counts mask outputs n) (pick (eqb 2 2) heard 1) 0 ≡ pick (counts mask outputs n) (pick (eqb 1 2) heard 1) 0
      go (holds e) = rw e (let least = heard_least e in omega (arith, most))
      go (fails e) = rw e refl

-- sums of numbers that lie between others lie between theirs
sum_between : (k : ℕ) (f g : ℕ → ℕ) → ((i : ℕ) → (f i ≤ g i) × (g i ≤ 4 * f i)) → (sum k f ≤ sum k g) × (sum k g ≤ 4 * sum k f)
unfolding sum
sum_between zero f g h = omega arith
sum_between (suc k) f g h = omega (arith, h zero, sum_between k (λ i. f (suc i)) (λ i. g (suc i)) (λ i. h (suc i)))

-- so are a pair's credit and a start's claim
module _ (mask : ℕ) (outputs : List Buffer) where
  pub credit_least : credit_of 1 mask outputs ≤ credit_of 2 mask outputs
  unfolding credit_of
  credit_least = (sum_between 4 (credit_at 1 mask outputs) (credit_at 2 mask outputs) (credit_between mask outputs)).0

  pub credit_four : credit_of 2 mask outputs ≤ 4 * credit_of 1 mask outputs
  unfolding credit_of
  credit_four = (sum_between 4 (credit_at 1 mask outputs) (credit_at 2 mask outputs) (credit_between mask outputs)).1

  -- and where every set output has one channel, they are the same
  pub all_one_channel : ((n : ℕ) → n < 4 → is_set outputs n ≡ true → channels_of (code_of (output outputs n).format) ≡ 1) →
      credit_of 2 mask outputs ≡ credit_of 1 mask outputs
  unfolding credit_of
  all_one_channel h = sum_same 4 _ _ (λ n k. go n k (tested (is_set outputs n)))
    where
      go : (n : ℕ) → n < 4 → Tested (is_set outputs n) → credit_at 2 mask outputs n ≡ credit_at 1 mask outputs n
      go n k (holds e) = one_channel mask outputs n (h n k e)
      go n k (fails e) =
          unfold credit_at counts in
          (pick_no _ 0 (and_no_left (unmasked mask n (output outputs n).format) e) ∙
          sym (pick_no _ 0 (and_no_left (unmasked mask n (output outputs n).format) e)))

module _ (d : Domain) (mask : ℕ) (outputs : List Buffer) where
  pub claim_least : claim_of 1 d mask outputs ≤ claim_of 2 d mask outputs
  unfolding claim_of
  claim_least = mul-le-mul (le_refl (pairs_of d)) (credit_least mask outputs)

  pub claim_four : claim_of 2 d mask outputs ≤ 4 * claim_of 1 d mask outputs
  unfolding claim_of
  claim_four =
      le_trans (mul-le-mul (le_refl (pairs_of d)) (credit_four mask outputs))
      (le_of_eq
      (sym (mul_assoc (pairs_of d) 4 (credit_of 1 mask outputs)) ∙ ap (λ (x : ℕ). x * credit_of 1 mask outputs) (mul_comm (pairs_of d) 4) ∙
      mul_assoc 4 (pairs_of d) (credit_of 1 mask outputs)))

  pub first_claim : claim_of 1 d mask outputs ≡ pairs_of d * count 4 (counts mask outputs)
  unfolding claim_of
  first_claim = ap (λ (x : ℕ). pairs_of d * x) (first_edition mask outputs)
