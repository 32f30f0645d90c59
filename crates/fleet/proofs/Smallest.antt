-- The smallest served part, station by station: fractions are compared by cross products, and the lower number wins. Assumes nothing.
use mathlib.Core.Path.{◌≡◌, refl, sym, ap, ◌∙◌, subst}
use mathlib.Core.Bool.{true, false}
use Prim.Native.Nat.{ℕ, suc, ◌*◌, ◌<◌, ◌≤◌}
use native.Mathlib.Nat.{mul_assoc, mul_comm, mul-le-mul, le_refl, mul-lt-mul_of_pos_right}
use native.Mathlib.Omega.{arith}
use lib.Dec.{eqb, leb, ltb}
use borrow.Author.Tests.{eqb-true, eqb-false, ltb-true, ltb-false, lt-ltb, leb-true, le-leb}
use Rattle.laws.specs.Choice.{pick}
use Rattle.laws.specs.Below.{least}
use Rattle.laws.proofs.Below.{every_at, every_of}
use Rattle.laws.proofs.Choice.{Tested, holds, fails, tested, pick_yes, pick_no, and_intro, and_left, and_right}
use Rattle.fleet.specs.Fleet.{Station, served_by, owed_by, has_smallest, smallest_part, no_station}
use Rattle.fleet.specs.Answers.{part_next}
use Rattle.fleet.specs.Join.{no_part, part_at, part_of}
use Rattle.fleet.specs.declared.parts.Part.{Part}
use Rattle.fleet.proofs.Least.{least_is, least_none}

swap : (x y z : ℕ) → x * y * z ≡ x * z * y
swap x y z = mul_assoc x y z ∙ ap (λ (w : ℕ). x * w) (mul_comm y z) ∙ sym (mul_assoc x z y)

-- fractions a/A, b/B and c/C: where the first is smaller than the second, and the third isn't, the first is smaller than the third
pub chain : (a A b B c C : ℕ) → 0 < C → a * B < b * A → b * C ≤ c * B → a * C < c * A
chain a A b B c C pos h k = go (tested (ltb (a * C) (c * A)))
  where
    go : Tested (ltb (a * C) (c * A)) → a * C < c * A
    go (holds e) = ltb-true _ _ e
    go (fails e) =
        let strict : a * B * C < b * A * C = mul-lt-mul_of_pos_right h pos in
        let lower : b * C * A ≤ c * B * A = mul-le-mul k (le_refl A) in
        let other : c * A * B ≤ a * C * B = mul-le-mul (ltb-false (a * C) (c * A) e) (le_refl B) in
        absurd (clash strict lower other)
      where
        clash : a * B * C < b * A * C → b * C * A ≤ c * B * A → c * A * B ≤ a * C * B → ⊥
        clash p q r = omega (arith, swap a B C, swap b A C, swap c B A)

-- the station named so far is the first with the smallest part of those that owe
pub data Best (s o : ℕ → ℕ) (k : ℕ) : Part → Type 0 where
  none : ((j : ℕ) → j < k → o j ≡ 0) → Best s o k (record { station = 64; served = 0; owed = 0 })
  best : (b : ℕ) → b < k → 0 < o b → ((j : ℕ) → j < k → 0 < o j → s b * o j ≤ s j * o b) →
      ((j : ℕ) → j < b → 0 < o j → s b * o j < s j * o b) → Best s o k (record { station = b; served = s b; owed = o b })

module _ (s o : ℕ → ℕ) (k : ℕ) where
  abbrev new : Part
  new = record { station = k; served = s k; owed = o k }

  -- a test on all below `k`, and at `k`
  below_suc : (P : ℕ → Type 0) → ((j : ℕ) → j < k → P j) → P k → (j : ℕ) → j < suc k → P j
  below_suc P h e j l = go (tested (ltb j k))
    where
      go : Tested (ltb j k) → P j
      go (holds t) = h j (ltb-true j k t)
      go (fails t) = subst P (let same : k ≡ j = omega (arith, ltb-false j k t) in same) e

  skipped : (p : Part) → o k ≡ 0 → Best s o k p → Best s o (suc k) p
  skipped p z (none h) = none (below_suc (λ j. o j ≡ 0) h z)
  skipped p z (best b l pos all low) =
      best b (omega arith) pos (below_suc (λ j. 0 < o j → s b * o j ≤ s j * o b) all (λ q. absurd (no q))) low
    where
      no : 0 < o k → ⊥
      no q = omega arith

  first : 0 < o k → ((j : ℕ) → j < k → o j ≡ 0) → Best s o (suc k) new
  first pos h =
      best k (omega arith) pos (below_suc (λ j. 0 < o j → s k * o j ≤ s j * o k) (λ j l q. absurd (no j l q)) (λ q. le_refl _))
      (λ j l q. absurd (no j l q))
    where
      no : (j : ℕ) → j < k → 0 < o j → ⊥
      no j l q = let z = h j l in omega arith

  smaller : 0 < o k → (b : ℕ) → s k * o b < s b * o k → ((j : ℕ) → j < k → 0 < o j → s b * o j ≤ s j * o b) → Best s o (suc k) new
  smaller pos b less all =
      best k (omega arith) pos
      (below_suc (λ j. 0 < o j → s k * o j ≤ s j * o k) (λ j l q. weaken (strict j l q)) (λ q. le_refl _)) strict
    where
      strict : (j : ℕ) → j < k → 0 < o j → s k * o j < s j * o k
      strict j l q = chain (s k) (o k) (s b) (o b) (s j) (o j) q less (all j l q)

      weaken : {x y : ℕ} → x < y → x ≤ y
      weaken h = omega arith

  pub best_next : (p : Part) → Best s o k p → Best s o (suc k) (part_next p k (s k) (o k))
  unfolding part_next
  best_next p w = go p w (tested (eqb (o k) 0)) (tested (eqb p.owed 0)) (tested (ltb (s k * p.owed) (p.served * o k)))
    where
      positive : eqb (o k) 0 ≡ false → 0 < o k
      positive e = let ne : o k ≡ 0 → ⊥ = eqb-false (o k) 0 e in omega arith

      go : (q : Part) → Best s o k q → Tested (eqb (o k) 0) → Tested (eqb q.owed 0) → Tested (ltb (s k * q.owed) (q.served * o k)) →
          Best s o (suc k) (pick (eqb (o k) 0) q (pick (eqb q.owed 0) new (pick (ltb (s k * q.owed) (q.served * o k)) new q)))
      go q w (holds z) t u = subst (Best s o (suc k)) (sym (pick_yes q _ z)) (skipped q (eqb-true _ 0 z) w)
      go q (none h) (fails z) t u = subst (Best s o (suc k)) (sym (pick_no _ _ z ∙ pick_yes new _ refl)) (first (positive z) h)
      go q (best b l pos all low) (fails z) (holds t) u = absurd (no (eqb-true (o b) 0 t))
        where
          no : o b ≡ 0 → ⊥
          no e = omega arith
      go q (best b l pos all low) (fails z) (fails t) (holds u) =
          subst (Best s o (suc k)) (sym (pick_no _ _ z ∙ pick_no _ _ t ∙ pick_yes _ _ u))
          (smaller (positive z) b (ltb-true (s k * o b) (s b * o k) u) all)
      go q (best b l pos all low) (fails z) (fails t) (fails u) =
          subst (Best s o (suc k)) (sym (pick_no _ _ z ∙ pick_no _ _ t ∙ pick_no _ _ u))
          (best b (omega arith) pos
          (below_suc (λ j. 0 < o j → s b * o j ≤ s j * o b) all (λ q. ltb-false (s k * o b) (s b * o k) u)) low)

-- so at the end it is the definition's
module _ (n : ℕ) (f : ℕ → Station) where
  abbrev s : ℕ → ℕ
  s = served_by n f

  abbrev o : ℕ → ℕ
  o = owed_by n f

  -- what the test says of a station that it holds at
  pub smallest_owes : (k : ℕ) → has_smallest n f k ≡ true → 0 < o k
  unfolding has_smallest
  smallest_owes k e = ltb-true 0 (o k) (and_left _ _ e)

  pub smallest_least : (k : ℕ) → has_smallest n f k ≡ true → (j : ℕ) → j < n → 0 < o j → s k * o j ≤ s j * o k
  unfolding has_smallest
  smallest_least k e j l q =
      leb-true _ _ (sym (pick_yes _ true (lt-ltb 0 (o j) q)) ∙ every_at n _ (and_right (ltb 0 (o k)) _ e) j l)

  pub smallest_holds : (k : ℕ) → 0 < o k → ((j : ℕ) → j < n → 0 < o j → s k * o j ≤ s j * o k) → has_smallest n f k ≡ true
  unfolding has_smallest
  smallest_holds k pos all = and_intro (lt-ltb 0 (o k) pos) (every_of n _ (λ j l. go j l (tested (ltb 0 (o j)))))
    where
      go : (j : ℕ) → j < n → Tested (ltb 0 (o j)) → pick (ltb 0 (o j)) (leb (s k * o j) (s j * o k)) true ≡ true
      go j l (holds t) = pick_yes _ true t ∙ le-leb _ _ (all j l (ltb-true 0 (o j) t))
      go j l (fails t) = pick_no _ true t

  fails_when : (k : ℕ) → (has_smallest n f k ≡ true → ⊥) → has_smallest n f k ≡ false
  fails_when k denied = go (tested (has_smallest n f k))
    where
      go : Tested (has_smallest n f k) → has_smallest n f k ≡ false
      go (holds e) = absurd (denied e)
      go (fails e) = e

  -- the part that is named is the definition's, with its two numbers
  pub best_is : (p : Part) → Best s o n p → p ≡ part_of n f
  unfolding part_of
  best_is p (none h) =
      sym (pick_no _ no_part (least_none n (has_smallest n f) (λ j l. fails_when j (λ e. no j l (smallest_owes j e)))))
    where
      no : (j : ℕ) → j < n → 0 < o j → ⊥
      no j l q = let z = h j l in omega arith
  best_is p (best b l pos all low) =
      let is : least n (has_smallest n f) ≡ b =
      least_is n (has_smallest n f) b l (smallest_holds b pos all)
      (λ j m. fails_when j (λ e. clash (low j m (smallest_owes j e)) (smallest_least j e b l pos)))
      in
      sym (pick_yes _ no_part (ap (λ (k : ℕ). ltb k n) is ∙ lt-ltb b n l) ∙ ap (part_at n f) is)
    where
      clash : {x y : ℕ} → x < y → y ≤ x → ⊥
      clash p q = omega arith

  pub named_is : (part_of n f).station ≡ smallest_part n f
  unfolding part_of smallest_part
  named_is = go (tested (ltb (least n (has_smallest n f)) n))
    where
      go : Tested (ltb (least n (has_smallest n f)) n) →
          (pick (ltb (least n (has_smallest n f)) n) (part_at n f (least n (has_smallest n f))) no_part).station ≡
          pick (ltb (least n (has_smallest n f)) n) (least n (has_smallest n f)) no_station
      go (holds e) = ap (λ (p : Part). p.station) (pick_yes _ no_part e) ∙ sym (pick_yes _ no_station e)
      go (fails e) = ap (λ (p : Part). p.station) (pick_no _ no_part e) ∙ sym (pick_no _ no_station e)

  pub best_named : (p : Part) → Best s o n p → p.station ≡ smallest_part n f
  best_named p w = ap (λ (q : Part). q.station) (best_is p w) ∙ named_is
