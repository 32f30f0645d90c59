-- The report of a fleet joined of two is the join of their reports. Assumes nothing.
use mathlib.Core.Path.{◌≡◌, sym, ap, ◌∙◌, subst}
use mathlib.Core.Bool.{Bool, true, false}
use mathlib.Core.List.{[], ◌∷◌}
use Prim.Native.Nat.{ℕ, zero, suc, ◌+◌, ◌-◌, ◌*◌, ◌<◌, ◌≤◌}
use native.Mathlib.Nat.{add-zero, add-suc, add_assoc}
use native.Mathlib.Omega.{arith}
use lib.Dec.{eqb, leb, ltb}
use borrow.Author.Tests.{ne_eqb, ltb-true, ltb-false, lt-ltb, leb-true, leb-false}
use Rattle.laws.specs.Choice.{pick}
use Rattle.laws.specs.Below.{sum, least}
use Rattle.laws.proofs.Below.{sum_last, least_at, least_before}
use Rattle.laws.proofs.Choice.{Tested, holds, fails, tested, pick_yes, pick_no}
use Rattle.refusal.specs.Told.{Told, gives, refuses, then_told}
use Rattle.fleet.specs.Fleet.{Station, refusal_in, is_refused, served_by, owed_by, first_refused, fleet_told}
use Rattle.fleet.specs.Answers.{part_next, fleet_numbers}
use Rattle.fleet.specs.Join.{no_part, part_of, silent_by, sums_of, behind, on_from, joined_part, joined}
use Rattle.fleet.specs.declared.parts.Part.{Part}
use Rattle.fleet.specs.declared.parts.Fleet.{Fleet}
use Rattle.fleet.proofs.Least.{least_is, least_none}
use Rattle.fleet.proofs.Smallest.{chain, Best, none, best, best_next, best_is, named_is}

-- a number below n + m is below n, or n and a number below m
module _ (n m : ℕ) (P : ℕ → Type 0) where
  pub split : ((j : ℕ) → j < n → P j) → ((i : ℕ) → i < m → P (n + i)) → (j : ℕ) → j < n + m → P j
  split low high j h = go (tested (ltb j n))
    where
      go : Tested (ltb j n) → P j
      go (holds t) = low j (ltb-true j n t)
      go (fails t) =
          let over = ltb-false j n t in
          let back : n + (j - n) ≡ j = omega arith in
          subst P back (high (j - n) (omega arith))

pub sum_joined : (n m : ℕ) (g : ℕ → ℕ) → sum (n + m) g ≡ sum n g + sum m (λ i. g (n + i))
unfolding sum
sum_joined n zero g = ap (λ (k : ℕ). sum k g) (add-zero n) ∙ sym (add-zero (sum n g))
sum_joined n (suc m) g =
    ap (λ (k : ℕ). sum k g) (add-suc n m) ∙ sum_last (n + m) g ∙ ap (λ (x : ℕ). x + g (n + m)) (sum_joined n m g) ∙
    add_assoc (sum n g) (sum m (λ i. g (n + i))) (g (n + m)) ∙ ap (λ (x : ℕ). sum n g + x) (sym (sum_last m (λ i. g (n + i))))

-- fractions a/A, b/B and c/C, none greater than the next
chain_weak : (a A b B c C : ℕ) → 0 < B → a * B ≤ b * A → b * C ≤ c * B → a * C ≤ c * A
chain_weak a A b B c C pos h k = go (tested (leb (a * C) (c * A)))
  where
    clash : {x y : ℕ} → x < y → y ≤ x → ⊥
    clash p q = omega arith

    go : Tested (leb (a * C) (c * A)) → a * C ≤ c * A
    go (holds e) = leb-true _ _ e
    go (fails e) = absurd (clash (chain c C a A b B pos (leb-false (a * C) (c * A) e) h) k)

module _ (s o : ℕ → ℕ) (n m : ℕ) where
  abbrev s' : ℕ → ℕ
  s' i = s (n + i)

  abbrev o' : ℕ → ℕ
  o' i = o (n + i)

  weaken : {x y : ℕ} → x < y → x ≤ y
  weaken h = omega arith

  owes_not : {x : ℕ} {A : Type 0} → x ≡ 0 → 0 < x → A
  owes_not e h = absurd (let z : ⊥ = omega arith in z)

  -- the first fleet's station stays named
  first_stays : (b : ℕ) → b < n → 0 < o b → ((j : ℕ) → j < n → 0 < o j → s b * o j ≤ s j * o b) →
      ((j : ℕ) → j < b → 0 < o j → s b * o j < s j * o b) → ((i : ℕ) → i < m → 0 < o' i → s b * o' i ≤ s' i * o b) →
      Best s o (n + m) (record { station = b; served = s b; owed = o b })
  first_stays b l pos all low later = best b (omega arith) pos (split n m (λ j. 0 < o j → s b * o j ≤ s j * o b) all later) low

  -- the second's is named
  second_named : (c : ℕ) → c < m → 0 < o' c → ((i : ℕ) → i < m → 0 < o' i → s' c * o' i ≤ s' i * o' c) →
      ((i : ℕ) → i < c → 0 < o' i → s' c * o' i < s' i * o' c) → ((j : ℕ) → j < n → 0 < o j → s' c * o j < s j * o' c) →
      Best s o (n + m) (record { station = n + c; served = s' c; owed = o' c })
  second_named c l pos all low before =
      best (n + c) (omega arith) pos
      (split n m (λ j. 0 < o j → s' c * o j ≤ s j * o' c) (λ j h q. weaken (before j h q)) all)
      (split n c (λ j. 0 < o j → s' c * o j < s j * o' c) before low)

  pub best_joined : (p q : Part) → Best s o n p → Best s' o' m q → Best s o (n + m) (joined_part n p q)
  unfolding joined_part pick
  best_joined p q (none h) (none k) = none (split n m (λ j. o j ≡ 0) h k)
  best_joined p q (best b l pos all low) (none k) = first_stays b l pos all low (λ i h w. owes_not (k i h) w)
  best_joined p q (none h) (best c l pos all low) =
      subst (Best s o (n + m)) (sym (pick_no _ _ (ne_eqb (o' c) 0 (λ e. owes_not e pos))))
      (second_named c l pos all low (λ j k w. owes_not (h j k) w))
  best_joined p q (best b l pos all low) (best c l' pos' all' low') = go (tested (leb (s b * o' c) (s' c * o b)))
    where
      first : Part
      first = record { station = b; served = s b; owed = o b }

      second : Part
      second = record { station = c; served = s' c; owed = o' c }

      both : pick (eqb (o' c) 0) first (pick (eqb (o b) 0) (on_from n second) (pick (leb (s b * o' c) (s' c * o b)) first (on_from n second))) ≡
          pick (leb (s b * o' c) (s' c * o b)) first (on_from n second)
      both = pick_no _ _ (ne_eqb (o' c) 0 (λ e. owes_not e pos')) ∙ pick_no _ _ (ne_eqb (o b) 0 (λ e. owes_not e pos))

      go : Tested (leb (s b * o' c) (s' c * o b)) →
          Best s o (n + m)
          (pick (eqb (o' c) 0) first (pick (eqb (o b) 0) (on_from n second) (pick (leb (s b * o' c) (s' c * o b)) first (on_from n second))))
      go (holds t) =
          subst (Best s o (n + m)) (sym (both ∙ pick_yes _ _ t))
          (first_stays b l pos all low
          (λ i h w. chain_weak (s b) (o b) (s' c) (o' c) (s' i) (o' i) pos' (leb-true _ _ t) (all' i h w)))
      go (fails t) =
          subst (Best s o (n + m)) (sym (both ∙ pick_no _ _ t))
          (second_named c l' pos' all' low'
          (λ j h w. chain (s' c) (o' c) (s b) (o b) (s j) (o j) w (leb-false _ _ t) (all j h w)))

-- some part is the smallest so far, and it is the definition's
so_far : (s o : ℕ → ℕ) → ℕ → Part
so_far s o zero = no_part
so_far s o (suc k) = part_next (so_far s o k) k (s k) (o k)

best_so_far : (s o : ℕ → ℕ) (k : ℕ) → Best s o k (so_far s o k)
unfolding so_far
best_so_far s o zero = none (λ j h. absurd (let z : ⊥ = omega arith in z))
best_so_far s o (suc k) = best_next s o k (so_far s o k) (best_so_far s o k)

pub best_part : (n : ℕ) (f : ℕ → Station) → Best (served_by n f) (owed_by n f) n (part_of n f)
best_part n f =
    let found = best_so_far (served_by n f) (owed_by n f) n in
    subst (Best (served_by n f) (owed_by n f) n) (best_is n f _ found) found

-- which of two a fleet is: refused at a first station, or at none
module _ (n : ℕ) (f : ℕ → Station) where
  abbrev bad : ℕ → Bool
  bad k = is_refused (f k).score

  pub data Judged : Type 0 where
    refused_at : (k : ℕ) → k < n → bad k ≡ true → ((j : ℕ) → j < k → bad j ≡ false) → Judged
    all_scored : ((j : ℕ) → j < n → bad j ≡ false) → Judged

  pub judged : Judged
  judged = go (tested (ltb (least n bad) n))
    where
      go : Tested (ltb (least n bad) n) → Judged
      go (holds t) =
          let h = ltb-true (least n bad) n t in refused_at (least n bad) h (least_at n bad h) (λ j l. least_before n bad j l)
      go (fails t) = all_scored (λ j l. least_before n bad j (omega (arith, ltb-false (least n bad) n t)))

  pub told_refused : (k : ℕ) → k < n → bad k ≡ true → ((j : ℕ) → j < k → bad j ≡ false) →
      fleet_told n f ≡ refuses (refusal_in (f k).score)
  unfolding fleet_told first_refused
  told_refused k h e below =
      let first : least n bad ≡ k = least_is n bad k h e below in
      pick_yes _ _ (ap (λ (j : ℕ). ltb j n) first ∙ lt-ltb k n h) ∙ ap (λ (j : ℕ). refuses (refusal_in (f j).score)) first

  pub told_scored : ((j : ℕ) → j < n → bad j ≡ false) → fleet_told n f ≡ gives (fleet_numbers (sums_of n f))
  unfolding fleet_told first_refused
  told_scored fine =
      pick_no _ _ (least_none n bad fine) ∙
      ap (λ (k : ℕ). gives (sum n (served_by n f) ∷ sum n (owed_by n f) ∷ sum n (silent_by n f) ∷ k ∷ [])) (sym (named_is n f))

module _ (n m : ℕ) (f : ℕ → Station) where
  abbrev g : ℕ → Station
  g = behind n f

  pub part_joined : part_of (n + m) f ≡ joined_part n (part_of n f) (part_of m g)
  part_joined =
      sym
      (best_is (n + m) f _
      (best_joined (served_by n f) (owed_by n f) n m (part_of n f) (part_of m g) (best_part n f) (best_part m g)))

  pub sums_joined : sums_of (n + m) f ≡ joined n (sums_of n f) (sums_of m g)
  sums_joined =
      λ i.
      record {
        served = sum_joined n m (served_by n f) i;
        owed = sum_joined n m (owed_by n f) i;
        silent = sum_joined n m (silent_by n f) i;
        part = part_joined i;
      }

  pub told_joined :
      fleet_told (n + m) f ≡
      then_told (fleet_told n f) (then_told (fleet_told m g) (gives (fleet_numbers (joined n (sums_of n f) (sums_of m g)))))
  unfolding then_told
  told_joined = go (judged n f) (judged m g)
    where
      whole : Told
      whole = gives (fleet_numbers (joined n (sums_of n f) (sums_of m g)))

      go : Judged n f → Judged m g →
          fleet_told (n + m) f ≡
          then_told (fleet_told n f) (then_told (fleet_told m g) (gives (fleet_numbers (joined n (sums_of n f) (sums_of m g)))))
      go (refused_at k h e below) w =
          told_refused (n + m) f k (omega arith) e below ∙
          sym (ap (λ (t : Told). then_told t (then_told (fleet_told m g) whole)) (told_refused n f k h e below))
      go (all_scored a) (refused_at k h e below) =
          told_refused (n + m) f (n + k) (omega arith) e (split n k (λ j. bad n f j ≡ false) a below) ∙
          sym
          (ap (λ (t : Told). then_told t (then_told (fleet_told m g) whole)) (told_scored n f a) ∙
          ap (λ (t : Told). then_told t whole) (told_refused m g k h e below))
      go (all_scored a) (all_scored b) =
          told_scored (n + m) f (split n m (λ j. bad n f j ≡ false) a b) ∙
          ap (λ (x : Fleet). gives (fleet_numbers x)) sums_joined ∙
          sym
          (ap (λ (t : Told). then_told t (then_told (fleet_told m g) whole)) (told_scored n f a) ∙
          ap (λ (t : Told). then_told t whole) (told_scored m g b))
