-- What a station is called: "full exactly when every day owes more than 0 and is served in full; owing nothing is called
-- "nothing owed", any other "short"". No day is served more than it owes, so the month's two numbers tell the three apart.
-- Assumes nothing.
use mathlib.Core.Path.{◌≡◌, refl, sym, ap, ◌∙◌, subst}
use mathlib.Core.Bool.{Bool, true, false}
use Prim.Native.Nat.{ℕ, zero, suc, ◌*◌, ◌<◌, ◌≤◌}
use native.Mathlib.Nat.{min-le_left, min-le_right, mul-le-mul, one-mul, mul-zero}
use native.Mathlib.Omega.{arith}
use lib.Dec.{eqb}
use borrow.Author.Tests.{eq-eqb, ne_eqb, eqb-true, eqb-false, lt-ltb, ltb-true}
use Rattle.laws.specs.Choice.{◌and◌}
use Rattle.laws.specs.Below.{every}
use Rattle.laws.proofs.Choice.{pick_yes, pick_no, and_intro, and_left, and_right, Tested, tested, holds, fails}
use Rattle.laws.proofs.Below.{every_at, every_same}
use Rattle.replay.specs.State.{Replay}
use Rattle.score.specs.Lease.{Lease}
use Rattle.score.specs.Score.{claimed_at, served_at, served_in_all, owed_in_all, served_in_full, verdict_of}
use Rattle.score.specs.Answers.{called_by}
use Rattle.score.specs.Promises.{AllServed, Calling, full, nothing, short}
use Rattle.score.specs.declared.month.Verdict.TheVariants.{Full, Short, NothingOwed}
use Rattle.score.proofs.Sums.{sum_full, sum_most, each_full}

-- a test that holds at each place holds at every one
every_true : (n : ℕ) → every n (λ k. true) ≡ true
unfolding every ◌and◌
every_true zero = refl
every_true (suc n) = every_true n

every_yes : (n : ℕ) (f : ℕ → Bool) → ((k : ℕ) → k < n → f k ≡ true) → every n f ≡ true
every_yes n f h = every_same n f (λ k. true) h ∙ every_true n

module _ (l : Lease) (r : Replay) where
  -- no day is served more than it owes, nor more than was claimed; nor is the month
  pub served_day : (k : ℕ) → served_at l r k ≤ l.owed
  unfolding served_at
  served_day k = min-le_right (claimed_at l r k) l.owed

  pub served_claimed : (k : ℕ) → served_at l r k ≤ claimed_at l r k
  unfolding served_at
  served_claimed k = min-le_left (claimed_at l r k) l.owed

  pub served_month : served_in_all l r ≤ owed_in_all l
  served_month = sum_most (served_at l r) l.owed served_day l.days

  all_served : AllServed l r → every l.days (served_in_full l r) ≡ true
  all_served a =
      every_yes l.days (served_in_full l r)
      (λ k h. and_intro (lt-ltb 0 l.owed a.owes) (eq-eqb (served_at l r k) l.owed (a.full_days k h)))

  served_all : 1 ≤ l.days → every l.days (served_in_full l r) ≡ true → AllServed l r
  served_all some e =
      record {
        owes = ltb-true 0 l.owed (and_left _ _ (every_at l.days (served_in_full l r) e 0 some));
        full_days =
            λ k h. eqb-true (served_at l r k) l.owed (and_right _ _ (every_at l.days (served_in_full l r) e k h));
      }

  -- "full exactly when"
  pub full_if : AllServed l r → verdict_of l r ≡ Full
  unfolding verdict_of
  full_if a = pick_yes _ _ (all_served a)

  pub full_only_if : 1 ≤ l.days → verdict_of l r ≡ Full → AllServed l r
  unfolding verdict_of
  full_only_if some e = go (tested (every l.days (served_in_full l r))) (tested (eqb (owed_in_all l) 0))
    where
      go : Tested (every l.days (served_in_full l r)) → Tested (eqb (owed_in_all l) 0) → AllServed l r
      go (holds t) u = served_all some t
      go (fails t) (holds u) =
          let other : NothingOwed ≡ Full = sym (pick_no _ _ t ∙ pick_yes _ _ u) ∙ e in
          let z : ◌≡◌ {A = ℕ} 0 1 = cc in absurd (omega arith)
      go (fails t) (fails u) =
          let other : Short ≡ Full = sym (pick_no _ _ t ∙ pick_no _ _ u) ∙ e in
          let z : ◌≡◌ {A = ℕ} 0 1 = cc in absurd (omega arith)

  module _ (some : 1 ≤ l.days) where
    -- a month that owes nothing owes nothing a day
    nothing_a_day : owed_in_all l ≡ 0 → l.owed ≡ 0
    nothing_a_day e =
        let h : 1 * l.owed ≤ l.days * l.owed = mul-le-mul some (omega arith) in omega (arith, one-mul l.owed, e)

    not_all : (AllServed l r → ⊥) → every l.days (served_in_full l r) ≡ false
    not_all never = go (tested (every l.days (served_in_full l r)))
      where
        go : Tested (every l.days (served_in_full l r)) → every l.days (served_in_full l r) ≡ false
        go (holds t) = absurd (never (served_all some t))
        go (fails t) = t

    pub nothing_owed : l.owed ≡ 0 → verdict_of l r ≡ NothingOwed
    unfolding verdict_of
    nothing_owed z =
        pick_no _ _ (not_all (λ a. omega (arith, a.owes))) ∙
        pick_yes _ _ (eq-eqb (owed_in_all l) 0 (ap (λ (n : ℕ). l.days * n) z ∙ mul-zero l.days))

    pub called_short : (l.owed ≡ 0 → ⊥) → (AllServed l r → ⊥) → verdict_of l r ≡ Short
    unfolding verdict_of
    called_short owes never = pick_no _ _ (not_all never) ∙ pick_no _ _ (ne_eqb (owed_in_all l) 0 (λ z. owes (nothing_a_day z)))

    -- whichever name it is, it is given for its cause; the causes exclude each other
    pub calling : Calling l r (verdict_of l r)
    calling = go (tested (every l.days (served_in_full l r))) (tested (eqb l.owed 0))
      where
        go : Tested (every l.days (served_in_full l r)) → Tested (eqb l.owed 0) → Calling l r (verdict_of l r)
        go (holds t) u =
            let all : AllServed l r = served_all some t in subst (Calling l r) (sym (full_if all)) (full all)
        go (fails t) (holds u) =
            let none : l.owed ≡ 0 = eqb-true l.owed 0 u in subst (Calling l r) (sym (nothing_owed none)) (nothing none)
        go (fails t) (fails u) =
            let owes : l.owed ≡ 0 → ⊥ = eqb-false l.owed 0 u in
            subst (Calling l r) (sym (called_short owes never)) (short (omega (arith, owes)) never)
          where
            never : AllServed l r → ⊥
            never a = let z : true ≡ false = sym (all_served a) ∙ t in let n : ◌≡◌ {A = ℕ} 0 1 = cc in omega arith

    -- by the month's two numbers
    pub by_numbers : called_by (served_in_all l r) (owed_in_all l) ≡ verdict_of l r
    unfolding called_by
    by_numbers = go (tested (eqb (owed_in_all l) 0)) (tested (eqb (served_in_all l r) (owed_in_all l)))
      where
        go : Tested (eqb (owed_in_all l) 0) → Tested (eqb (served_in_all l r) (owed_in_all l)) →
            called_by (served_in_all l r) (owed_in_all l) ≡ verdict_of l r
        go (holds a) b = pick_yes _ _ a ∙ sym (nothing_owed (nothing_a_day (eqb-true (owed_in_all l) 0 a)))
        go (fails a) (holds b) =
            pick_no _ _ a ∙ pick_yes _ _ b ∙ sym (full_if (record {
              owes = above;
              full_days = each_full (served_at l r) l.owed served_day l.days (eqb-true (served_in_all l r) (owed_in_all l) b);
            }))
          where
            owes : l.owed ≡ 0 → ⊥
            owes z = eqb-false (owed_in_all l) 0 a (ap (λ (n : ℕ). l.days * n) z ∙ mul-zero l.days)

            above : 0 < l.owed
            above = omega (arith, owes)
        go (fails a) (fails b) =
            pick_no _ _ a ∙ pick_no _ _ b ∙
            sym
            (called_short (λ z. eqb-false (owed_in_all l) 0 a (ap (λ (n : ℕ). l.days * n) z ∙ mul-zero l.days))
            (λ s. eqb-false (served_in_all l r) (owed_in_all l) b (sum_full (served_at l r) l.owed l.days s.full_days)))
