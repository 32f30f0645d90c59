-- The score, return by return. Assumes nothing.
use mathlib.Core.Path.{◌≡◌, refl, sym, ap, ap₂, ◌∙◌, subst}
use mathlib.Core.Bool.{true, false}
use mathlib.Core.List.{List, []}
use Prim.Native.Nat.{ℕ, ◌*◌, ◌≤◌}
use native.Mathlib.Nat.{mul-le-mul}
use native.Mathlib.Omega.{arith}
use lib.ListN.{get_or}
use borrow.Author.Tests.{eq-eqb, ne_eqb}
use Rattle.laws.proofs.Choice.{pick_yes, pick_no, Tested, tested, holds, fails}
use Rattle.refusal.specs.Number.{number_of}
use Rattle.refusal.specs.Told.{gives, refuses}
use Rattle.refusal.specs.declared.Refusal.{Refusal}
use Rattle.state.specs.Cells.{party_of}
use Rattle.replay.specs.Cells.{viewed, replay_in}
use Rattle.score.specs.Lease.{Lease, is_lease, lease_told, told_judged}
use Rattle.score.specs.Score.{Score, scored, claimed_on, served_at, owed_in_all, verdict_of, month_of, score_of}
use Rattle.score.specs.Answers.{replay_for, Filled, called_by, Left, Scores}
use Rattle.std.specs.Prelude.{Result, Ok, Err}
use Rattle.score.specs.declared.month.Verdict.{Verdict}
use Rattle.score.specs.declared.month.Verdict.TheVariants.{Full, Short, NothingOwed}
use Rattle.score.specs.declared.month.Totals.{Totals}
use Rattle.score.proofs.Lines.{bounds}
use Rattle.score.proofs.Verdicts.{by_numbers}

-- what a month is called by its two numbers
module _ (served owed : ℕ) where
  pub called_nothing : owed ≡ 0 → NothingOwed ≡ called_by served owed
  unfolding called_by
  called_nothing e = sym (pick_yes _ _ (eq-eqb owed 0 e))

  pub called_full : (owed ≡ 0 → ⊥) → served ≡ owed → Full ≡ called_by served owed
  unfolding called_by
  called_full ne e = sym (pick_no _ _ (ne_eqb owed 0 ne) ∙ pick_yes _ _ (eq-eqb served owed e))

  pub called_less : (owed ≡ 0 → ⊥) → (served ≡ owed → ⊥) → Short ≡ called_by served owed
  unfolding called_by
  called_less ne e = sym (pick_no _ _ (ne_eqb owed 0 ne) ∙ pick_no _ _ (ne_eqb served owed e))

-- what is known of a lease line that was judged
module _ (l : Lease) (j : Result (Unit {0}) Refusal) (told : told_judged j ≡ lease_told l) where
  pub was_taken : (u : Unit {0}) → j ≡ Ok u → is_lease l ≡ true
  unfolding lease_told
  was_taken u e = go (tested (is_lease l))
    where
      go : Tested (is_lease l) → is_lease l ≡ true
      go (holds t) = t
      go (fails t) =
          let other : gives [] ≡ refuses 21 = sym (ap told_judged e) ∙ told ∙ pick_no _ _ t in
          let z : ◌≡◌ {A = ℕ} 0 1 = cc in absurd (omega arith)

  pub was_refused : (why : Refusal) → j ≡ Err why → is_lease l ≡ false
  unfolding lease_told
  was_refused why e = go (tested (is_lease l))
    where
      go : Tested (is_lease l) → is_lease l ≡ false
      go (fails t) = t
      go (holds t) =
          let other : refuses (number_of why) ≡ gives [] = sym (ap told_judged e) ∙ told ∙ pick_yes _ _ t in
          let z : ◌≡◌ {A = ℕ} 0 1 = cc in absurd (omega arith)

  pub was_21 : (why : Refusal) → j ≡ Err why → number_of why ≡ 21
  unfolding lease_told
  was_21 why e =
      let same : refuses (number_of why) ≡ refuses 21 = sym (ap told_judged e) ∙ told ∙ pick_no _ _ (was_refused why e) in cc

-- the month's owed number is small
pub owed_small : (days owed : ℕ) → days ≤ 31 → owed ≤ 100000000 → days * owed ≤ 3100000000
owed_small days owed a b = mul-le-mul {n₁ = days} {m₁ = owed} {n₂ = 31} {m₂ = 100000000} a b

-- a replay is scored whatever its session's other arrays hold
same_month : (l : Lease) (log marks tallies own shared : List ℕ) →
    month_of l (replay_in log marks own tallies shared) ≡ month_of l (replay_for log marks tallies)
unfolding claimed_on served_at verdict_of viewed party_of
same_month l log marks tallies own shared = refl

-- the three ways of a score
module _ (l : Lease) (log marks tallies claimed served : List ℕ) where
  abbrev score : List ℕ → List ℕ → Score
  score own shared = score_of l (replay_in log marks own tallies shared)

  left_by : (s : Score) {t : Score} {r : Result Totals ℕ} {claimed' served' : List ℕ} → s ≡ t →
      Left t r claimed served claimed' served' → Left s r claimed served claimed' served'
  left_by s {t} {r} {claimed'} {served'} e h =
      subst (λ (x : Score). Left x r claimed served claimed' served') (sym e) h

  pub score_line : is_lease l ≡ false → (n : ℕ) → n ≡ 21 →
      Scores l log marks tallies (Err n) claimed served claimed served
  unfolding score_of
  score_line e n same =
      record {
        told =
            λ own shared.
            left_by (score own shared) (pick_no _ _ e)
            (record { answer = ap Err same; claimed_room = refl; served_room = refl });
      }

  pub score_stopped : is_lease l ≡ true → (get_or log 0 0 ≡ 0 → ⊥) →
      Scores l log marks tallies (Err (get_or log 0 0)) claimed served claimed served
  unfolding score_of viewed
  score_stopped e ne =
      record {
        told =
            λ own shared.
            left_by (score own shared) (pick_yes _ _ e ∙ pick_no _ _ (ne_eqb (get_or log 0 0) 0 ne))
            (record { answer = refl; claimed_room = refl; served_room = refl });
      }

  score_month : is_lease l ≡ true → get_or log 0 0 ≡ 0 → (own shared : List ℕ) →
      score own shared ≡ scored (month_of l (replay_for log marks tallies))
  unfolding score_of viewed
  score_month e z own shared =
      pick_yes _ _ e ∙ pick_yes _ _ (eq-eqb (get_or log 0 0) 0 z) ∙ ap scored (same_month l log marks tallies own shared)

  pub score_given : is_lease l ≡ true → get_or log 0 0 ≡ 0 → (total : ℕ) (claimed' served' : List ℕ) →
      Filled l (replay_for log marks tallies) total claimed' served' → (v : Verdict) → v ≡ called_by total (owed_in_all l) →
      Scores l log marks tallies (Ok (record { served = total; owed = owed_in_all l; verdict = v })) claimed served
      claimed' served'
  score_given e z total claimed' served' f v named =
      record {
        told =
            λ own shared.
            left_by (score own shared) (score_month e z own shared)
            (record {
              answer =
                  ap₂ (λ (t : ℕ) (u : Verdict). Ok (record { served = t; owed = owed_in_all l; verdict = u })) f.sum
                  (named ∙ ap (λ (t : ℕ). called_by t (owed_in_all l)) f.sum ∙
                  by_numbers l (replay_for log marks tallies) (bounds l e).some_days);
              claimed_room = f.claimed_room;
              served_room = f.served_room;
            });
      }
