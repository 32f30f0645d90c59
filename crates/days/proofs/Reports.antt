-- What the reports of a replay tell, return by return. Assumes nothing.
use mathlib.Core.Path.{◌≡◌, refl, sym, ap, ap₂, ◌∙◌}
use mathlib.Core.List.{List, []}
use Prim.Native.Nat.{ℕ, zero, suc, ◌+◌, ◌-◌, ◌*◌, ◌<◌, ◌≤◌}
use native.Mathlib.Omega.{arith}
use lib.ListN.{get_or}
use borrow.Author.Tests.{eq-eqb, ne_eqb, le-leb, lt-leb}
use Rattle.laws.proofs.Choice.{pick_yes, pick_no}
use Rattle.state.specs.State.{Tally, new_session}
use Rattle.replay.specs.Report.{no_tally, mark_at, began_with, ended_with, less, part_of, first_day}
use Rattle.replay.specs.Cells.{viewed}
use Rattle.days.specs.Reported.{standing_of}
use Rattle.days.specs.declared.report.Standing.{Standing}

abbrev tally : ℕ → ℕ → Tally
tally runs claims = record { runs = runs; claims = claims }

-- where a replay with these numbers stands, the first day apart
abbrev with_first : List ℕ → ℕ → Standing
with_first l day =
    record {
      stopped_by = get_or l 0 0;
      refused = get_or l 1 0;
      refused_after = get_or l 2 0;
      midnights = get_or l 3 0;
      first_day = day;
      last_day = get_or l 4 0;
      unfinished = get_or l 5 0;
    }

pub mark_numbers : (runs claims : ℕ) (marks : List ℕ) (k : ℕ) → runs ≡ get_or marks (2 * k) 0 → claims ≡ get_or marks (2 * k + 1) 0 →
    tally runs claims ≡ mark_at marks k
mark_numbers runs claims marks k a b = ap₂ tally a b

pub began_first : (marks : List ℕ) (k : ℕ) → k ≡ 0 → no_tally ≡ began_with marks k
unfolding began_with
began_first marks zero e = refl
began_first marks (suc k) e = absurd (omega arith)

pub began_later : (marks : List ℕ) (k : ℕ) (t : Tally) → (k ≡ 0 → ⊥) → t ≡ mark_at marks (k - 1) → t ≡ began_with marks k
unfolding began_with
began_later marks zero t ne e = absurd (ne refl)
began_later marks (suc k) t ne e = e ∙ ap (mark_at marks) (one_less k)
  where
    one_less : (n : ℕ) → suc n - 1 ≡ n
    one_less n = omega arith

module _ (marks : List ℕ) (midnights : ℕ) (now : Tally) (k : ℕ) where
  pub part_none : midnights < k → no_tally ≡ part_of marks midnights now k
  unfolding part_of
  part_none h = sym (pick_no _ _ (lt-leb k midnights h))

  pub part_some : k ≤ midnights → (a b : Tally) → a ≡ began_with marks k → b ≡ ended_with marks midnights now k → (runs claims : ℕ) →
      runs ≡ b.runs - a.runs → claims ≡ b.claims - a.claims → tally runs claims ≡ part_of marks midnights now k
  unfolding part_of
  part_some h a b ea eb runs claims er ec =
      ap₂ tally er ec ∙ ap₂ (λ (x y : Tally). less y x) ea eb ∙ sym (pick_yes _ _ (le-leb k midnights h))

module _ (midnights last : ℕ) where
  pub no_day : midnights ≡ 0 → 0 ≡ first_day midnights last
  unfolding first_day
  no_day e = sym (pick_yes _ _ (eq-eqb midnights 0 e))

  pub first_day_lem : (midnights ≡ 0 → ⊥) → (day : ℕ) → day ≡ last + 1 - midnights → day ≡ first_day midnights last
  unfolding first_day
  first_day_lem ne day e = e ∙ sym (pick_no _ _ (ne_eqb midnights 0 ne))

pub standing : (l : List ℕ) (day : ℕ) → day ≡ first_day (get_or l 3 0) (get_or l 4 0) → with_first l day ≡ standing_of (viewed l [] (new_session 1))
unfolding viewed
standing l day e = ap (with_first l) e
