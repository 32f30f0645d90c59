-- A lease line that begins no earlier than the first midnight that is left has the same score by both replays. Assumes nothing.
use mathlib.Core.Path.{◌≡◌, sym, ap, ◌∙◌}
use Prim.Native.Nat.{ℕ, ◌+◌, ◌-◌, ◌<◌, ◌≤◌, min}
use native.Mathlib.Omega.{arith}
use lib.Dec.{eqb, leb, ltb}
use borrow.Author.Tests.{lt-ltb, le-ltb}
use Rattle.laws.specs.Choice.{◌and◌, pick}
use Rattle.laws.specs.Below.{every, sum}
use Rattle.laws.proofs.Choice.{pick_yes, pick_no, and_intro, and_no_left, and_no_right, Tested, tested, holds, fails}
use Rattle.state.specs.State.{Tally}
use Rattle.replay.specs.State.{Replay}
use Rattle.replay.specs.Report.{part_at}
use Rattle.score.specs.Lease.{Lease, is_lease}
use Rattle.score.specs.Score.{has_midnight, part_of_day, claimed_on, claimed_at, served_at, owed_in_all, verdict_of}
use Rattle.score.specs.Score.{month_of, room_for, scored, refused, score_of}
use Rattle.score.specs.declared.month.Verdict.TheVariants.{Full, Short, NothingOwed}
use Rattle.score.proofs.Dates.{not_after, not_before}
use Rattle.trim.specs.Same.{Shared}
use Rattle.trim.proofs.Parts.{part_same}

module _ {cut day : ℕ} {r q : Replay} (e : Shared cut day r q) where
  -- both have a midnight record of the day, or neither
  pub has_same : (d : ℕ) → day ≤ d → has_midnight r.midnights r.last_day d ≡ has_midnight q.midnights q.last_day d
  unfolding has_midnight
  has_same d h = go (tested (leb d r.last_day))
    where
      same_test : leb d r.last_day ≡ leb d q.last_day
      same_test = ap (leb d) e.last_day_lem

      go : Tested (leb d r.last_day) → has_midnight r.midnights r.last_day d ≡ has_midnight q.midnights q.last_day d
      go (holds l) =
          and_intro l (lt-ltb r.last_day (d + r.midnights) (omega (arith, e.first_day_lem, e.last_day_lem, e.midnights))) ∙
          sym (and_intro (sym same_test ∙ l) (lt-ltb q.last_day (d + q.midnights) (omega (arith, e.first_day_lem))))
      go (fails l) = and_no_left _ l ∙ sym (and_no_left _ (sym same_test ∙ l))

  pub claimed_same : (d : ℕ) → day ≤ d → claimed_on r d ≡ claimed_on q d
  unfolding claimed_on
  claimed_same d h = go (tested (has_midnight q.midnights q.last_day d))
    where
      go : Tested (has_midnight q.midnights q.last_day d) → claimed_on r d ≡ claimed_on q d
      go (holds l) =
          let a : d ≤ q.last_day = not_after _ _ _ l in
          let b : q.last_day < d + q.midnights = not_before _ _ _ l in
          pick_yes _ _ (has_same d h ∙ l) ∙
          ap (λ (t : Tally). t.claims)
          (ap (part_at r) (omega (arith, e.midnights, e.last_day_lem)) ∙
          part_same e (part_of_day q.midnights q.last_day d) (omega arith) (omega arith)) ∙
          sym (pick_yes _ _ l)
      go (fails l) = pick_no _ _ (has_same d h ∙ l) ∙ sym (pick_no _ _ l)

  -- a day that was forgotten has no midnight record any more, so nothing was claimed on it
  pub claimed_forgotten : (d : ℕ) → d < day → claimed_on q d ≡ 0
  unfolding claimed_on has_midnight
  claimed_forgotten d h =
      pick_no _ _ (and_no_right (leb d q.last_day) (le-ltb q.last_day (d + q.midnights) (omega (arith, e.first_day_lem))))

  module _ (l : Lease) (h : day ≤ l.first_day) where
    pub claimed_days : (k : ℕ) → claimed_at l r k ≡ claimed_at l q k
    claimed_days k = claimed_same (l.first_day + k) (omega (arith, h))

    pub served_days : (k : ℕ) → served_at l r k ≡ served_at l q k
    unfolding served_at
    served_days k = ap (λ (n : ℕ). min n l.owed) (claimed_days k)

    pub verdict_same : verdict_of l r ≡ verdict_of l q
    unfolding verdict_of
    verdict_same =
        λ j.
        pick (every l.days (λ k. ltb 0 l.owed and eqb (served_days k j) l.owed)) Full (pick (eqb (owed_in_all l) 0) NothingOwed Short)

    month_same : month_of l r ≡ month_of l q
    month_same =
        λ j.
        record {
          claimed = room_for l.days (λ k. claimed_days k j);
          served = room_for l.days (λ k. served_days k j);
          totals = record { served = sum l.days (λ k. served_days k j); owed = owed_in_all l; verdict = verdict_same j };
        }

    pub score_same : score_of l r ≡ score_of l q
    unfolding score_of
    score_same =
        λ j. pick (is_lease l) (pick (eqb (e.stopped_by j) 0) (scored (month_same j)) (refused (e.stopped_by j))) (refused 21)
