-- The days of a replay: they are consecutive and at most 400, each midnight that is read adds its own day and changes no other, and
-- the runs and claims of all parts add up to the session's. An unfinished record is counted nowhere. Assumes nothing.
use mathlib.Core.Path.{◌≡◌, refl, sym, ap, ◌∙◌, subst}
use mathlib.Core.Bool.{true}
use mathlib.Core.List.{List, [], ◌∷◌}
use Prim.Native.Nat.{ℕ, zero, suc, ◌+◌, ◌-◌, ◌<◌, ◌≤◌}
use native.Mathlib.Numerals.{add-one}
use native.Mathlib.Omega.{arith}
use lib.ListN.{length}
use borrow.Author.Tests.{eqb-true, ne_eqb, le-leb}
use Rattle.laws.specs.Below.{sum}
use Rattle.laws.proofs.Below.{sum_last}
use Rattle.laws.proofs.Choice.{pick_yes, pick_no, and_right}
use Rattle.state.specs.State.{Tally}
use Rattle.session.specs.Feed.{nothing}
use Rattle.replay.specs.State.{OpenRecord, Replay}
use Rattle.replay.specs.Step.{opening, is_kind, of_kind, with_byte, may_begin, after_midnight}
use Rattle.replay.specs.Report.{no_tally, began_with, ended_with, less, part_of, part_at, day_at}
use Rattle.station_log.specs.Feed.{Fed, ahead, replay_of}
use Rattle.replay.specs.Cells.{ReplayValid}
use Rattle.station_log.specs.Unfinished.{OpenOnly, open_only}
use Rattle.replay.proofs.Marks.{ended_past, ended_now}
use Rattle.station_log.proofs.Records.{Ready, took, kind_byte, next_byte}

-- a midnight that is read: its day is the last part's, and no earlier part's day has changed
module _ (r : Replay) (day : ℕ) (e : may_begin r.midnights r.last_day day ≡ true) where
  pub new_day : day_at (after_midnight r day) (r.midnights + 1) ≡ day
  unfolding after_midnight
  new_day = omega arith

  pub old_days : (k : ℕ) → 0 < k → k ≤ r.midnights → day_at (after_midnight r day) k ≡ day_at r k
  unfolding after_midnight may_begin
  old_days k h le = let next : day ≡ r.last_day + 1 = follows in omega arith
    where
      follows : day ≡ r.last_day + 1
      follows =
          eqb-true day (r.last_day + 1)
          (sym (pick_no _ _ (ne_eqb r.midnights 0 (λ z. omega arith))) ∙ and_right _ _ e)

-- so the days are consecutive: each part from the second day on is one day after the part before it
pub consecutive : (r : Replay) → ReplayValid r → (k : ℕ) → 0 < k → day_at r (k + 1) ≡ day_at r k + 1
consecutive r v k h = omega (arith, v.days_number)

-- all parts together
module _ (r : Replay) (v : ReplayValid r) where
  abbrev now : Tally
  now = r.session.party.tally

  began_after : (k : ℕ) → k < r.midnights → began_with r.marks (suc k) ≡ ended_with r.marks r.midnights now k
  unfolding began_with
  began_after k h = sym (ended_past r.marks r.midnights now k h)

  part_is : (k : ℕ) → k ≤ r.midnights → part_at r k ≡ less (ended_with r.marks r.midnights now k) (began_with r.marks k)
  unfolding part_of
  part_is k h = pick_yes _ _ (le-leb k r.midnights h)

  -- up to a part's beginning
  module _ (f : Tally → ℕ) (zero_is : f no_tally ≡ 0)
      (differs : (a b : Tally) → f (less a b) ≡ f a - f b)
      (grows : (k : ℕ) → k ≤ r.midnights → f (began_with r.marks k) ≤ f (ended_with r.marks r.midnights now k))
    where
      before : (k : ℕ) → k ≤ r.midnights → sum k (λ j. f (part_at r j)) ≡ f (began_with r.marks k)
      before zero h = unfold sum began_with in sym zero_is
      before (suc k) h =
          let sofar : sum k (λ j. f (part_at r j)) ≡ f (began_with r.marks k) = before k (omega arith) in
          let this : f (part_at r k) ≡ f (ended_with r.marks r.midnights now k) - f (began_with r.marks k)
          = ap f (part_is k (omega arith)) ∙ differs _ _ in
          sum_last k (λ j. f (part_at r j)) ∙ omega (arith, grows k (omega arith)) ∙ ap f (sym (began_after k h))

      all : sum (r.midnights + 1) (λ j. f (part_at r j)) ≡ f now
      all =
          ap (λ (n : ℕ). sum n (λ j. f (part_at r j))) (add-one r.midnights) ∙
          sum_last r.midnights (λ j. f (part_at r j)) ∙
          (let sofar : sum r.midnights (λ j. f (part_at r j)) ≡ f (began_with r.marks r.midnights) = before r.midnights (omega arith) in
          let this : f (part_at r r.midnights) ≡ f (ended_with r.marks r.midnights now r.midnights) - f (began_with r.marks r.midnights)
          = ap f (part_is r.midnights (omega arith)) ∙ differs _ _ in
          omega (arith, grows r.midnights (omega arith)) ∙ ap f (ended_now r.marks r.midnights now r.midnights (omega arith)))

  pub all_runs : sum (r.midnights + 1) (λ k. (part_at r k).runs) ≡ r.session.party.tally.runs
  all_runs = all (λ t. t.runs) refl (λ a b. refl) (λ k h. (v.growing k h).runs_grow)

  pub all_claims : sum (r.midnights + 1) (λ k. (part_at r k).claims) ≡ r.session.party.tally.claims
  all_claims = all (λ t. t.claims) refl (λ a b. refl) (λ k h. (v.growing k h).claims_grow)

-- up to four bytes of a record change the open record alone
module _ (r : Replay) (y : Ready r) where
  abbrev answer : ℕ → OpenRecord → Fed
  answer n o = record { taken = n; refusal = nothing; replay = opening o r }

  one_more : (n : ℕ) → suc n ≡ 1 + n
  one_more n = omega arith

  more : (o : OpenRecord) (bs : List ℕ) → 0 < o.count → o.count + length bs ≤ 4 →
      OpenOnly r o.count (length bs) (replay_of (opening o r) bs)
  more o [] h le = unfold replay_of in open_only o (omega arith)
  more o (b ∷ bs) h le =
      subst (OpenOnly r o.count (suc (length bs)))
      (sym (took (opening o r) (opening (with_byte o b) r) b bs (next_byte r y o b h (omega arith))))
      (go _ (more (with_byte o b) bs (omega arith) (omega arith)))
    where
      go : (f : Fed) → OpenOnly r (o.count + 1) (length bs) f → OpenOnly r o.count (suc (length bs)) (ahead 1 f)
      go f (open_only x e) =
          subst (λ (n : ℕ). OpenOnly r o.count (suc (length bs)) (answer n x)) (one_more (length bs)) (open_only x (omega arith))

  pub unfinished : (kind : ℕ) (bs : List ℕ) → is_kind kind ≡ true → length bs ≤ 3 →
      OpenOnly r 0 (suc (length bs)) (replay_of r (kind ∷ bs))
  unfinished kind bs k h =
      subst (OpenOnly r 0 (suc (length bs))) (sym (took r (opening (of_kind kind) r) kind bs (kind_byte r y kind k)))
      (go _ (more (of_kind kind) bs (omega arith) (omega arith)))
    where
      go : (f : Fed) → OpenOnly r 1 (length bs) f → OpenOnly r 0 (suc (length bs)) (ahead 1 f)
      go f (open_only x e) =
          subst (λ (n : ℕ). OpenOnly r 0 (suc (length bs)) (answer n x)) (one_more (length bs)) (open_only x (omega arith))
