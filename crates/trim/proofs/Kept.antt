-- A trimmed replay: it is valid where the replay is that it was made from, follows what that follows, and trimming it again changes nothing.
-- Assumes nothing.
use mathlib.Core.Path.{◌≡◌, refl, sym, ap, ◌∙◌, subst}
use mathlib.Core.Bool.{true}
use Prim.Native.Nat.{ℕ, zero, suc, ◌+◌, ◌-◌, ◌<◌, ◌≤◌}
use native.Mathlib.Omega.{arith}
use lib.Dec.{eqb}
use lib.ListN.{length, replicate, length-set, length-replicate}
use borrow.Author.Tests.{ne_eqb, eqb-true, eqb-false}
use Rattle.laws.proofs.Choice.{pick_yes, pick_no, Tested, tested, holds, fails}
use Rattle.state.specs.State.{Tally}
use Rattle.state.proofs.Lawful.{all_same}
use Rattle.replay.specs.State.{Replay, marks_length}
use Rattle.replay.specs.Report.{mark_at, began_with}
use Rattle.replay.specs.Cells.{Grows, ReplayValid}
use Rattle.replay.proofs.Marks.{mark_new, mark_other, grows_on, grows_marked, ended_now}
use Rattle.trim.specs.Trim.{cut_before, only_mark, last_only, trimmed}
use Rattle.trim.specs.Free.{Follows, Behind, by}

-- the two ways
pub untrimmed : (r : Replay) → r.midnights ≡ 0 → trimmed r ≡ r
unfolding trimmed
untrimmed r e = pick_yes _ _ (eqb_zero r.midnights e)
  where
    eqb_zero : (n : ℕ) → n ≡ 0 → eqb n 0 ≡ true
    eqb_zero n z = rw z refl

pub trimmed_is : (r : Replay) → 0 < r.midnights → trimmed r ≡ last_only r
unfolding trimmed
trimmed_is r h = pick_no _ _ (ne_eqb r.midnights 0 (λ e. omega arith))

no_marks : length (replicate {A = ℕ} marks_length 0) ≡ marks_length
no_marks = length-replicate {A = ℕ} marks_length 0

-- the only mark
pub only_mark_lem : (t : Tally) → mark_at (only_mark t) 0 ≡ t
only_mark_lem t = mark_new (replicate marks_length 0) 0 t (omega (arith, no_marks))

pub only_length : (t : Tally) → length (only_mark t) ≡ marks_length
only_length t = simp length-set no_marks

-- "trimming a replay twice is trimming it once"
last_again : (r : Replay) → last_only (last_only r) ≡ last_only r
last_again r =
    λ j.
    record {
      session = r.session;
      opened = r.opened;
      stopped_by = r.stopped_by;
      refused = record { number = r.refused.number; midnights = none_less (r.refused.midnights - (r.midnights - 1)) j };
      midnights = 1;
      last_day = (last_only r).last_day;
      marks = only_mark (only_mark_lem (mark_at r.marks (r.midnights - 1)) j);
    }
  where
    none_less : (n : ℕ) → n - 0 ≡ n
    none_less n = omega arith

pub trimmed_again : (r : Replay) → trimmed (trimmed r) ≡ trimmed r
trimmed_again r = go (tested (eqb r.midnights 0))
  where
    go : Tested (eqb r.midnights 0) → trimmed (trimmed r) ≡ trimmed r
    go (holds z) = ap trimmed (untrimmed r (eqb-true _ _ z))
    go (fails z) =
        let ne : r.midnights ≡ 0 → ⊥ = eqb-false _ _ z in
        let some : 0 < r.midnights = omega arith in
        ap trimmed (trimmed_is r some) ∙ trimmed_is (last_only r) (omega arith) ∙ last_again r ∙ sym (trimmed_is r some)

module _ (r : Replay) (v : ReplayValid r) (some : 0 < r.midnights) where
  abbrev last : Tally
  last = mark_at r.marks (r.midnights - 1)

  -- the tallies at the last midnight are no more than those of now
  abbrev now : Tally
  now = r.session.party.tally

  began_last : (m : ℕ) → 0 < m → began_with r.marks m ≡ mark_at r.marks (m - 1)
  unfolding began_with
  began_last zero h = absurd (omega arith)
  began_last (suc m) h = ap (mark_at r.marks) (omega arith)

  grown : (last.runs ≤ now.runs) × (last.claims ≤ now.claims)
  grown =
      let g = v.growing r.midnights (omega arith) in
      let b = began_last r.midnights some in
      let n = ended_now r.marks r.midnights now r.midnights (omega arith) in (
        subst (λ (t : Tally). t.runs ≤ now.runs) b (subst (λ (t : Tally). (began_with r.marks r.midnights).runs ≤ t.runs) n g.runs_grow),
        subst (λ (t : Tally). t.claims ≤ now.claims) b
            (subst (λ (t : Tally). (began_with r.marks r.midnights).claims ≤ t.claims) n g.claims_grow),
      )

  none_yet : (j : ℕ) → j ≤ 0 → Grows (replicate marks_length 0) 0 last.runs last.claims j
  none_yet j h =
      subst (λ (n : ℕ). Grows (replicate marks_length 0) 0 last.runs last.claims n) (let z : 0 ≡ j = omega arith in z)
      (unfold began_with in record { runs_grow = omega arith; claims_grow = omega arith })

  last_valid : ReplayValid (last_only r)
  last_valid =
      record {
        session = v.session;
        stops = v.stops;
        dropped = v.dropped;
        count_most = v.count_most;
        closed = v.closed;
        kind_known = v.kind_known;
        low_byte = v.low_byte;
        second_byte = v.second_byte;
        third_byte = v.third_byte;
        low_rest = v.low_rest;
        second_rest = v.second_rest;
        third_rest = v.third_rest;
        refused_midnights = omega (arith, v.refused_midnights);
        unrefused = λ z. omega (arith, v.unrefused z);
        midnights_most = omega arith;
        days_number = omega arith;
        no_day = λ z. absurd (omega arith);
        marks_length_lem = only_length last;
        marks_rest =
            λ k h. mark_other (replicate marks_length 0) 0 last k (λ z. omega arith) (λ z. omega arith) ∙ all_same 0 marks_length k;
        growing =
            λ k h.
            grows_on (only_mark last) 1 last.runs last.claims now.runs now.claims k grown.0 grown.1
            (grows_marked (replicate marks_length 0) 0 last (omega (arith, no_marks)) k h none_yet);
      }

-- a trimmed replay may go on
pub trimmed_valid : (r : Replay) → ReplayValid r → ReplayValid (trimmed r)
trimmed_valid r v = go (tested (eqb r.midnights 0))
  where
    go : Tested (eqb r.midnights 0) → ReplayValid (trimmed r)
    go (holds z) = subst ReplayValid (sym (untrimmed r (eqb-true _ _ z))) v
    go (fails z) =
        let ne : r.midnights ≡ 0 → ⊥ = eqb-false _ _ z in
        let some : 0 < r.midnights = omega arith in
        subst ReplayValid (sym (trimmed_is r some)) (last_valid r v some)

-- a trimmed replay follows what the replay that it was made from follows, one with room for any number of midnights
module _ {cut : ℕ} {r q : Replay} (e : Follows cut r q) where
  pub last_follows : 0 < q.midnights → Follows (cut + (q.midnights - 1)) r (last_only q)
  last_follows some =
      record {
        session = e.session;
        opened = e.opened;
        stopped_by = e.stopped_by;
        refused =
            (λ j. record { number = r.refused.number; midnights = place r.refused.midnights j }) ∙
            ap (cut_before (q.midnights - 1)) e.refused;
        midnights = omega (arith, e.midnights);
        some = λ z. omega arith;
        most = omega arith;
        last_day_lem = e.last_day_lem;
        days_number = omega arith;
        long_room = e.long_room;
        room = only_length (mark_at q.marks (q.midnights - 1));
        marks = λ k h. one k (omega arith);
      }
    where
      place : (f : ℕ) → f - (cut + (q.midnights - 1)) ≡ f - cut - (q.midnights - 1)
      place f = omega arith

      one : (k : ℕ) → k ≡ 0 →
          mark_at r.marks (cut + (q.midnights - 1) + k) ≡ mark_at (only_mark (mark_at q.marks (q.midnights - 1))) k
      one k z =
          let same_place : cut + (q.midnights - 1) + k ≡ cut + (q.midnights - 1) = omega arith in
          ap (mark_at r.marks) same_place ∙ e.marks (q.midnights - 1) (omega arith) ∙
          sym
          (ap (mark_at (only_mark (mark_at q.marks (q.midnights - 1)))) z ∙ only_mark_lem (mark_at q.marks (q.midnights - 1)))

  pub trim_follows : Behind r (trimmed q)
  trim_follows = go (tested (eqb q.midnights 0))
    where
      go : Tested (eqb q.midnights 0) → Behind r (trimmed q)
      go (holds z) = by cut (subst (Follows cut r) (sym (untrimmed q (eqb-true _ _ z))) e)
      go (fails z) =
          let ne : q.midnights ≡ 0 → ⊥ = eqb-false _ _ z in
          let some : 0 < q.midnights = omega arith in
          by (cut + (q.midnights - 1)) (subst (Follows (cut + (q.midnights - 1)) r) (sym (trimmed_is q some)) (last_follows some))
