-- The tests of a replay that comes back are the validity that the entries ask, both ways. Assumes nothing.
use mathlib.Core.Path.{◌≡◌, refl, sym, ap, ◌∙◌, subst}
use mathlib.Core.Bool.{Bool, true, false}
use mathlib.Core.List.{List, []}
use Prim.Native.Nat.{ℕ, ◌+◌, ◌*◌, ◌<◌, ◌≤◌}
use native.Mathlib.Omega.{arith}
use lib.Dec.{eqb, leb, ltb}
use lib.ListN.{length, get_or, get_or-eq_default}
use borrow.Author.Tests.{ltb-true, ltb-false, leb-true, eqb-true, eqb-false, lt-ltb, le-ltb, le-leb, eq-eqb, ne_eqb}
use Rattle.laws.specs.Choice.{◌and◌, pick}
use Rattle.laws.specs.Below.{every}
use Rattle.laws.proofs.Below.{every_at, every_of}
use Rattle.laws.proofs.Choice.{pick_yes, pick_no, and_left, and_right, and_intro, and_yes, and_no_left, Tested, tested, holds, fails}
use Rattle.state.specs.State.{Tally, new_session}
use Rattle.state.specs.Cells.{party_of, session_of}
use Rattle.state.specs.Asked.{Given}
use Rattle.state.specs.Valid as sessions
use Rattle.replay.specs.State.{OpenRecord, WordRefused, Replay, no_record, most_midnights, marks_length}
use Rattle.replay.specs.Step.{StopNumber, by_kind, by_day, is_kind}
use Rattle.replay.specs.Report.{began_with, ended_with}
use Rattle.replay.specs.Cells.{viewed, replay_in, Grows, ReplayValid, ReplayGiven}
use Rattle.station_log.specs.Asked.{ReplaySized}
use Rattle.days.specs.Reported.{now_in}
use Rattle.judges.specs.Judged.{Judges}
use Rattle.judges.proofs.Joined.{joined}
use Rattle.judges_log.specs.Judged.{
  stop_by,
  byte_by,
  bytes_by,
  record_by,
  refused_by,
  days_by,
  numbers_by,
  grows_at,
  rest_at,
  marks_by,
}

-- a byte that has come is one, and one that hasn't is 0; and the other way round
module _ (count k b : ℕ) where
  byte_rest : byte_by count k b ≡ true → count ≤ k → b ≡ 0
  unfolding byte_by
  byte_rest e h = eqb-true b 0 (sym (pick_no _ _ (le-ltb k count h)) ∙ e)

  byte_small : byte_by count k b ≡ true → b < 256
  unfolding byte_by
  byte_small e = go (tested (ltb k count))
    where
      go : Tested (ltb k count) → b < 256
      go (holds q) = ltb-true b 256 (sym (pick_yes _ _ q) ∙ e)
      go (fails q) = let z : b ≡ 0 = eqb-true b 0 (sym (pick_no (ltb b 256) _ q) ∙ e) in omega arith

  yes_byte : b < 256 → (count ≤ k → b ≡ 0) → byte_by count k b ≡ true
  unfolding byte_by
  yes_byte s f = go (tested (ltb k count))
    where
      go : Tested (ltb k count) → pick (ltb k count) (ltb b 256) (eqb b 0) ≡ true
      go (holds q) = pick_yes _ _ q ∙ lt-ltb b 256 s
      go (fails q) = pick_no (ltb b 256) _ q ∙ eq-eqb b 0 (f (ltb-false k count q))

-- what the test of the open record says
record RecordKept (o : OpenRecord) : Type 0 where
  count_most : o.count ≤ 4
  closed : o.count ≡ 0 → o ≡ no_record
  kind_known : 0 < o.count → is_kind o.kind ≡ true
  low_byte : o.low < 256
  second_byte : o.second < 256
  third_byte : o.third < 256
  low_rest : o.count ≤ 1 → o.low ≡ 0
  second_rest : o.count ≤ 2 → o.second ≡ 0
  third_rest : o.count ≤ 3 → o.third ≡ 0

module _ (o : OpenRecord) where
  abbrev Open : Bool
  Open = leb o.count 4 and (is_kind o.kind and bytes_by o)

  abbrev Shut : Bool
  Shut = eqb o.kind 0 and bytes_by o

  module _ (e : bytes_by o ≡ true) where
    low : byte_by o.count 1 o.low ≡ true
    unfolding bytes_by
    low = and_left _ _ e

    second : byte_by o.count 2 o.second ≡ true
    unfolding bytes_by
    second = and_left _ _ (and_right _ _ e)

    third : byte_by o.count 3 o.third ≡ true
    unfolding bytes_by
    third = and_right _ _ (and_right _ _ e)

    with_bytes : o.count ≤ 4 → (o.count ≡ 0 → o.kind ≡ 0) → (0 < o.count → is_kind o.kind ≡ true) → RecordKept o
    with_bytes most kind known =
        record {
          count_most = most;
          closed =
              λ z i.
              record {
                count = z i;
                kind = kind z i;
                low = byte_rest o.count 1 o.low low (omega arith) i;
                second = byte_rest o.count 2 o.second second (omega arith) i;
                third = byte_rest o.count 3 o.third third (omega arith) i;
              };
          kind_known = known;
          low_byte = byte_small o.count 1 o.low low;
          second_byte = byte_small o.count 2 o.second second;
          third_byte = byte_small o.count 3 o.third third;
          low_rest = byte_rest o.count 1 o.low low;
          second_rest = byte_rest o.count 2 o.second second;
          third_rest = byte_rest o.count 3 o.third third;
        }

  kept_bytes : RecordKept o → bytes_by o ≡ true
  unfolding bytes_by
  kept_bytes v =
      and_intro (yes_byte o.count 1 o.low v.low_byte v.low_rest)
      (and_intro (yes_byte o.count 2 o.second v.second_byte v.second_rest)
      (yes_byte o.count 3 o.third v.third_byte v.third_rest))

  record_kept : record_by o ≡ true → RecordKept o
  unfolding record_by
  record_kept e = go (tested (eqb o.count 0))
    where
      go : Tested (eqb o.count 0) → RecordKept o
      go (holds q) =
          let z : o.count ≡ 0 = eqb-true _ _ q in
          let shut : Shut ≡ true = sym (pick_yes Shut Open q) ∙ e in
          with_bytes (and_right _ _ shut) (omega arith) (λ c. eqb-true _ _ (and_left _ _ shut)) (λ c. absurd (omega arith))
      go (fails q) =
          let ne : o.count ≡ 0 → ⊥ = eqb-false _ _ q in
          let opened : Open ≡ true = sym (pick_no Shut Open q) ∙ e in
          with_bytes (and_right _ _ (and_right _ _ opened)) (leb-true _ _ (and_left _ _ opened)) (λ c. absurd (ne c))
          (λ c. and_left _ _ (and_right _ _ opened))

  kept_record : RecordKept o → record_by o ≡ true
  unfolding record_by
  kept_record v = go (tested (eqb o.count 0))
    where
      bytes : bytes_by o ≡ true
      bytes = kept_bytes v

      go : Tested (eqb o.count 0) → pick (eqb o.count 0) Shut Open ≡ true
      go (holds q) =
          pick_yes Shut Open q ∙
          and_intro (eq-eqb _ _ (ap (λ (x : OpenRecord). x.kind) (v.closed (eqb-true _ _ q)))) bytes
      go (fails q) =
          let ne : o.count ≡ 0 → ⊥ = eqb-false _ _ q in
          let begun : 0 < o.count = omega arith in
          pick_no Shut Open q ∙ and_intro (le-leb _ _ v.count_most) (and_intro (v.kind_known begun) bytes)

-- the number that stopped the replay
module _ (number count : ℕ) where
  abbrev Dropped : Bool
  Dropped = eqb number 19 and eqb count 0

  abbrev Stopped : Bool
  Stopped = pick (eqb number 18) (eqb count 0) Dropped

  stop_number : stop_by number count ≡ true → (number ≡ 0 → ⊥) → StopNumber number × (count ≡ 0)
  unfolding stop_by
  stop_number e ne = go (tested (eqb number 18))
    where
      stopped : Stopped ≡ true
      stopped = sym (pick_no true Stopped (ne_eqb number 0 ne)) ∙ e

      go : Tested (eqb number 18) → StopNumber number × (count ≡ 0)
      go (holds q) = (subst StopNumber (sym (eqb-true _ _ q)) by_kind, eqb-true _ _ (sym (pick_yes _ Dropped q) ∙ stopped))
      go (fails q) =
          let dropped : Dropped ≡ true = sym (pick_no (eqb count 0) _ q) ∙ stopped in
          (subst StopNumber (sym (eqb-true number 19 (and_left _ _ dropped))) by_day, eqb-true _ _ (and_right _ _ dropped))

dropped_by : (number count : ℕ) → StopNumber number → count ≡ 0 → stop_by number count ≡ true
unfolding stop_by pick ◌and◌
dropped_by number count by_kind z = eq-eqb count 0 z
dropped_by number count by_day z = eq-eqb count 0 z

number_stop : (number count : ℕ) → ((number ≡ 0 → ⊥) → StopNumber number × (count ≡ 0)) → stop_by number count ≡ true
unfolding stop_by
number_stop number count f = go (tested (eqb number 0))
  where
    go : Tested (eqb number 0) → stop_by number count ≡ true
    go (holds q) = pick_yes _ _ q
    go (fails q) = let s = f (eqb-false _ _ q) in dropped_by number count s.0 s.1

-- the first refused word, and the days: a choice by whether there is one
module _ (n : ℕ) (none some : Bool) where
  chosen_none : pick (eqb n 0) none some ≡ true → n ≡ 0 → none ≡ true
  chosen_none e z = sym (pick_yes none some (eq-eqb n 0 z)) ∙ e

  chosen_some : pick (eqb n 0) none some ≡ true → (n ≡ 0 → ⊥) → some ≡ true
  chosen_some e z = sym (pick_no none some (ne_eqb n 0 z)) ∙ e

  choose : (n ≡ 0 → none ≡ true) → ((n ≡ 0 → ⊥) → some ≡ true) → pick (eqb n 0) none some ≡ true
  choose f g = go (tested (eqb n 0))
    where
      go : Tested (eqb n 0) → pick (eqb n 0) none some ≡ true
      go (holds q) = pick_yes none some q ∙ f (eqb-true n 0 q)
      go (fails q) = pick_no none some q ∙ g (eqb-false n 0 q)

module _ (w : WordRefused) (midnights : ℕ) where
  abbrev Late : Bool
  Late = leb w.midnights midnights

  unrefused_by : refused_by w midnights ≡ true → w.number ≡ 0 → w.midnights ≡ 0
  unfolding refused_by
  unrefused_by e z = eqb-true _ _ (chosen_none w.number (eqb w.midnights 0) Late e z)

  refused_by_lem : refused_by w midnights ≡ true → w.midnights ≤ midnights
  unfolding refused_by
  refused_by_lem e = go (tested (eqb w.number 0))
    where
      go : Tested (eqb w.number 0) → w.midnights ≤ midnights
      go (holds q) = let z : w.midnights ≡ 0 = eqb-true _ _ (sym (pick_yes _ Late q) ∙ e) in omega arith
      go (fails q) = leb-true _ _ (sym (pick_no (eqb w.midnights 0) _ q) ∙ e)

  by_refused : w.midnights ≤ midnights → (w.number ≡ 0 → w.midnights ≡ 0) → refused_by w midnights ≡ true
  unfolding refused_by
  by_refused l f = choose w.number (eqb w.midnights 0) Late (λ z. eq-eqb _ _ (f z)) (λ n. le-leb _ _ l)

module _ (midnights last : ℕ) where
  abbrev Days : Bool
  Days = leb midnights most_midnights and leb midnights (last + 1)

  no_day_by : days_by midnights last ≡ true → midnights ≡ 0 → last ≡ 0
  unfolding days_by
  no_day_by e z = eqb-true _ _ (chosen_none midnights (eqb last 0) Days e z)

  days_by_lem : days_by midnights last ≡ true → (midnights ≤ most_midnights) × (midnights ≤ last + 1)
  unfolding days_by
  days_by_lem e = go (tested (eqb midnights 0))
    where
      go : Tested (eqb midnights 0) → (midnights ≤ most_midnights) × (midnights ≤ last + 1)
      go (holds q) = let z : midnights ≡ 0 = eqb-true _ _ q in (omega arith, omega arith)
      go (fails q) =
          let days : Days ≡ true = sym (pick_no (eqb last 0) Days q) ∙ e in
          (leb-true _ _ (and_left _ _ days), leb-true _ _ (and_right _ _ days))

  by_days : midnights ≤ most_midnights → midnights ≤ last + 1 → (midnights ≡ 0 → last ≡ 0) → days_by midnights last ≡ true
  unfolding days_by
  by_days m d f =
      choose midnights (eqb last 0) Days (λ z. eq-eqb _ _ (f z)) (λ n. and_intro (le-leb _ _ m) (le-leb _ _ d))

-- the marks: each of the midnights that have come, and 0 for the rest
module _ (marks : List ℕ) (midnights : ℕ) (now : Tally) where
  marks_rest : length marks ≡ marks_length → marks_by marks midnights now ≡ true → (k : ℕ) → 2 * midnights ≤ k → get_or marks k 0 ≡ 0
  unfolding marks_by rest_at
  marks_rest l e k h = go (tested (ltb k marks_length))
    where
      go : Tested (ltb k marks_length) → get_or marks k 0 ≡ 0
      go (holds q) =
          eqb-true _ _
          (sym (pick_no _ _ (le-ltb k (2 * midnights) h)) ∙
          every_at marks_length (rest_at marks midnights) (and_right _ _ e) k (ltb-true k marks_length q))
      go (fails q) = let past : marks_length ≤ k = ltb-false k marks_length q in get_or-eq_default marks 0 (omega arith)

  growing : marks_by marks midnights now ≡ true → (k : ℕ) → k ≤ midnights → Grows marks midnights now.runs now.claims k
  unfolding marks_by grows_at
  growing e k h =
      let least : k < midnights + 1 = omega arith in
      let both = every_at (midnights + 1) (grows_at marks midnights now) (and_left _ _ e) k least in
      record { runs_grow = leb-true _ _ (and_left _ _ both); claims_grow = leb-true _ _ (and_right _ _ both) }

  by_marks : ((k : ℕ) → 2 * midnights ≤ k → get_or marks k 0 ≡ 0) →
      ((k : ℕ) → k ≤ midnights → Grows marks midnights now.runs now.claims k) → marks_by marks midnights now ≡ true
  unfolding marks_by grows_at rest_at
  by_marks f g =
      and_intro
      (every_of (midnights + 1) (grows_at marks midnights now)
      (λ k h. let w = g k (omega arith) in and_intro (le-leb _ _ w.runs_grow) (le-leb _ _ w.claims_grow)))
      (every_of marks_length (rest_at marks midnights) (λ k h. rest k (tested (ltb k (2 * midnights)))))
    where
      rest : (k : ℕ) → Tested (ltb k (2 * midnights)) → pick (ltb k (2 * midnights)) true (eqb (get_or marks k 0) 0) ≡ true
      rest k (holds q) = pick_yes _ _ q
      rest k (fails q) = pick_no true _ q ∙ eq-eqb _ _ (f k (ltb-false k (2 * midnights) q))

-- the whole replay
module _ (r : Replay) where
  numbers_days : numbers_by r ≡ true → days_by r.midnights r.last_day ≡ true
  unfolding numbers_by
  numbers_days e = and_right _ _ (and_right _ _ (and_right _ _ e))

  judged_valid : sessions.Valid r.session → length r.marks ≡ marks_length → numbers_by r ≡ true →
      marks_by r.marks r.midnights r.session.party.tally ≡ true → ReplayValid r
  unfolding numbers_by
  judged_valid s l e m =
      let kept = record_kept r.opened (and_left _ _ (and_right _ _ e)) in
      let stop = stop_number r.stopped_by r.opened.count (and_left _ _ e) in
      let refused = and_left _ _ (and_right _ _ (and_right _ _ e)) in
      let days = days_by_lem r.midnights r.last_day (numbers_days e) in
      record {
        session = s;
        stops = λ n. (stop n).0;
        dropped = λ n. kept.closed (stop n).1;
        count_most = kept.count_most;
        closed = kept.closed;
        kind_known = kept.kind_known;
        low_byte = kept.low_byte;
        second_byte = kept.second_byte;
        third_byte = kept.third_byte;
        low_rest = kept.low_rest;
        second_rest = kept.second_rest;
        third_rest = kept.third_rest;
        refused_midnights = refused_by_lem r.refused r.midnights refused;
        unrefused = unrefused_by r.refused r.midnights refused;
        midnights_most = days.0;
        days_number = days.1;
        no_day = no_day_by r.midnights r.last_day (numbers_days e);
        marks_length_lem = l;
        marks_rest = marks_rest r.marks r.midnights r.session.party.tally l m;
        growing = growing r.marks r.midnights r.session.party.tally m;
      }

  module _ (v : ReplayValid r) where
    valid_numbers : numbers_by r ≡ true
    unfolding numbers_by
    valid_numbers =
        and_intro
        (number_stop r.stopped_by r.opened.count
        (λ n. (v.stops n, ap (λ (o : OpenRecord). o.count) (v.dropped n))))
        (and_intro
        (kept_record r.opened
        (record {
          count_most = v.count_most;
          closed = v.closed;
          kind_known = v.kind_known;
          low_byte = v.low_byte;
          second_byte = v.second_byte;
          third_byte = v.third_byte;
          low_rest = v.low_rest;
          second_rest = v.second_rest;
          third_rest = v.third_rest;
        }))
        (and_intro (by_refused r.refused r.midnights v.refused_midnights v.unrefused)
        (by_days r.midnights r.last_day v.midnights_most v.days_number v.no_day)))

    valid_marks : marks_by r.marks r.midnights r.session.party.tally ≡ true
    valid_marks = by_marks r.marks r.midnights r.session.party.tally v.marks_rest v.growing

-- the midnights that the marks are judged with
pub midnights_few : (log : List ℕ) {t : Bool} → t ≡ numbers_by (viewed log [] (new_session 1)) → t ≡ true → get_or log 3 0 ≤ most_midnights
unfolding viewed
midnights_few log n y = (days_by_lem _ _ (numbers_days (viewed log [] (new_session 1)) (sym n ∙ y))).0

-- each return of the judge
module _ (log marks own tallies shared : List ℕ) {t : Bool} (n : t ≡ numbers_by (viewed log [] (new_session 1))) where
  abbrev Answers : Bool → Type 0
  Answers r = Judges r (ReplayGiven log marks own tallies shared)

  abbrev whole : Replay
  whole = replay_in log marks own tallies shared

  seen : t ≡ numbers_by whole
  unfolding numbers_by viewed
  seen = n

  pub replay_yes : ReplaySized log marks own tallies shared → t ≡ true → {a b r : Bool} →
      Judges a (Given own tallies shared) → b ≡ marks_by marks (get_or log 3 0) (now_in tallies) → r ≡ (a and b) → Answers r
  unfolding viewed party_of
  replay_yes z y {a} {b} s m e =
      record {
        sound =
            λ yes.
            let both : (a and b) ≡ true = sym e ∙ yes in
            record {
              log_length_lem = z.log_length_lem;
              marks_length_lem = z.marks_length_lem;
              session_sized = z.session_sized;
              valid =
                  judged_valid whole (s.sound (and_left _ _ both)).valid z.marks_length_lem (sym seen ∙ y)
                  (sym m ∙ and_right _ _ both);
            };
        complete =
            λ g.
            e ∙
            and_intro (s.complete (record { sized = g.session_sized; valid = g.valid.session })) (m ∙ valid_marks whole g.valid);
      }

  no_way : false ≡ true → ⊥
  no_way e = let z : ◌≡◌ {A = ℕ} 0 1 = cc in omega arith

  pub replay_no : t ≡ false → Answers false
  replay_no f = record { sound = λ yes. absurd (no_way yes); complete = λ g. sym f ∙ seen ∙ valid_numbers whole g.valid }
