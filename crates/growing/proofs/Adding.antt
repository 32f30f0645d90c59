-- What the calls on a growing report leave, return by return. Assumes nothing.
use mathlib.Core.Path.{◌≡◌, refl, sym, ap, ap₂, ◌∙◌, subst}
use mathlib.Core.Bool.{Bool, true, false}
use mathlib.Core.List.{List, [], ◌∷◌}
use Prim.Native.Nat.{ℕ, suc, ◌+◌, ◌<◌, ◌≤◌}
use native.Mathlib.Nat.{le_trans}
use native.Mathlib.Omega.{arith}
use lib.Dec.{eqb, leb}
use lib.ListN.{get_or}
use borrow.Author.Tests.{eq-eqb, ne_eqb, eqb-true, lt-ltb, le-ltb, le-leb, lt-leb}
use Rattle.laws.specs.Choice.{◌and◌, pick}
use Rattle.laws.proofs.Choice.{Tested, holds, fails, tested, pick_yes, pick_no, and_intro}
use Rattle.refusal.specs.Told.{Told, gives, refuses}
use Rattle.refusal.specs.Crossing.{Crosses, Shows, room_of}
use Rattle.refusal.proofs.Crossings.{crosses_gives, crosses_refuses}
use Rattle.state.specs.Cells.{party_of}
use Rattle.state.specs.Start.{is_edition}
use Rattle.replay.specs.State.{Replay}
use Rattle.replay.specs.Cells.{viewed, replay_in}
use Rattle.score.specs.Lease.{Lease}
use Rattle.score.specs.Score.{score_of}
use Rattle.fleet.specs.Fleet.{Station, refusal_in, served_in, owed_in, silent_days, most_month, no_station}
use Rattle.fleet.specs.Answers.{ScoredAs, AddAsked, no_fleet, added, part_next}
use Rattle.fleet.specs.Join.{joined}
use Rattle.fleet.specs.declared.station.Month.{Month}
use Rattle.fleet.specs.declared.parts.Part.{Part}
use Rattle.fleet.specs.declared.parts.Fleet.{Fleet}
use Rattle.fleet.proofs.Months.{monthly, month_numbers, was_month, was_number, zero_fine}
use Rattle.std.specs.Prelude.{Result, Ok, Err}
use Rattle.growing.specs.Sums.{Sums, no_sums, with_month, with_station, joined_sums, most_stations, is_month, is_placed, SumsValid}
use Rattle.growing.specs.Cells.{
  totals_in,
  sums_in,
  sums_cells,
  SumsGiven,
  begun_told,
  station_of,
  edition_in,
  add_told,
  AddCrosses,
  add_month_told,
  join_told,
  told_numbers,
  PutAsked,
  JoinAsked,
}
use Rattle.growing.proofs.Growing.{month_bounded, placed_low, placed_none, joined_as_next}

crosses_into : {t : Told} {v : List ℕ} {room room' : List ℕ} → t ≡ gives v → room' ≡ v → Crosses t 0 room room'
crosses_into {t} {v} {room} e k = subst (Crosses t 0 room) (sym k) (crosses_gives t v room e)

-- a report that begins
module _ (edition : ℕ) (sums : List ℕ) where
  pub begun_as : is_edition edition ≡ true → {f : Fleet} → f ≡ no_fleet → {sums1 : List ℕ} →
      sums1 ≡ sums_cells (record { edition = edition; count = 0; fleet = f }) → Crosses (begun_told edition) 0 sums sums1
  unfolding begun_told
  begun_as e {f} k c =
      crosses_into (pick_yes _ _ e) (c ∙ ap (λ (x : Fleet). sums_cells (record { edition = edition; count = 0; fleet = x })) k)

  pub not_begun : is_edition edition ≡ false → {r : ℕ} → r ≡ 3 → Crosses (begun_told edition) r sums sums
  unfolding begun_told
  not_begun e {r} k = crosses_refuses _ r 3 sums k (pick_no _ _ e)

-- a month's numbers are put
module _ (sums : List ℕ) (served owed silent : ℕ) (asked : PutAsked sums served owed silent) where
  pub put_asked : {f : Fleet} → f ≡ totals_in sums → AddAsked f served owed silent
  put_asked {f} e =
      subst (λ (x : Fleet). AddAsked x served owed silent) (sym e)
      (let v = asked.given.valid in
      let b = month_bounded asked.month in
      record {
        served_month = le_trans b.within b.most;
        owed_month = b.most;
        silent_month = b.days;
        served_most = omega (arith, v.served_most, v.owed_most, asked.room);
        owed_most = omega (arith, v.owed_most, asked.room);
        silent_most = omega (arith, v.silent_most, asked.room);
        part_served = le_trans v.part_served v.part_owed;
        part_owed = v.part_owed;
      })

  pub put_as : {f : Fleet} → f ≡ totals_in sums → {f1 : Fleet} → f1 ≡ added f (get_or sums 1 0) served owed silent → {sums1 : List ℕ} →
      sums1 ≡ sums_cells (record { edition = get_or sums 0 0; count = get_or sums 1 0 + 1; fleet = f1 }) →
      sums1 ≡ sums_cells (with_month (sums_in sums) served owed silent)
  unfolding with_month
  put_as e d c =
      c ∙
      ap (λ (x : Fleet). sums_cells (record { edition = get_or sums 0 0; count = get_or sums 1 0 + 1; fleet = x }))
      (d ∙ ap (λ (x : Fleet). added x (get_or sums 1 0) served owed silent) e)

pub month_tested : (served owed silent : ℕ) {a b : Bool} → a ≡ (leb owed most_month and b) → b ≡ (leb served owed and leb silent 31) →
    a ≡ is_month served owed silent
unfolding is_month
month_tested served owed silent x y = x ∙ ap (λ (t : Bool). leb owed most_month and t) y

-- a scored month's numbers are a month's
pub score_month : (l : Lease) (q : Replay) → is_month (served_in (score_of l q)) (owed_in (score_of l q)) (silent_days l (score_of l q)) ≡ true
unfolding is_month
score_month l q =
    let m = monthly l q in
    and_intro (le-leb _ _ m.owed_most) (and_intro (le-leb _ _ m.served_owed) (le-leb _ _ m.silent_most))

-- a refusal's number isn't 0, so that no error looks like a station that was added
pub error_some : {n k : ℕ} → n ≡ suc k → ◌≡◌ {A = Result (Unit {0}) ℕ} (Err n) (Err 0) → ⊥
error_some {n} x e =
    let zero : n ≡ 0 = cc in
    omega arith

pub refused_some : (l : Lease) {log marks tallies : List ℕ} {answer : Result Month ℕ} → ScoredAs l log marks tallies answer →
    {number : ℕ} → answer ≡ Err number → ◌≡◌ {A = Result (Unit {0}) ℕ} (Err number) (Err 0) → ⊥
refused_some l {log} {marks} {tallies} is {number} e z =
    let r = replay_in log marks [] tallies [] in
    let was = was_number l (score_of l r) (sym e ∙ is.told [] []) in
    let zero : number ≡ 0 = cc in
    let y = sym was.1 ∙ zero_fine l r (sym was.0 ∙ zero) in
    absurd (let w : ◌≡◌ {A = ℕ} 0 1 = cc in omega arith)

pub added_apart : {done : Unit {0}} → ◌≡◌ {A = Result (Unit {0}) ℕ} (Ok done) (Err 0) → ⊥
added_apart e = absurd (let z : ◌≡◌ {A = ℕ} 0 1 = cc in omega arith)

-- the station of a replay
module _ (l : Lease) (log marks own tallies sums : List ℕ) where
  abbrev replay : List ℕ → Replay
  replay shared = replay_in log marks own tallies shared

  abbrev told : List ℕ → Told
  told shared = add_told (sums_in sums) (edition_in (replay shared)) (station_of l (replay shared))

  born : (shared : List ℕ) → edition_in (replay shared) ≡ get_or own 18 0
  unfolding viewed party_of
  born shared = refl

  -- the replay is of another edition
  pub other_edition : (get_or sums 0 0 ≡ get_or own 18 0 → ⊥) → {r : ℕ} → r ≡ 3 → AddCrosses l log marks own tallies r sums sums
  unfolding add_told
  other_edition ne {r} k =
      record {
        told =
            λ shared.
            crosses_refuses _ r 3 sums k (pick_no _ _ (ne_eqb (get_or sums 0 0) (edition_in (replay shared)) (λ e. ne (e ∙ born shared))));
      }

  module _ (same : get_or sums 0 0 ≡ get_or own 18 0) where
    its_own : (shared : List ℕ) → eqb (get_or sums 0 0) (edition_in (replay shared)) ≡ true
    its_own shared = eq-eqb _ _ (same ∙ sym (born shared))

    -- there is room for no more
    pub no_more : most_stations ≤ get_or sums 1 0 → {r : ℕ} → r ≡ 22 → AddCrosses l log marks own tallies r sums sums
    unfolding add_told
    no_more h {r} k =
        record {
          told =
              λ shared.
              crosses_refuses _ r 22 sums k (pick_yes _ _ (its_own shared) ∙ pick_no _ _ (le-ltb (get_or sums 1 0) most_stations h));
        }

    module _ (less : get_or sums 1 0 < most_stations) {answer : Result Month ℕ} (is : ScoredAs l log marks tallies answer) where
      -- the station is refused
      pub refused_as : {number : ℕ} → answer ≡ Err number → AddCrosses l log marks own tallies number sums sums
      unfolding add_told
      refused_as {number} e =
          record {
            told =
                λ shared.
                let was = was_number l (score_of l (replay shared)) (sym e ∙ is.told own shared) in
                crosses_refuses _ number (refusal_in (score_of l (replay shared))) sums was.0
                (pick_yes _ _ (its_own shared) ∙ pick_yes _ _ (lt-ltb (get_or sums 1 0) most_stations less) ∙ pick_yes _ _ was.1);
          }

      module _ {month : Month} (e : answer ≡ Ok month) where
        as_scored : (shared : List ℕ) → month ≡ month_numbers l (score_of l (replay shared))
        as_scored shared = (was_month l (score_of l (replay shared)) (sym e ∙ is.told own shared)).0

        -- its month has room
        pub may_put : SumsGiven sums → PutAsked sums month.served month.owed month.silent
        may_put g =
            subst (λ (m : Month). PutAsked sums m.served m.owed m.silent) (sym (as_scored []))
            (record { given = g; room = less; month = score_month l (replay []) })

        -- the station is added
        pub added_as : {sums1 : List ℕ} →
            sums1 ≡ sums_cells (with_month (sums_in sums) month.served month.owed month.silent) →
            AddCrosses l log marks own tallies 0 sums sums1
        unfolding add_told
        added_as {sums1} c =
            record {
              told =
                  λ shared.
                  crosses_into
                  (pick_yes _ _ (its_own shared) ∙ pick_yes _ _ (lt-ltb (get_or sums 1 0) most_stations less) ∙
                  pick_no _ _ (was_month l (score_of l (replay shared)) (sym e ∙ is.told own shared)).1)
                  (c ∙ ap (λ (m : Month). sums_cells (with_month (sums_in sums) m.served m.owed m.silent)) (as_scored shared));
            }

-- a month by its numbers
module _ (sums : List ℕ) (served owed silent : ℕ) where
  pub no_more_months : most_stations ≤ get_or sums 1 0 → {r : ℕ} → r ≡ 22 → Crosses (add_month_told (sums_in sums) served owed silent) r sums sums
  unfolding add_month_told
  no_more_months h {r} k = crosses_refuses _ r 22 sums k (pick_no _ _ (le-ltb (get_or sums 1 0) most_stations h))

  module _ (less : get_or sums 1 0 < most_stations) where
    pub month_put : is_month served owed silent ≡ true → {sums1 : List ℕ} →
        sums1 ≡ sums_cells (with_month (sums_in sums) served owed silent) → Crosses (add_month_told (sums_in sums) served owed silent) 0 sums sums1
    unfolding add_month_told
    month_put e c = crosses_into (pick_yes _ _ (lt-ltb (get_or sums 1 0) most_stations less) ∙ pick_yes _ _ e) c

    pub no_month : is_month served owed silent ≡ false → {r : ℕ} → r ≡ 21 →
        Crosses (add_month_told (sums_in sums) served owed silent) r sums sums
    unfolding add_month_told
    no_month e {r} k = crosses_refuses _ r 21 sums k (pick_yes _ _ (lt-ltb (get_or sums 1 0) most_stations less) ∙ pick_no _ _ e)

-- two fleets together
pub joined_fleet : (first : Fleet) (count : ℕ) (second : Fleet) {p : Part} →
    p ≡ part_next first.part (count + second.part.station) second.part.served second.part.owed →
    record {
      served = first.served + second.served;
      owed = first.owed + second.owed;
      silent = first.silent + second.silent;
      part = p;
    } ≡
    joined count first second
joined_fleet first count second e =
    λ i.
    record {
      served = first.served + second.served;
      owed = first.owed + second.owed;
      silent = first.silent + second.silent;
      part = (e ∙ sym (joined_as_next count first.part second.part)) i;
    }

module _ (sums other : List ℕ) where
  pub apart_editions : (get_or sums 0 0 ≡ get_or other 0 0 → ⊥) → {r : ℕ} → r ≡ 3 → Crosses (join_told (sums_in sums) (sums_in other)) r sums sums
  unfolding join_told
  apart_editions ne {r} k = crosses_refuses _ r 3 sums k (pick_no _ _ (ne_eqb (get_or sums 0 0) (get_or other 0 0) ne))

  module _ (same : get_or sums 0 0 ≡ get_or other 0 0) where
    pub too_many : most_stations < get_or sums 1 0 + get_or other 1 0 → {r : ℕ} → r ≡ 22 →
        Crosses (join_told (sums_in sums) (sums_in other)) r sums sums
    unfolding join_told
    too_many h {r} k =
        crosses_refuses _ r 22 sums k (pick_yes _ _ (eq-eqb _ _ same) ∙ pick_no _ _ (lt-leb (get_or sums 1 0 + get_or other 1 0) most_stations h))

    module _ (few : get_or sums 1 0 + get_or other 1 0 ≤ most_stations) where
      pub joined_as : {f g : Fleet} → f ≡ totals_in sums → g ≡ totals_in other → {h : Fleet} → h ≡ joined (get_or sums 1 0) f g →
          {sums1 : List ℕ} →
          sums1 ≡ sums_cells (record { edition = get_or sums 0 0; count = get_or sums 1 0 + get_or other 1 0; fleet = h }) →
          Crosses (join_told (sums_in sums) (sums_in other)) 0 sums sums1
      unfolding join_told joined_sums
      joined_as e d k c =
          crosses_into (pick_yes _ _ (eq-eqb _ _ same) ∙ pick_yes _ _ (le-leb _ _ few))
          (c ∙
          ap (λ (x : Fleet). sums_cells (record { edition = get_or sums 0 0; count = get_or sums 1 0 + get_or other 1 0; fleet = x }))
          (k ∙ ap₂ (joined (get_or sums 1 0)) e d))

      pub may_join : SumsGiven sums → SumsGiven other → {f g : Fleet} → f ≡ totals_in sums → g ≡ totals_in other →
          JoinAsked f (get_or sums 1 0) g
      may_join a b {f} {g} e d =
          subst (λ (x : Fleet). JoinAsked x (get_or sums 1 0) g) (sym e)
          (subst (λ (y : Fleet). JoinAsked (totals_in sums) (get_or sums 1 0) y) (sym d)
          (let v = a.valid in
          let w = b.valid in
          record {
            served_most = omega (arith, v.served_most, v.owed_most, w.served_most, w.owed_most, few);
            owed_most = omega (arith, v.owed_most, w.owed_most, few);
            silent_most = omega (arith, v.silent_most, w.silent_most, few);
            number_most = omega (arith, number_low, v.few);
            first_served = le_trans v.part_served v.part_owed;
            first_owed = v.part_owed;
            second_served = le_trans w.part_served w.part_owed;
            second_owed = w.part_owed;
          }))
        where
          -- a station's number, or 64
          number_low : get_or other 5 0 ≤ most_stations
          number_low = go (tested (eqb (get_or other 7 0) 0))
            where
              weaken : get_or other 5 0 < get_or other 1 0 → get_or other 1 0 ≤ most_stations → get_or other 5 0 ≤ most_stations
              weaken x y = omega arith

              small : get_or other 5 0 ≡ no_station → get_or other 5 0 ≤ most_stations
              small x = omega arith

              go : Tested (eqb (get_or other 7 0) 0) → get_or other 5 0 ≤ most_stations
              go (holds t) = small (placed_none (get_or other 1 0) (get_or other 5 0) (get_or other 7 0) b.valid.placed t)
              go (fails t) = weaken (placed_low (get_or other 1 0) (get_or other 5 0) (get_or other 7 0) b.valid.placed t) b.valid.few

-- what is told
module _ (sums : List ℕ) where
  pub none_told : get_or sums 7 0 ≡ 0 → {room : List ℕ} →
      room ≡ get_or sums 2 0 ∷ get_or sums 3 0 ∷ get_or sums 4 0 ∷ no_station ∷ 0 ∷ [] → Shows (told_numbers (sums_in sums)) 0 room
  none_told e c =
      record {
        status = refl;
        room =
            c ∙
            (λ i.
            get_or sums 2 0 ∷ get_or sums 3 0 ∷ get_or sums 4 0 ∷ sym (pick_yes no_station (get_or sums 5 0) (eq-eqb _ _ e)) i ∷
            sym (pick_yes 0 1 (eq-eqb _ _ e)) i ∷ []);
      }

  pub named_told : (get_or sums 7 0 ≡ 0 → ⊥) → {room : List ℕ} →
      room ≡ get_or sums 2 0 ∷ get_or sums 3 0 ∷ get_or sums 4 0 ∷ get_or sums 5 0 ∷ 1 ∷ [] → Shows (told_numbers (sums_in sums)) 0 room
  named_told ne c =
      record {
        status = refl;
        room =
            c ∙
            (λ i.
            get_or sums 2 0 ∷ get_or sums 3 0 ∷ get_or sums 4 0 ∷ sym (pick_no no_station (get_or sums 5 0) (ne_eqb _ _ ne)) i ∷
            sym (pick_no 0 1 (ne_eqb _ _ ne)) i ∷ []);
      }
