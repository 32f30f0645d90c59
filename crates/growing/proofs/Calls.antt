-- A report that grows from call to call is the report of all stations that were added, and may be handed in again. Assumes nothing.
use mathlib.Core.Path.{◌≡◌, refl, sym, ap, ap₂, ◌∙◌, subst}
use mathlib.Core.Bool.{Bool, true, false}
use mathlib.Core.List.{List, [], ◌∷◌}
use Prim.Native.Nat.{ℕ, suc, ◌+◌, ◌<◌, ◌≤◌}
use native.Mathlib.Omega.{arith}
use lib.Dec.{eqb, leb, ltb}
use lib.ListN.{get_or}
use borrow.Author.Tests.{eq-eqb, eqb-true, eqb-false, lt-ltb, ltb-true, ltb-false, leb-true, le-leb}
use Rattle.laws.specs.Choice.{pick}
use Rattle.laws.proofs.Choice.{Tested, holds, fails, tested, pick_yes, pick_no}
use Rattle.refusal.specs.Told.{Told, gives, refuses}
use Rattle.refusal.specs.Crossing.{Crosses, status_of}
use Rattle.refusal.proofs.Crossings.{crosses_same}
use Rattle.state.specs.Start.{is_edition}
use Rattle.replay.specs.State.{Replay}
use Rattle.replay.specs.Cells.{replay_in}
use Rattle.score.specs.Lease.{Lease}
use Rattle.score.specs.Score.{Score, scored, refused, score_of}
use Rattle.fleet.specs.Fleet.{Station, refusal_in, is_refused, served_in, owed_in, silent_days, fleet_told}
use Rattle.fleet.specs.Join.{behind}
use Rattle.fleet.proofs.Join.{split, told_refused}
use Rattle.fleet.proofs.Months.{zero_fine, refused_is}
use Rattle.growing.specs.Sums.{Sums, no_sums, with_month, with_station, joined_sums, most_stations, is_month, SumsValid}
use Rattle.growing.specs.Cells.{
  sums_in,
  sums_cells,
  SumsGiven,
  begun_told,
  station_of,
  edition_in,
  add_told,
  AddCrosses,
  add_month_told,
  join_told,
}
use Rattle.growing.specs.Calls.{Grown, begun, more, month, joined, same, IsReport}
use Rattle.growing.proofs.Growing.{sums_at, none_added, one_added, put_behind, none_valid, month_valid, joined_valid}
use Rattle.growing.proofs.Adding.{score_month}

zero_not : {r n : ℕ} → r ≡ 0 → 0 < n → r ≡ n → ⊥
zero_not z h e = omega arith

-- a question that comes before status 0 was answered yes
module _ {r : ℕ} (z : r ≡ 0) {room room' : List ℕ} where
  held : (t : Bool) (a : Told) (n : ℕ) → 0 < n → Crosses (pick t a (refuses n)) r room room' → (t ≡ true) × Crosses a r room room'
  held t a n h c = go (tested t)
    where
      go : Tested t → (t ≡ true) × Crosses a r room room'
      go (holds e) = (e, crosses_same (pick_yes a (refuses n) e) c)
      go (fails e) = absurd (zero_not z h (c.status ∙ ap status_of (pick_no a (refuses n) e)))

  -- and one that refuses where it holds, no
  passed : (t : Bool) (n : ℕ) (a : Told) → (t ≡ true → 0 < n) → Crosses (pick t (refuses n) a) r room room' →
      (t ≡ false) × Crosses a r room room'
  passed t n a h c = go (tested t)
    where
      go : Tested t → (t ≡ false) × Crosses a r room room'
      go (holds e) = absurd (zero_not z (h e) (c.status ∙ ap status_of (pick_yes (refuses n) a e)))
      go (fails e) = (e, crosses_same (pick_no (refuses n) a e) c)

-- "A refusal .. no other result"
pub stays : (t : Told) {r : ℕ} {room room' : List ℕ} → Crosses t r room room' → 0 < r → room' ≡ room
stays (gives v) c h = absurd (none c.status h)
  where
    none : {r : ℕ} → r ≡ 0 → 0 < r → ⊥
    none e k = omega arith
stays (refuses n) c h = c.room

-- a refused score's number isn't 0
pub some_number : (l : Lease) (q : Replay) → is_refused (score_of l q) ≡ true → 0 < refusal_in (score_of l q)
some_number l q e = go (tested (ltb 0 (refusal_in (score_of l q))))
  where
    go : Tested (ltb 0 (refusal_in (score_of l q))) → 0 < refusal_in (score_of l q)
    go (holds t) = ltb-true _ _ t
    go (fails t) =
        let zero : refusal_in (score_of l q) ≡ 0 = omega (arith, ltb-false 0 (refusal_in (score_of l q)) t) in
        let bad : true ≡ false = sym e ∙ zero_fine l q zero in
        absurd (let x : ◌≡◌ {A = ℕ} 0 1 = cc in omega arith)

-- what calls that returned 0 have done
record Added (a : Sums) (edition : ℕ) (s : Station) (sums' : List ℕ) : Type 0 where
  edition_same : a.edition ≡ edition
  less : a.count < most_stations
  fine : is_refused s.score ≡ false
  cells : sums' ≡ sums_cells (with_station a s)

added_zero : (a : Sums) (edition : ℕ) (l : Lease) (q : Replay) {r : ℕ} {sums sums' : List ℕ} →
    Crosses (add_told a edition (station_of l q)) r sums sums' → r ≡ 0 → Added a edition (station_of l q) sums'
unfolding add_told
added_zero a edition l q c z =
    let x = held z _ _ 3 (omega arith) c in
    let y = held z _ _ 22 (omega arith) x.1 in
    let w = passed z _ _ _ (some_number l q) y.1 in
    record {
      edition_same = eqb-true _ _ x.0;
      less = ltb-true _ _ y.0;
      fine = w.0;
      cells = w.1.room;
    }

record Put (a : Sums) (served owed silent : ℕ) (sums' : List ℕ) : Type 0 where
  less : a.count < most_stations
  month_is : is_month served owed silent ≡ true
  cells : sums' ≡ sums_cells (with_month a served owed silent)

put_zero : (a : Sums) (served owed silent : ℕ) {r : ℕ} {sums sums' : List ℕ} →
    Crosses (add_month_told a served owed silent) r sums sums' → r ≡ 0 → Put a served owed silent sums'
unfolding add_month_told
put_zero a served owed silent c z =
    let x = held z _ _ 22 (omega arith) c in
    let y = held z _ _ 21 (omega arith) x.1 in
    record { less = ltb-true _ _ x.0; month_is = y.0; cells = y.1.room }

record Joined (a b : Sums) (sums' : List ℕ) : Type 0 where
  few : a.count + b.count ≤ most_stations
  cells : sums' ≡ sums_cells (joined_sums a b)

joined_zero : (a b : Sums) {r : ℕ} {sums sums' : List ℕ} → Crosses (join_told a b) r sums sums' → r ≡ 0 → Joined a b sums'
unfolding join_told
joined_zero a b c z =
    let x = held z _ _ 3 (omega arith) c in
    let y = held z _ _ 22 (omega arith) x.1 in
    record { few = leb-true _ _ y.0; cells = y.1.room }

record Begun (edition : ℕ) (sums' : List ℕ) : Type 0 where
  known : is_edition edition ≡ true
  cells : sums' ≡ sums_cells (no_sums edition)

begun_zero : (edition : ℕ) {r : ℕ} {sums sums' : List ℕ} → Crosses (begun_told edition) r sums sums' → r ≡ 0 → Begun edition sums'
unfolding begun_told
begun_zero edition c z = let x = held z _ _ 3 (omega arith) c in record { known = x.0; cells = x.1.room }

-- what a call leaves may be handed in again
cells_given : (a : Sums) → SumsValid a → (sums : List ℕ) → sums ≡ sums_cells a → SumsGiven sums
cells_given a v sums e = subst SumsGiven (sym e) (record { sums_length = refl; valid = v })

pub begun_given : (edition r : ℕ) (sums sums' : List ℕ) → Crosses (begun_told edition) r sums sums' → r ≡ 0 → SumsGiven sums'
begun_given edition r sums sums' c z =
    let b = begun_zero edition c z in cells_given (no_sums edition) (none_valid edition b.known) sums' b.cells

-- refused or not
after : (t : Told) {r : ℕ} {sums sums' : List ℕ} → Crosses t r sums sums' → SumsGiven sums → (r ≡ 0 → SumsGiven sums') → SumsGiven sums'
after t {r} {sums} {sums'} c g h = go (tested (eqb r 0))
  where
    some : (r ≡ 0 → ⊥) → 0 < r
    some ne = omega arith

    go : Tested (eqb r 0) → SumsGiven sums'
    go (holds e) = h (eqb-true r 0 e)
    go (fails e) = subst SumsGiven (sym (stays t c (some (eqb-false r 0 e)))) g

module _ {sums : List ℕ} (g : SumsGiven sums) where
  pub added_given : (l : Lease) (log marks own tallies : List ℕ) (r : ℕ) (sums' : List ℕ) →
      AddCrosses l log marks own tallies r sums sums' → SumsGiven sums'
  added_given l log marks own tallies r sums' c =
      after (add_told (sums_in sums) (edition_in q) (station_of l q)) (c.told []) g (λ z. go (added_zero (sums_in sums) (edition_in q) l q (c.told []) z))
    where
      q : Replay
      q = replay_in log marks own tallies []

      go : Added (sums_in sums) (edition_in q) (station_of l q) sums' → SumsGiven sums'
      go w =
          cells_given _ (month_valid (sums_in sums) g.valid w.less _ _ _ (score_month l q)) sums' w.cells

  pub month_given : (served owed silent r : ℕ) (sums' : List ℕ) → Crosses (add_month_told (sums_in sums) served owed silent) r sums sums' →
      SumsGiven sums'
  month_given served owed silent r sums' c =
      after (add_month_told (sums_in sums) served owed silent) c g (λ z. go (put_zero (sums_in sums) served owed silent c z))
    where
      go : Put (sums_in sums) served owed silent sums' → SumsGiven sums'
      go w = cells_given _ (month_valid (sums_in sums) g.valid w.less served owed silent w.month_is) sums' w.cells

  pub joined_given : (other : List ℕ) → SumsGiven other → (r : ℕ) (sums' : List ℕ) →
      Crosses (join_told (sums_in sums) (sums_in other)) r sums sums' → SumsGiven sums'
  joined_given other k r sums' c =
      after (join_told (sums_in sums) (sums_in other)) c g (λ z. go (joined_zero (sums_in sums) (sums_in other) c z))
    where
      go : Joined (sums_in sums) (sums_in other) sums' → SumsGiven sums'
      go w = cells_given _ (joined_valid (sums_in sums) (sums_in other) g.valid k.valid w.few) sums' w.cells

module _ (edition : ℕ) where
  -- one station more
  with_one : (f : ℕ → Station) (k : ℕ) (x : List ℕ) → IsReport edition f k x → (s : Station) → f k ≡ s → is_refused s.score ≡ false →
      (y : List ℕ) → y ≡ sums_cells (with_station (sums_in x) s) → IsReport edition f (suc k) y
  with_one f k x u s is e y c =
      record {
        cells =
            c ∙ ap (λ (z : List ℕ). sums_cells (with_station (sums_in z) s)) u.cells ∙
            ap (λ (t : Station). sums_cells (with_station (sums_at edition f k) t)) (sym is) ∙ ap sums_cells (one_added edition f k);
        all_scored_lem = λ j h. go j h (tested (ltb j k));
      }
    where
      go : (j : ℕ) → j < suc k → Tested (ltb j k) → is_refused (f j).score ≡ false
      go j h (holds t) = u.all_scored_lem j (ltb-true j k t)
      go j h (fails t) =
          subst (λ (i : ℕ). is_refused (f i).score ≡ false) (let z : k ≡ j = omega (arith, ltb-false j k t) in z)
          (ap (λ (t : Station). is_refused t.score) is ∙ e)

  put_together : (f : ℕ → Station) (n m : ℕ) (x y : List ℕ) → IsReport edition f n x → IsReport edition (behind n f) m y →
      (sums' : List ℕ) → sums' ≡ sums_cells (joined_sums (sums_in x) (sums_in y)) → IsReport edition f (n + m) sums'
  put_together f n m x y u w sums' c =
      record {
        cells =
            c ∙ ap₂ (λ (a b : List ℕ). sums_cells (joined_sums (sums_in a) (sums_in b))) u.cells w.cells ∙
            ap sums_cells (put_behind edition f n m);
        all_scored_lem = split n m (λ j. is_refused (f j).score ≡ false) u.all_scored_lem w.all_scored_lem;
      }

  -- "adding the stations one by one", or in groups joined in order, gives the report of them all, call by call
  pub is_report : (f : ℕ → Station) (n : ℕ) (sums : List ℕ) → Grown edition f n sums → IsReport edition f n sums
  is_report f n sums (begun g r x y c z) =
      record {
        cells = (begun_zero edition c z).cells ∙ ap sums_cells (none_added edition f);
        all_scored_lem = λ j h. absurd (let w : ⊥ = omega arith in w);
      }
  is_report f n sums (more g k x h l log marks own tallies shared is r y c z) =
      let q = replay_in log marks own tallies shared in
      let w = added_zero (sums_in x) (edition_in q) l q (c.told shared) z in
      with_one f k x (is_report f k x h) (station_of l q) is w.fine y w.cells
  is_report f n sums (month g k x h l q is fine r y c z) =
      with_one f k x (is_report f k x h) (station_of l q) is fine y (put_zero (sums_in x) _ _ _ c z).cells
  is_report f n sums (joined g i m x other h h' r y c z) =
      put_together f i m x other (is_report f i x h) (is_report (behind i f) m other h') y (joined_zero (sums_in x) (sums_in other) c z).cells
  is_report f n sums (same g k x h t r y c some) = subst (IsReport edition f k) (sym (stays t c some)) (is_report f k x h)

  -- the numbers may be handed in at each of these calls
  pub grown_given : (f : ℕ → Station) (n : ℕ) (sums : List ℕ) → Grown edition f n sums → SumsGiven sums
  grown_given f n sums (begun g r x y c z) = begun_given edition r x y c z
  grown_given f n sums (more g k x h l log marks own tallies shared is r y c z) =
      added_given (grown_given f k x h) l log marks own tallies r y c
  grown_given f n sums (month g k x h l q is fine r y c z) = month_given (grown_given f k x h) _ _ _ r y c
  grown_given f n sums (joined g i m x other h h' r y c z) =
      joined_given (grown_given f i x h) other (grown_given (behind i f) m other h') r y c
  grown_given f n sums (same g k x h t r y c some) = subst SumsGiven (sym (stays t c some)) (grown_given f k x h)

  -- the next station is answered with its own refusal, 0 where it has none
  module _ (f : ℕ → Station) (k : ℕ) (sums : List ℕ) (h : Grown edition f k sums) (less : k < most_stations)
      (l : Lease) (log marks own tallies shared : List ℕ) (is : f k ≡ station_of l (replay_in log marks own tallies shared))
      (born : edition_in (replay_in log marks own tallies shared) ≡ edition) (r : ℕ) (sums' : List ℕ)
      (c : AddCrosses l log marks own tallies r sums sums')
    where
      abbrev q : Replay
      q = replay_in log marks own tallies shared

      its_number : (s : Score) (v : List ℕ) → status_of (pick (is_refused s) (refuses (refusal_in s)) (gives v)) ≡ refusal_in s
      unfolding is_refused refusal_in pick
      its_number (scored m) v = refl
      its_number (refused n) v = refl

      pub add_answers : r ≡ refusal_in (f k).score
      unfolding add_told
      add_answers =
          let cells = (is_report f k sums h).cells in
          let edition_is : get_or sums 0 0 ≡ edition_in q = ap (λ (x : List ℕ). get_or x 0 0) cells ∙ sym born in
          let count_is : get_or sums 1 0 ≡ k = ap (λ (x : List ℕ). get_or x 1 0) cells in
          (c.told shared).status ∙
          ap status_of (pick_yes _ _ (eq-eqb _ _ edition_is) ∙ pick_yes _ _ (ap (λ (x : ℕ). ltb x most_stations) count_is ∙ lt-ltb k most_stations less)) ∙
          its_number (score_of l q) _ ∙ ap (λ (t : Station). refusal_in t.score) (sym is)

      -- a station that isn't taken is refused by the report
      next_refused : 0 < r → is_refused (f k).score ≡ true
      next_refused some = refused_is (f k).score (λ z. none (add_answers ∙ z) some)
        where
          none : r ≡ 0 → 0 < r → ⊥
          none e x = omega arith

      -- so it is the one that the report of them all is refused for
      pub first_refusal : (n : ℕ) → k < n → 0 < r → fleet_told n f ≡ refuses r
      first_refusal n low some =
          told_refused n f k low (next_refused some) (is_report f k sums h).all_scored_lem ∙ ap refuses (sym add_answers)

  -- the same where it stands in a group behind others
  pub group_refusal : (f : ℕ → Station) (n : ℕ) (before : List ℕ) → Grown edition f n before →
      (k : ℕ) (sums : List ℕ) → Grown edition (behind n f) k sums → k < most_stations →
      (l : Lease) (log marks own tallies shared : List ℕ) → f (n + k) ≡ station_of l (replay_in log marks own tallies shared) →
      edition_in (replay_in log marks own tallies shared) ≡ edition → (r : ℕ) (sums' : List ℕ) →
      AddCrosses l log marks own tallies r sums sums' → (m : ℕ) → k < m → 0 < r → fleet_told (n + m) f ≡ refuses r
  group_refusal f n before g k sums h less l log marks own tallies shared is born r sums' c m low some =
      told_refused (n + m) f (n + k) (let z : n + k < n + m = omega arith in z)
      (next_refused (behind n f) k sums h less l log marks own tallies shared is born r sums' c some)
      (split n k (λ j. is_refused (f j).score ≡ false) (is_report f n before g).all_scored_lem (is_report (behind n f) k sums h).all_scored_lem) ∙
      ap refuses (sym (add_answers (behind n f) k sums h less l log marks own tallies shared is born r sums' c))

-- reports of one edition that have room for both are joined
pub join_answers : (edition : ℕ) (f g : ℕ → Station) (n m : ℕ) (sums other : List ℕ) → Grown edition f n sums → Grown edition g m other →
    n + m ≤ most_stations → (r : ℕ) (sums' : List ℕ) → Crosses (join_told (sums_in sums) (sums_in other)) r sums sums' → r ≡ 0
unfolding join_told
join_answers edition f g n m sums other u w few r sums' c =
    let a = (is_report edition f n sums u).cells in
    let b = (is_report edition g m other w).cells in
    let editions : get_or sums 0 0 ≡ get_or other 0 0 = ap (λ (x : List ℕ). get_or x 0 0) a ∙ sym (ap (λ (x : List ℕ). get_or x 0 0) b) in
    let counts : leb (get_or sums 1 0 + get_or other 1 0) most_stations ≡ true =
    ap₂ (λ (x y : List ℕ). leb (get_or x 1 0 + get_or y 1 0) most_stations) a b ∙ le-leb _ _ few
    in
    c.status ∙ ap status_of (pick_yes _ _ (eq-eqb _ _ editions) ∙ pick_yes _ _ counts)

-- a month's own numbers do what its replay does
pub month_as_replay : (a : Sums) (l : Lease) (q : Replay) → a.edition ≡ edition_in q → is_refused (score_of l q) ≡ false →
    add_month_told a (served_in (score_of l q)) (owed_in (score_of l q)) (silent_days l (score_of l q)) ≡ add_told a (edition_in q) (station_of l q)
unfolding add_month_told add_told
month_as_replay a l q e fine =
    ap (λ (t : Told). pick (ltb a.count most_stations) t (refuses 22))
    (pick_yes _ (refuses 21) (score_month l q) ∙ sym (pick_no (refuses (refusal_in (score_of l q))) _ fine)) ∙
    sym (pick_yes _ (refuses 3) (eq-eqb _ _ e))
