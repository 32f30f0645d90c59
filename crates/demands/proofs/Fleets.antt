-- Request 14, the fleet report, over its calls: the order of the refusals, the four numbers, the station named. Assumes nothing.
use mathlib.Core.Path.{◌≡◌, refl, sym, ap, ◌∙◌, subst}
use mathlib.Core.Bool.{Bool, true, false}
use mathlib.Core.List.{List, [], ◌∷◌}
use Prim.Native.Nat.{ℕ, ◌<◌, ◌≤◌}
use native.Mathlib.Omega.{arith}
use lib.Dec.{ltb}
use lib.ListN.{length, get_or}
use borrow.Author.Tests.{ltb-true}
use Rattle.laws.specs.Choice.{pick}
use Rattle.laws.specs.Below.{sum, least}
use Rattle.laws.proofs.Below.{least_at}
use Rattle.laws.proofs.Choice.{Tested, tested, holds, fails, pick_yes, pick_no}
use Rattle.refusal.specs.Told.{Told, gives, refuses, then_told}
use Rattle.refusal.specs.Crossing.{Crosses, status_of, room_of}
use Rattle.refusal.proofs.Crossings.{crosses_same}
use Rattle.state.specs.Start.{is_edition, edition_told}
use Rattle.score.specs.Score.{Score, scored, refused}
use Rattle.fleet.specs.Fleet.{
  Station,
  refusal_in,
  is_refused,
  served_by,
  owed_by,
  first_refused,
  fleet_told,
  stations_in,
  station_at,
  fleet_in,
  counted_told,
  judged_told,
  report_told,
}
use Rattle.fleet.specs.Join.{part_of, silent_by, sums_of}
use Rattle.fleet.specs.declared.parts.Part.{Part}
use Rattle.fleet.proofs.Least.{yes_no}
use Rattle.fleet.proofs.Months.{zero_fine}
use Rattle.fleet.proofs.Smallest.{Best, none, best, named_is}
use Rattle.fleet.proofs.Join.{Judged, refused_at, all_scored, judged, told_refused, told_scored, best_part}
use Rattle.demands.specs.Surveys.{in_turn}
use Rattle.demands.specs.Fleets.{fleet_asks, Named, smallest, none_owes, FleetSummed, FleetRefused, at_station}

-- the definition asks in this order
report_in_turn :
    (edition : ℕ) (logs numbers : List ℕ) (room : ℕ) →
    report_told edition logs numbers room ≡ in_turn (fleet_asks edition logs numbers room) (fleet_in edition logs numbers)
unfolding report_told edition_told then_told judged_told counted_told in_turn
report_in_turn edition logs numbers room = go (tested (is_edition edition))
  where
    go : Tested (is_edition edition) →
        then_told (pick (is_edition edition) (gives []) (refuses 3)) (judged_told edition logs numbers room) ≡
        pick (is_edition edition) (judged_told edition logs numbers room) (refuses 3)
    go (holds e) =
        ap (λ (t : Told). then_told t (judged_told edition logs numbers room)) (pick_yes (gives []) (refuses 3) e) ∙ sym (pick_yes _ _ e)
    go (fails e) =
        ap (λ (t : Told). then_told t (judged_told edition logs numbers room)) (pick_no (gives []) (refuses 3) e) ∙ sym (pick_no _ _ e)

-- and so do calls
pub report_called :
    (edition : ℕ) (logs numbers : List ℕ) (r : ℕ) (room room' : List ℕ) →
    Crosses (report_told edition logs numbers (length room)) r room room' →
    Crosses (in_turn (fleet_asks edition logs numbers (length room)) (fleet_in edition logs numbers)) r room room'
report_called edition logs numbers r room room' = crosses_same (report_in_turn edition logs numbers (length room))

-- a question that comes before status 0 was answered yes
yes_then : (t : Bool) (a : Told) (n : ℕ) {r : ℕ} {room room' : List ℕ} → 1 ≤ n → r ≡ 0 → Crosses (pick t a (refuses n)) r room room' →
    Crosses a r room room'
yes_then t a n {r} {room} {room'} h z c = go (tested t)
  where
    zero_not : 0 ≡ n → ⊥
    zero_not e = omega arith

    go : Tested t → Crosses a r room room'
    go (holds e) = crosses_same (pick_yes a (refuses n) e) c
    go (fails e) = absurd (zero_not (sym z ∙ c.status ∙ ap status_of (pick_no a (refuses n) e)))

-- a refused score by its number, which isn't 0
score_refused : (s : Score) → is_refused s ≡ true → s ≡ refused (refusal_in s)
unfolding is_refused refusal_in
score_refused (scored m) e = cc
score_refused (refused n) e = refl

module _ (edition : ℕ) (logs numbers : List ℕ) where
  abbrev n : ℕ
  n = stations_in numbers

  abbrev f : ℕ → Station
  f = station_at edition logs numbers

  pub station_number : (k : ℕ) → is_refused (f k).score ≡ true → 1 ≤ refusal_in (f k).score
  station_number k e =
      let some : refusal_in (f k).score ≡ 0 → ⊥ = λ z. yes_no e (zero_fine (f k).lease _ z) in omega arith

  pub first_number : ltb (first_refused n f) n ≡ true → 1 ≤ refusal_in (f (first_refused n f)).score
  unfolding first_refused
  first_number e =
      let bad : ℕ → Bool = λ k. is_refused (f k).score in
      station_number (least n bad) (least_at n bad (ltb-true (least n bad) n e))

  named_by : (p : Part) → Best (served_by n f) (owed_by n f) n p → Named n f p.station
  named_by p (none h) = none_owes h
  named_by p (best b l pos all low) = smallest b (record { listed = l; owes = pos; none_smaller = all; lowest = low })

  summed : ((k : ℕ) → k < n → is_refused (f k).score ≡ false) → {room room' : List ℕ} {r : ℕ} →
      Crosses (fleet_told n f) r room room' → FleetSummed n f room'
  summed fine {room} {room'} c =
      record {
        all_scored_lem = fine;
        numbers =
            c.room ∙ ap (λ (t : Told). room_of t room) (told_scored n f fine) ∙ ap (λ (k : ℕ). shown k) (named_is n f);
        named = subst (Named n f) (named_is n f) (named_by (part_of n f) (best_part n f));
      }
    where
      shown : ℕ → List ℕ
      shown k = (sums_of n f).served ∷ (sums_of n f).owed ∷ (sums_of n f).silent ∷ k ∷ []

  zero_not : {x : ℕ} → 0 ≡ x → 1 ≤ x → ⊥
  zero_not e h = omega arith

  pub report_summed : (r : ℕ) (room room' : List ℕ) → Crosses (report_told edition logs numbers (length room)) r room room' → r ≡ 0 →
      FleetSummed n f room'
  unfolding in_turn
  report_summed r room room' c z = go (judged n f)
    where
      stations_told : Crosses (fleet_told n f) r room room'
      stations_told =
          yes_then _ _ 22 (omega arith) z
          (yes_then _ _ 11 (omega arith) z (yes_then _ _ 3 (omega arith) z (report_called edition logs numbers r room room' c)))

      go : Judged n f → FleetSummed n f room'
      go (refused_at k h e below) =
          absurd
          (zero_not (sym z ∙ stations_told.status ∙ ap status_of (told_refused n f k h e below)) (station_number k e))
      go (all_scored fine) = summed fine stations_told

  pub report_first : (r : ℕ) → fleet_in edition logs numbers ≡ refuses r → FleetRefused n f r
  report_first r told = go (judged n f)
    where
      same_number : {a b : ℕ} → refuses a ≡ refuses b → a ≡ b
      same_number e = cc

      given_not : {v : List ℕ} → gives v ≡ refuses r → ⊥
      given_not e = let z : ◌≡◌ {A = ℕ} 0 1 = cc in omega arith

      go : Judged n f → FleetRefused n f r
      go (refused_at k h e below) =
          let is : refusal_in (f k).score ≡ r = same_number (sym (told_refused n f k h e below) ∙ told) in
          at_station k r h (score_refused (f k).score e ∙ ap refused is) below
      go (all_scored fine) = absurd (given_not (sym (told_scored n f fine) ∙ told))

pub report_left :
    (edition : ℕ) (logs numbers : List ℕ) (r : ℕ) (room room' : List ℕ) →
    Crosses (report_told edition logs numbers (length room)) r room room' → 1 ≤ r → room' ≡ room
report_left edition logs numbers r room room' c h = go (report_told edition logs numbers (length room)) c.status c.room
  where
    go : (t : Told) → r ≡ status_of t → room' ≡ room_of t room → room' ≡ room
    go (gives v) s e = absurd (let z : ⊥ = omega arith in z)
    go (refuses m) s e = e
