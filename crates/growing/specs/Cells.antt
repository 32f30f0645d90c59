-- The sums in eight numbers that a caller lends, and what the calls on them tell. Assumes nothing.
use Rattle.std.specs.Prelude.{◌≡◌, true, List, [], ◌∷◌, ℕ, ◌+◌, ◌*◌, ◌<◌, ◌≤◌, eqb, leb, ltb, length, get_or, Result, Ok, Err}
use Rattle.laws.specs.Choice.{pick}
use Rattle.refusal.specs.Told.{Told, gives, refuses}
use Rattle.refusal.specs.Crossing.{Crosses}
use Rattle.state.specs.Start.{is_edition}
use Rattle.replay.specs.State.{Replay}
use Rattle.replay.specs.Cells.{replay_in}
use Rattle.score.specs.Lease.{Lease}
use Rattle.score.specs.Score.{score_of}
use Rattle.fleet.specs.Fleet.{Station, refusal_in, is_refused, most_month, no_station}
use Rattle.fleet.specs.declared.parts.Fleet.{Fleet}
use Rattle.growing.specs.Sums.{Sums, no_sums, with_month, with_station, joined_sums, most_stations, is_month, SumsValid}

abbrev pub totals_in : List ℕ → Fleet
totals_in l =
    record {
      served = get_or l 2 0;
      owed = get_or l 3 0;
      silent = get_or l 4 0;
      part = record { station = get_or l 5 0; served = get_or l 6 0; owed = get_or l 7 0 };
    }

abbrev pub sums_in : List ℕ → Sums
sums_in l = record { edition = get_or l 0 0; count = get_or l 1 0; fleet = totals_in l }

abbrev pub sums_cells : Sums → List ℕ
sums_cells a =
    a.edition ∷ a.count ∷ a.fleet.served ∷ a.fleet.owed ∷ a.fleet.silent ∷ a.fleet.part.station ∷
    a.fleet.part.served ∷ a.fleet.part.owed ∷ []

-- an answer whose refusal is a number already as the status that it is handed out as: 0, or that number
abbrev pub number_in : Result (Unit {0}) ℕ → ℕ
number_in (Ok _) = 0
number_in (Err number) = number

-- eight numbers that hold valid sums
pub record SumsGiven (l : List ℕ) : Type 0 where
  pub sums_length : length l ≡ 8
  pub valid : SumsValid (sums_in l)

-- 3 for an edition that isn't one of the two, else no station yet
unfoldable pub begun_told : ℕ → Told
begun_told edition = pick (is_edition edition) (gives (sums_cells (no_sums edition))) (refuses 3)

abbrev pub station_of : Lease → Replay → Station
station_of l r = record { lease = l; score = score_of l r }

-- "A session's edition .. is fixed at its birth"
abbrev pub edition_in : Replay → ℕ
edition_in r = r.session.party.birth.edition

-- 3 where the replay is of another edition, 22 where there is room for no more, then the station's 21, 18 or 19; else the sums with it
unfoldable pub add_told : Sums → ℕ → Station → Told
add_told a edition s =
    pick (eqb a.edition edition)
    (pick (ltb a.count most_stations)
    (pick (is_refused s.score) (refuses (refusal_in s.score)) (gives (sums_cells (with_station a s))))
    (refuses 22))
    (refuses 3)

-- the station of a replay is added, whatever its session's settings are; a refusal touches nothing
pub record AddCrosses (lease : Lease) (log marks own tallies : List ℕ) (r : ℕ) (sums sums' : List ℕ) : Type 0 where
  pub told :
      (shared : List ℕ) →
      Crosses
      (add_told (sums_in sums) (edition_in (replay_in log marks own tallies shared)) (station_of lease (replay_in log marks own tallies shared)))
      r sums sums'

-- 22 where there is room for no more, 21 where no month has such numbers; else the sums with it
unfoldable pub add_month_told : Sums → ℕ → ℕ → ℕ → Told
add_month_told a served owed silent =
    pick (ltb a.count most_stations)
    (pick (is_month served owed silent) (gives (sums_cells (with_month a served owed silent))) (refuses 21))
    (refuses 22)

-- 3 where the two are of different editions, 22 where they have too many stations; else the one behind the other
unfoldable pub join_told : Sums → Sums → Told
join_told a b =
    pick (eqb a.edition b.edition)
    (pick (leb (a.count + b.count) most_stations) (gives (sums_cells (joined_sums a b))) (refuses 22))
    (refuses 3)

-- a fleet report's four numbers, and 1 where a station is named; 64 and 0 where none owes anything, so that none is never station 64
abbrev pub told_numbers : Sums → List ℕ
told_numbers a =
    let none = eqb a.fleet.part.owed 0 in
    a.fleet.served ∷ a.fleet.owed ∷ a.fleet.silent ∷ pick none no_station a.fleet.part.station ∷ pick none 0 1 ∷ []

-- a month that there is room for
pub record PutAsked (sums : List ℕ) (served owed silent : ℕ) : Type 0 where
  pub given : SumsGiven sums
  pub room : get_or sums 1 0 < most_stations
  pub month : is_month served owed silent ≡ true

-- two fleets that 64 bits have room for together
pub record JoinAsked (first : Fleet) (count : ℕ) (second : Fleet) : Type 0 where
  pub served_most : first.served + second.served ≤ most_stations * most_month
  pub owed_most : first.owed + second.owed ≤ most_stations * most_month
  pub silent_most : first.silent + second.silent ≤ most_stations * 31
  pub number_most : count + second.part.station ≤ 2 * most_stations
  pub first_served : first.part.served ≤ most_month
  pub first_owed : first.part.owed ≤ most_month
  pub second_served : second.part.served ≤ most_month
  pub second_owed : second.part.owed ≤ most_month
