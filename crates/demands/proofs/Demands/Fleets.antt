-- Fleets: the report (request 14) and the report that grows.
-- A page behind Demands.antt, made as that one is: each statement under its sentence, each proof a citation. Assumes nothing.
use mathlib.Core.Path.{◌≡◌}
use mathlib.Core.Bool.{Bool, true}
use mathlib.Core.List.{List, [], ◌∷◌, ◌++◌}
use Prim.Native.Nat.{ℕ, ◌+◌, ◌%◌, ◌<◌, ◌≤◌}
use lib.ListN.{length, get_or}
use Rattle.refusal.specs.Told.{gives, refuses, then_told}
use Rattle.refusal.specs.Crossing.{Crosses, Shows}
use Rattle.state.specs.Start.{is_edition}
use Rattle.session.specs.Feed.{uncut}
use Rattle.replay.specs.State.{Replay}
use Rattle.score.specs.Lease.{Lease}
use Rattle.score.specs.Score.{score_of}
use Rattle.log_rooms.specs.Pieces.{Arrays, replay_at, BeginsAt, Pieces}
use Rattle.score_rooms.specs.Rooms.{MonthCrosses}
use Rattle.judges.specs.Judged.{Judges}
use Rattle.fleet.specs.Fleet.{Station, silent_in, refusal_in, stations_in, station_at, add_up, fleet_told, fleet_in, report_told}
use Rattle.fleet.specs.Answers.{fleet_numbers}
use Rattle.fleet.specs.Join.{sums_of, fleet_sums, behind, joined as joined_fleet}
use Rattle.fleet.proofs.Join.{told_joined, sums_joined}
use Rattle.replay.specs.Cells.{replay_in}
use Rattle.growing.specs.Sums.{Sums, most_stations}
use Rattle.growing.specs.Cells.{SumsGiven, sums_in, station_of, edition_in, add_told, AddCrosses, add_month_told, join_told, told_numbers}
use Rattle.growing.specs.Calls.{Grown}
use Rattle.growing.proofs.Calls.{add_answers, first_refusal as next_refusal, group_refusal, join_answers, grown_given}
use Rattle.fleet.proofs.Behind.{behind_told}
use Rattle.demands.specs.Fleets.{FleetSummed, FleetRefused, OfLog}
use Rattle.demands.proofs.Fleets.{report_left, report_first, report_summed}
use Rattle.demands.proofs.Growing.{from_log, tell_report, month_rooms, fleet_taken}
use Rattle.demands.specs.States as states

-- REQUEST 14, "Fleet report, and a table for byte cameras"

-- Where stations refuse, it is the first whose score is refused, with that score's number. (`score_refusals` above has it that this is 21, or
-- else 18 or 19.)
pub fleet_first_refused :
    (edition : ℕ) (logs numbers : List ℕ) (r : ℕ) → fleet_in edition logs numbers ≡ refuses r →
    FleetRefused (stations_in numbers) (station_at edition logs numbers) r
fleet_first_refused = report_first

-- With status 0 every station's log is scored, served and owed are the exact sums of the scores' own, and silent days too. The station named
-- owes, none that owes has a smaller served part, and of the stations before it that owe each has a greater one: the lower number wins ties.
-- It is 64 where none owes.
pub fleet_summed :
    (edition : ℕ) (logs numbers : List ℕ) (r : ℕ) (room room' : List ℕ) →
    Crosses (report_told edition logs numbers (length room)) r room room' → r ≡ 0 →
    FleetSummed (stations_in numbers) (station_at edition logs numbers) room'
fleet_summed = report_summed

-- A call with another status than 0 has touched no room.
pub fleet_refused :
    (edition : ℕ) (logs numbers : List ℕ) (r : ℕ) (room room' : List ℕ) →
    Crosses (report_told edition logs numbers (length room)) r room room' → 1 ≤ r → room' ≡ room
fleet_refused = report_left

-- The report of a fleet joined of two is the join of their reports, refusals first: totals and silent days are summed up, and the first
-- fleet's station stays named where its part isn't greater than that of the second's, whose stations are numbered on.
pub fleet_joined :
    (n m : ℕ) (stations : ℕ → Station) →
    fleet_told (n + m) stations ≡
    then_told (fleet_told n stations)
    (then_told (fleet_told m (behind n stations))
    (gives (fleet_numbers (joined_fleet n (sums_of n stations) (sums_of m (behind n stations))))))
fleet_joined = told_joined

-- So of calls: logs and numbers of a second fleet behind those of a first, whose numbers are in fours and add up to its slice, tell the join of
-- what the two tell by themselves.
pub fleet_joined_calls :
    (edition : ℕ) (logs logs' numbers numbers' : List ℕ) → length numbers % 4 ≡ 0 → add_up numbers (length logs) ≡ true →
    fleet_in edition (logs ++ logs') (numbers ++ numbers') ≡
    then_told (fleet_in edition logs numbers)
    (then_told (fleet_in edition logs' numbers')
    (gives (fleet_numbers (joined_fleet (stations_in numbers) (fleet_sums edition logs numbers) (fleet_sums edition logs' numbers')))))
fleet_joined_calls = behind_told

-- So is what a join keeps of each, the four numbers with the named station's two, so that joins may be joined again.
pub fleet_sums_joined :
    (n m : ℕ) (stations : ℕ → Station) → sums_of (n + m) stations ≡ joined_fleet n (sums_of n stations) (sums_of m (behind n stations))
fleet_sums_joined = sums_joined

-- A FLEET'S REPORT THAT GROWS

-- So where the stations are those of a call of egretfold_fleet_report that returned 0, the first four numbers are its room's.
pub fleet_grown_report :
    (edition : ℕ) (logs numbers : List ℕ) (r : ℕ) (room room' : List ℕ) →
    Crosses (report_told edition logs numbers (length room)) r room room' → r ≡ 0 → (sums : List ℕ) →
    Grown edition (station_at edition logs numbers) (stations_in numbers) sums → (s : ℕ) (told : List ℕ) →
    Shows (told_numbers (sums_in sums)) s told → told ≡ room' ++ (get_or told 4 0 ∷ [])
fleet_grown_report = tell_report

-- The next station, a replay of the report's edition, is answered with the refusal of its own score, and with 0 where it has none.
pub fleet_grown_next :
    (edition : ℕ) (stations : ℕ → Station) (k : ℕ) (sums : List ℕ) → Grown edition stations k sums → k < most_stations →
    (l : Lease) (log marks own tallies shared : List ℕ) → stations k ≡ station_of l (replay_in log marks own tallies shared) →
    edition_in (replay_in log marks own tallies shared) ≡ edition → (r : ℕ) (sums' : List ℕ) →
    AddCrosses l log marks own tallies r sums sums' → r ≡ refusal_in (stations k).score
fleet_grown_next = add_answers

-- So the first station that isn't taken is the one that the report of them all is refused for, with the same number.
pub fleet_grown_refused :
    (edition : ℕ) (stations : ℕ → Station) (k : ℕ) (sums : List ℕ) → Grown edition stations k sums → k < most_stations →
    (l : Lease) (log marks own tallies shared : List ℕ) → stations k ≡ station_of l (replay_in log marks own tallies shared) →
    edition_in (replay_in log marks own tallies shared) ≡ edition → (r : ℕ) (sums' : List ℕ) →
    AddCrosses l log marks own tallies r sums sums' → (n : ℕ) → k < n → 0 < r → fleet_told n stations ≡ refuses r
fleet_grown_refused = next_refusal

-- The same in groups: the groups before were taken whole, and it is the first that isn't taken in the next one.
pub fleet_grown_group_refused :
    (edition : ℕ) (stations : ℕ → Station) (n : ℕ) (before : List ℕ) → Grown edition stations n before →
    (k : ℕ) (sums : List ℕ) → Grown edition (behind n stations) k sums → k < most_stations →
    (l : Lease) (log marks own tallies shared : List ℕ) → stations (n + k) ≡ station_of l (replay_in log marks own tallies shared) →
    edition_in (replay_in log marks own tallies shared) ≡ edition → (r : ℕ) (sums' : List ℕ) →
    AddCrosses l log marks own tallies r sums sums' → (m : ℕ) → k < m → 0 < r → fleet_told (n + m) stations ≡ refuses r
fleet_grown_group_refused = group_refusal

-- Two reports of one edition are joined, unless they have over 4,294,967,296 stations together.
pub fleet_grown_joined :
    (edition : ℕ) (f g : ℕ → Station) (n m : ℕ) (sums other : List ℕ) → Grown edition f n sums → Grown edition g m other →
    n + m ≤ most_stations → (r : ℕ) (sums' : List ℕ) → Crosses (join_told (sums_in sums) (sums_in other)) r sums sums' → r ≡ 0
fleet_grown_joined = join_answers

-- A replay that was begun under an edition and fed with a log, cut anywhere, is of that edition, and is the station that egretfold_fleet_report
-- reckons of the log's bytes (`station_at`).
pub fleet_grown_log :
    (edition : ℕ) → is_edition edition ≡ true → (a₀ a : Arrays) (b : ℕ) → BeginsAt edition b a₀ a →
    (ps : List (List ℕ)) (status taken : ℕ) (a' : Arrays) → Pieces a ps status taken a' → OfLog edition (uncut ps) (replay_at a')
fleet_grown_log = from_log

-- The numbers that egretfold_score_month left, with the days of its room that owe and are served 0, add the month just as its replay does.
pub fleet_grown_month :
    (a : Sums) (l : Lease) (q : Replay) → a.edition ≡ edition_in q → (r : ℕ) (claimed served month claimed' served' month' : List ℕ) →
    MonthCrosses (score_of l q) r claimed served month claimed' served' month' → r ≡ 0 →
    add_month_told a (get_or month' 0 0) (get_or month' 1 0) (silent_in l.days l.owed served') ≡ add_told a (edition_in q) (station_of l q)
fleet_grown_month = month_rooms

-- At each of these calls the numbers are such as the next one asks for, and egretfold_fleet_check takes them (`states.Fleet` has a constructor
-- for each call): no sum passes 64 bits, since 31 * 100,000,000 * 4,294,967,296 < 2^64.
pub fleet_grown_taken : {sums : List ℕ} → states.Fleet sums → {yes : Bool} → Judges yes (SumsGiven sums) → yes ≡ true
fleet_grown_taken = fleet_taken

pub fleet_grown_given : (edition : ℕ) (stations : ℕ → Station) (n : ℕ) (sums : List ℕ) → Grown edition stations n sums → SumsGiven sums
fleet_grown_given = grown_given
