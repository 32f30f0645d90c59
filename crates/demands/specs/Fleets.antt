-- Request 14, the fleet report, over calls of egretfold_fleet_report. Assumes nothing.
use Rattle.std.specs.Prelude.{◌≡◌, false, List, [], ◌∷◌, ℕ, ◌*◌, ◌%◌, ◌<◌, ◌≤◌, eqb, leb, length, get_or}
use Rattle.laws.specs.Below.{sum}
use Rattle.laws.specs.Choice.{◌and◌}
use Rattle.state.specs.Start.{is_edition}
use Rattle.score.specs.Score.{refused}
use Rattle.fleet.specs.Fleet.{Station, is_refused, served_by, owed_by, smallest_part, stations_in, add_up}
use Rattle.fleet.specs.Join.{silent_by}
use Rattle.growing.specs.Cells.{station_of, edition_in}
use Rattle.replay.specs.State.{Replay}
use Rattle.score.specs.Lease.{Lease}
use Rattle.score.specs.Score.{score_of_log}
use Rattle.demands.specs.Surveys.{Question, asks}

-- "Order: 3 for the edition, 11 if the numbers aren't in fours, the room isn't four or the lengths don't add up to the slice, 22 for more
-- than 64 logs"
abbrev pub fleet_asks : ℕ → List ℕ → List ℕ → ℕ → List Question
fleet_asks edition logs numbers room =
    asks (is_edition edition) 3 ∷ asks (eqb (length numbers % 4) 0 and (eqb room 4 and add_up numbers (length logs))) 11 ∷
    asks (leb (stations_in numbers) 64) 22 ∷ []

module _ (n : ℕ) (stations : ℕ → Station) where
  abbrev pub served : ℕ → ℕ
  served = served_by n stations

  abbrev pub owed : ℕ → ℕ
  owed = owed_by n stations

  -- a station that owes, and none that owes has a smaller served part; of those before it each has a greater one
  pub record Smallest (b : ℕ) : Type 0 where
    pub listed : b < n
    pub owes : 0 < owed b
    pub none_smaller : (j : ℕ) → j < n → 0 < owed j → served b * owed j ≤ served j * owed b
    pub lowest : (j : ℕ) → j < b → 0 < owed j → served b * owed j < served j * owed b

  -- the station that is named; 64 where none owes
  pub data Named : ℕ → Type 0 where
    smallest : (b : ℕ) → Smallest b → Named b
    none_owes : ((j : ℕ) → j < n → owed j ≡ 0) → Named 64

  -- the same with a number that tells the two apart: 1 beside a station, whatever its number is, 0 beside the 64 that stands for none
  pub data NamedApart : ℕ → ℕ → Type 0 where
    is_named : (b : ℕ) → Smallest b → NamedApart b 1
    is_none : ((j : ℕ) → j < n → owed j ≡ 0) → NamedApart 64 0

  -- a report that isn't refused: no station is, and the room has the exact sums, the silent days of all and the station named
  pub record FleetSummed (room : List ℕ) : Type 0 where
    pub all_scored_lem : (k : ℕ) → k < n → is_refused (stations k).score ≡ false
    pub numbers : room ≡ sum n served ∷ sum n owed ∷ sum n (silent_by n stations) ∷ smallest_part n stations ∷ []
    pub named : Named (smallest_part n stations)

  -- what a growing report tells: a report's four numbers of these stations, however many they are, and whether one is named
  pub record GrownTold (room : List ℕ) : Type 0 where
    pub all_scored_lem : (k : ℕ) → k < n → is_refused (stations k).score ≡ false
    pub numbers :
        room ≡ sum n served ∷ sum n owed ∷ sum n (silent_by n stations) ∷ smallest_part n stations ∷ get_or room 4 0 ∷ []
    pub named : NamedApart (smallest_part n stations) (get_or room 4 0)

  -- "then the refusal of the first station whose log or lease line is refused"
  pub data FleetRefused : ℕ → Type 0 where
    at_station : (k r : ℕ) → k < n → (stations k).score ≡ refused r → ((j : ℕ) → j < k → is_refused (stations j).score ≡ false) →
        FleetRefused r

-- a replay is of an edition, and of a log's bytes: with a lease line it is the station whose score the report reckons
pub record OfLog (edition : ℕ) (bytes : List ℕ) (q : Replay) : Type 0 where
  pub born : edition_in q ≡ edition
  pub station : (l : Lease) → station_of l q ≡ record { lease = l; score = score_of_log edition l bytes }
