-- What the routines of a report ask, and what their answers tell. Assumes nothing.
use Rattle.std.specs.Prelude.{◌≡◌, true, List, [], ◌∷◌, ℕ, ◌+◌, ◌*◌, ◌%◌, ◌<◌, ◌≤◌, eqb, ltb, length, Result, Ok, Err}
use Rattle.laws.specs.Choice.{pick}
use Rattle.refusal.specs.Told.{Told, gives, refuses}
use Rattle.refusal.specs.declared.Refusal.{Refusal}
use Rattle.refusal.specs.declared.Refusal.TheVariants.{LeaseLine}
use Rattle.state.specs.Start.{is_edition}
use Rattle.replay.specs.Cells.{replay_in}
use Rattle.score.specs.Lease.{Lease}
use Rattle.score.specs.Score.{Score, scored, refused, score_of}
use Rattle.fleet.specs.Fleet.{refusal_in, served_in, owed_in, silent_days, most_month, no_station, stations_in, length_at, start_at, add_up}
use Rattle.fleet.specs.declared.station.Month.{Month}
use Rattle.fleet.specs.declared.parts.Part.{Part}
use Rattle.fleet.specs.declared.parts.Fleet.{Fleet}

-- a station's month in the code's numbers, or the number of the refusal
abbrev pub month_from : Lease → Score → Result Month ℕ
month_from l (scored m) = Ok (record { served = m.totals.served; owed = m.totals.owed; silent = silent_days l (scored m) })
month_from l (refused n) = Err n

-- that of a replay, whatever its session's other arrays hold
pub record ScoredAs (l : Lease) (log marks tallies : List ℕ) (r : Result Month ℕ) : Type 0 where
  pub told : (own shared : List ℕ) → r ≡ month_from l (score_of l (replay_in log marks own tallies shared))

-- a number in 32 bits, or the refusal of a lease line with a wider one
abbrev pub narrowed : Result ℕ Refusal → ℕ → Type 0
narrowed (Ok n) number = n ≡ number
narrowed (Err why) number = (why ≡ LeaseLine) × (4294967296 ≤ number)

-- no station yet
abbrev pub no_fleet : Fleet
no_fleet = record { served = 0; owed = 0; silent = 0; part = record { station = no_station; served = 0; owed = 0 } }

-- the smallest part with one station more
unfoldable pub part_next : Part → ℕ → ℕ → ℕ → Part
part_next part number served owed =
    let new : Part = record { station = number; served = served; owed = owed } in
    pick (eqb owed 0) part
    (pick (eqb part.owed 0) new (pick (ltb (served * part.owed) (part.served * owed)) new part))

unfoldable pub added : Fleet → ℕ → ℕ → ℕ → ℕ → Fleet
added fleet number served owed silent =
    record {
      served = fleet.served + served;
      owed = fleet.owed + owed;
      silent = fleet.silent + silent;
      part = part_next fleet.part number served owed;
    }

-- how many stations 64 bits have room for beside one more
abbrev pub most_added : ℕ
most_added = 4294967295

-- room in 64 bits for one station more, and for the products
pub record AddAsked (fleet : Fleet) (served owed silent : ℕ) : Type 0 where
  pub served_month : served ≤ most_month
  pub owed_month : owed ≤ most_month
  pub silent_month : silent ≤ 31
  pub served_most : fleet.served ≤ most_added * most_month
  pub owed_most : fleet.owed ≤ most_added * most_month
  pub silent_most : fleet.silent ≤ most_added * 31
  pub part_served : fleet.part.served ≤ most_month
  pub part_owed : fleet.part.owed ≤ most_month

-- numbers in fours, of at most 64 stations, whose logs are the slice
pub record FleetAsked (edition : ℕ) (logs numbers : List ℕ) : Type 0 where
  pub known : is_edition edition ≡ true
  pub fours : length numbers % 4 ≡ 0
  pub few : stations_in numbers ≤ 64
  pub slice : add_up numbers (length logs) ≡ true

-- a station of them, and where its log begins
pub record MonthAsked (edition : ℕ) (logs numbers : List ℕ) (start k : ℕ) : Type 0 where
  pub known : is_edition edition ≡ true
  pub listed : k < stations_in numbers
  pub begins : start ≡ start_at numbers k
  pub inside : start + length_at numbers k ≤ length logs

-- the same of any number of stations
pub record CountedAsked (edition : ℕ) (logs numbers : List ℕ) : Type 0 where
  pub known : is_edition edition ≡ true
  pub fours : length numbers % 4 ≡ 0
  pub slice : add_up numbers (length logs) ≡ true

abbrev pub fleet_numbers : Fleet → List ℕ
fleet_numbers f = f.served ∷ f.owed ∷ f.silent ∷ f.part.station ∷ []

abbrev pub told_reported : Result Fleet ℕ → Told
told_reported (Ok f) = gives (fleet_numbers f)
told_reported (Err n) = refuses n
