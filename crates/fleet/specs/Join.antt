-- The join of two fleets' reports, for fleets over 64 stations and over several machines: the stations of the second are numbered on from
-- those of the first. What is joined are the four numbers with what the named station is served and owes beside them, since the number
-- alone doesn't tell how small its part is. Assumes nothing.
use Rattle.std.specs.Prelude.{List, ℕ, ◌+◌, ◌*◌, eqb, leb, ltb}
use Rattle.laws.specs.Choice.{pick}
use Rattle.laws.specs.Below.{sum, least}
use Rattle.fleet.specs.Fleet.{Station, served_by, owed_by, has_smallest, silent_days, no_station, stations_in, station_at}
use Rattle.fleet.specs.declared.parts.Part.{Part}
use Rattle.fleet.specs.declared.parts.Fleet.{Fleet}

abbrev pub no_part : Part
no_part = record { station = no_station; served = 0; owed = 0 }

module _ (n : ℕ) (stations : ℕ → Station) where
  abbrev pub part_at : ℕ → Part
  part_at k = record { station = k; served = served_by n stations k; owed = owed_by n stations k }

  -- the station with the smallest served part and its two numbers; one that owes nothing stands for none
  unfoldable pub part_of : Part
  part_of = pick (ltb (least n (has_smallest n stations)) n) (part_at (least n (has_smallest n stations))) no_part

  abbrev pub silent_by : ℕ → ℕ
  silent_by k = silent_days (stations k).lease (stations k).score

  -- a report's four numbers, with the named station's two
  abbrev pub sums_of : Fleet
  sums_of =
      record {
        served = sum n (served_by n stations);
        owed = sum n (owed_by n stations);
        silent = sum n silent_by;
        part = part_of;
      }

  -- the stations behind the first `n`
  abbrev pub behind : ℕ → Station
  behind k = stations (n + k)

-- a station of the second fleet, numbered on from the `n` of the first
abbrev pub on_from : ℕ → Part → Part
on_from n p = record { station = n + p.station; served = p.served; owed = p.owed }

-- the first fleet's station where its part isn't greater than the second's
unfoldable pub joined_part : ℕ → Part → Part → Part
joined_part n p q =
    pick (eqb q.owed 0) p
    (pick (eqb p.owed 0) (on_from n q) (pick (leb (p.served * q.owed) (q.served * p.owed)) p (on_from n q)))

-- totals and silent days are sums
abbrev pub joined : ℕ → Fleet → Fleet → Fleet
joined n a b =
    record {
      served = a.served + b.served;
      owed = a.owed + b.owed;
      silent = a.silent + b.silent;
      part = joined_part n a.part b.part;
    }

-- of the logs and numbers that a call is given
abbrev pub fleet_sums : ℕ → List ℕ → List ℕ → Fleet
fleet_sums edition logs numbers = sums_of (stations_in numbers) (station_at edition logs numbers)
