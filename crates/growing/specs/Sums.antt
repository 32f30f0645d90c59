-- A fleet's report that grows: the sums of the stations so far, to which one station after another is added, and which may be put behind
-- another report's. Assumes nothing.
use Rattle.std.specs.Prelude.{◌≡◌, Bool, true, ℕ, ◌+◌, ◌*◌, ◌≤◌, eqb, leb, ltb}
use Rattle.laws.specs.Choice.{◌and◌, pick}
use Rattle.state.specs.Start.{is_edition}
use Rattle.fleet.specs.Fleet.{Station, served_in, owed_in, silent_days, most_month, no_station}
use Rattle.fleet.specs.Answers.{no_fleet, added}
use Rattle.fleet.specs.Join.{joined}
use Rattle.fleet.specs.declared.parts.Fleet.{Fleet}

-- "one edition", how many stations were added, and what they come to
pub record Sums : Type 0 where
  pub edition : ℕ
  pub count : ℕ
  pub fleet : Fleet

abbrev pub no_sums : ℕ → Sums
no_sums edition = record { edition = edition; count = 0; fleet = no_fleet }

-- one month more, of a station that is numbered on from those before it
unfoldable pub with_month : Sums → ℕ → ℕ → ℕ → Sums
with_month a served owed silent =
    record { edition = a.edition; count = a.count + 1; fleet = added a.fleet a.count served owed silent }

abbrev pub with_station : Sums → Station → Sums
with_station a s = with_month a (served_in s.score) (owed_in s.score) (silent_days s.lease s.score)

-- the stations of the second behind those of the first
unfoldable pub joined_sums : Sums → Sums → Sums
joined_sums a b = record { edition = a.edition; count = a.count + b.count; fleet = joined a.count a.fleet b.fleet }

-- so many stations have numbers of 32 bits; what they owe is a number of 64 bits: 31 * 100,000,000 * 2^32 < 2^64
abbrev pub most_stations : ℕ
most_stations = 4294967296

-- no month owes more than 31 days of 100,000,000 elements, is served more than it owes, or has more silent days than days
unfoldable pub is_month : ℕ → ℕ → ℕ → Bool
is_month served owed silent = leb owed most_month and (leb served owed and leb silent 31)

-- a station that is named is one of so many; where it owes nothing there is none, and 64 stands for that
unfoldable pub is_placed : ℕ → ℕ → ℕ → Bool
is_placed count station owed = pick (eqb owed 0) (eqb station no_station) (ltb station count)

-- what holds of the sums of at most so many stations
pub record SumsValid (a : Sums) : Type 0 where
  pub known : is_edition a.edition ≡ true
  pub few : a.count ≤ most_stations
  pub served_most : a.fleet.served ≤ a.fleet.owed
  pub owed_most : a.fleet.owed ≤ a.count * most_month
  pub silent_most : a.fleet.silent ≤ a.count * 31
  pub part_served : a.fleet.part.served ≤ a.fleet.part.owed
  pub part_owed : a.fleet.part.owed ≤ most_month
  pub placed : is_placed a.count a.fleet.part.station a.fleet.part.owed ≡ true
