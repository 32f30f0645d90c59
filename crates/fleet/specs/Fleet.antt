-- Document 02, request 14: the fleet report. "Over up to 64 logs with lease lines, and one edition, report totals served and owed as exact
-- sums, the number of silent days .. and the station with the smallest served part". Stations "are numbered from 0 as listed". Assumes
-- nothing.
use Rattle.std.specs.Prelude.{Bool, true, false, List, [], ◌∷◌, ℕ, ◌+◌, ◌*◌, ◌/◌, ◌%◌, eqb, leb, ltb, length, get_or, take, drop}
use Rattle.laws.specs.Choice.{◌and◌, pick}
use Rattle.laws.specs.Below.{every, sum, count, least}
use Rattle.refusal.specs.Told.{Told, gives, refuses, then_told}
use Rattle.state.specs.Start.{edition_told}
use Rattle.score.specs.Lease.{Lease}
use Rattle.score.specs.Score.{Score, scored, refused, score_of_log}
use Rattle.score.specs.Answers.{lease_line}

-- a station: its lease line, and the score of its log
pub record Station : Type 0 where
  pub lease : Lease
  pub score : Score

-- "the number of silent days (owing more than 0, served 0)": of so many days of a lease line, by the month's served numbers
unfoldable pub silent_in : ℕ → ℕ → List ℕ → ℕ
silent_in days owed served = count days (λ k. ltb 0 owed and eqb (get_or served k 0) 0)

-- what a station's score says: whether it is refused, and its numbers, 0 where it is
unfoldable pub refusal_in : Score → ℕ
refusal_in (scored m) = 0
refusal_in (refused n) = n

unfoldable pub is_refused : Score → Bool
is_refused (scored m) = false
is_refused (refused n) = true

unfoldable pub served_in : Score → ℕ
served_in (scored m) = m.totals.served
served_in (refused n) = 0

unfoldable pub owed_in : Score → ℕ
owed_in (scored m) = m.totals.owed
owed_in (refused n) = 0

unfoldable pub silent_days : Lease → Score → ℕ
silent_days l (scored m) = silent_in l.days l.owed m.served
silent_days l (refused n) = 0

-- a month owes at most 31 days of 100,000,000 elements, and is served no more
abbrev pub most_month : ℕ
most_month = 3100000000

-- "64 if none is left"; "Over up to 64 logs"
abbrev pub no_station : ℕ
no_station = 64

module _ (n : ℕ) (stations : ℕ → Station) where
  abbrev pub served_by : ℕ → ℕ
  served_by k = served_in (stations k).score

  abbrev pub owed_by : ℕ → ℕ
  owed_by k = owed_in (stations k).score

  -- "stations owing nothing are left out"
  abbrev pub owes : ℕ → Bool
  owes k = ltb 0 (owed_by k)

  -- "compared as fractions by whole numbers": station `j`'s served part isn't smaller than station `k`'s
  abbrev pub not_smaller : ℕ → ℕ → Bool
  not_smaller k j = leb (served_by k * owed_by j) (served_by j * owed_by k)

  -- station `k` has the smallest served part: it owes, and none that owes has a smaller one
  unfoldable pub has_smallest : ℕ → Bool
  has_smallest k = owes k and every n (λ j. pick (owes j) (not_smaller k j) true)

  -- "the lower station number wins ties"
  unfoldable pub smallest_part : ℕ
  smallest_part = pick (ltb (least n has_smallest) n) (least n has_smallest) no_station

  -- the first station that is refused, `n` where none is
  unfoldable pub first_refused : ℕ
  first_refused = least n (λ k. is_refused (stations k).score)

  -- "then the refusal of the first station whose log or lease line is refused", else the four numbers
  unfoldable pub fleet_told : Told
  fleet_told =
      pick (ltb first_refused n) (refuses (refusal_in (stations first_refused).score))
      (gives
      (sum n served_by ∷ sum n owed_by ∷ sum n (λ k. silent_days (stations k).lease (stations k).score) ∷ smallest_part ∷ []))

-- "four numbers a station: log length, first day, days, owed"
abbrev pub stations_in : List ℕ → ℕ
stations_in numbers = length numbers / 4

abbrev pub length_at : List ℕ → ℕ → ℕ
length_at numbers k = get_or numbers (4 * k) 0

abbrev pub lease_at : List ℕ → ℕ → Lease
lease_at numbers k = lease_line (get_or numbers (4 * k + 1) 0) (get_or numbers (4 * k + 2) 0) (get_or numbers (4 * k + 3) 0)

-- "The logs come as one byte slice": where a station's log begins in it, and its bytes
unfoldable pub start_at : List ℕ → ℕ → ℕ
start_at numbers k = sum k (length_at numbers)

abbrev pub log_at : List ℕ → List ℕ → ℕ → List ℕ
log_at logs numbers k = take (length_at numbers k) (drop (start_at numbers k) logs)

-- a station by request 5's score of its log. A number wider than 32 bits is out of a lease line's bounds
abbrev pub station_at : ℕ → List ℕ → List ℕ → ℕ → Station
station_at edition logs numbers k =
    record { lease = lease_at numbers k; score = score_of_log edition (lease_at numbers k) (log_at logs numbers k) }

-- "the lengths don't add up to the slice": the sum is exact
unfoldable pub add_up : List ℕ → ℕ → Bool
add_up numbers length = eqb (start_at numbers (stations_in numbers)) length

abbrev pub fleet_in : ℕ → List ℕ → List ℕ → Told
fleet_in edition logs numbers = fleet_told (stations_in numbers) (station_at edition logs numbers)

-- "22 for more than 64 logs"
unfoldable pub counted_told : ℕ → List ℕ → List ℕ → Told
counted_told edition logs numbers = pick (leb (stations_in numbers) 64) (fleet_in edition logs numbers) (refuses 22)

-- "11 if the numbers aren't in fours, the room isn't four or the lengths don't add up to the slice"
unfoldable pub judged_told : ℕ → List ℕ → List ℕ → ℕ → Told
judged_told edition logs numbers room =
    pick (eqb (length numbers % 4) 0 and (eqb room 4 and add_up numbers (length logs)))
    (counted_told edition logs numbers)
    (refuses 11)

-- "Order: 3 for the edition, 11 .., 22 .., then the refusal of the first station"
unfoldable pub report_told : ℕ → List ℕ → List ℕ → ℕ → Told
report_told edition logs numbers room = then_told (edition_told edition) (judged_told edition logs numbers room)
