-- Document 02, request 5: the lease line, "(first day, days from 1 to 31, elements owed a day, one number for all its days,
-- from 0 to 100,000,000, last day below 2^32, else 21". Assumes nothing.
use Rattle.std.specs.Prelude.{Bool, [], ℕ, ◌+◌, ◌-◌, leb, ltb, Result, Ok, Err}
use Rattle.laws.specs.Choice.{◌and◌, pick}
use Rattle.refusal.specs.Number.{number_of}
use Rattle.refusal.specs.Told.{Told, gives, refuses}
use Rattle.refusal.specs.declared.Refusal.{Refusal}
use Rattle.score.specs.declared.line.LeaseLine.{LeaseLine}

pub record Lease : Type 0 where
  pub first_day : ℕ
  pub days : ℕ
  pub owed : ℕ

-- the number of the lease's last day, which has as many bits as it needs: it doesn't wrap
abbrev pub last_day_of : Lease → ℕ
last_day_of l = l.first_day + l.days - 1

-- the bounds: "days from 1 to 31", "from 0 to 100,000,000", "last day below 2^32"
abbrev pub most_days : ℕ
most_days = 31

abbrev pub most_owed : ℕ
most_owed = 100000000

abbrev pub past_days : ℕ
past_days = 4294967296

unfoldable pub is_lease : Lease → Bool
is_lease l = leb 1 l.days and leb l.days most_days and leb l.owed most_owed and ltb (last_day_of l) past_days

-- nothing more is told of a lease line that is taken
unfoldable pub lease_told : Lease → Told
lease_told l = pick (is_lease l) (gives []) (refuses 21)

abbrev pub told_judged : Result (Unit {0}) Refusal → Told
told_judged (Ok _) = gives []
told_judged (Err why) = refuses (number_of why)

-- the lease of the code's three numbers
abbrev pub lease_of : LeaseLine → Lease
lease_of l = record { first_day = l.first_day; days = l.days; owed = l.owed }
