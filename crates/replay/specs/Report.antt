-- Document 02, request 1: what a replay "gives": "runs and claimed elements for each day; what ends before the first midnight is
-- given apart". A part is what lies between two midnights: part 0 is before the first, part k the k-th day. Assumes nothing.
use Rattle.std.specs.Prelude.{List, ℕ, zero, suc, ◌+◌, ◌-◌, ◌*◌, eqb, leb, ltb, get_or}
use Rattle.laws.specs.Choice.{pick}
use Rattle.state.specs.State.{Tally}
use Rattle.replay.specs.State.{Replay}

abbrev pub no_tally : Tally
no_tally = record { runs = 0; claims = 0 }

-- the tallies at the midnight k, counted from 0
abbrev pub mark_at : List ℕ → ℕ → Tally
mark_at marks k = record { runs = get_or marks (2 * k) 0; claims = get_or marks (2 * k + 1) 0 }

-- the tallies when a part began, and when it ended: the last part goes on, and has the tallies of now
unfoldable pub began_with : List ℕ → ℕ → Tally
began_with marks zero = no_tally
began_with marks (suc k) = mark_at marks k

unfoldable pub ended_with : List ℕ → ℕ → Tally → ℕ → Tally
ended_with marks midnights now k = pick (ltb k midnights) (mark_at marks k) now

abbrev pub less : Tally → Tally → Tally
less a b = record { runs = a.runs - b.runs; claims = a.claims - b.claims }

-- the runs and claims that ended in a part; none past the last part
unfoldable pub part_of : List ℕ → ℕ → Tally → ℕ → Tally
part_of marks midnights now k =
    pick (leb k midnights) (less (ended_with marks midnights now k) (began_with marks k)) no_tally

abbrev pub part_at : Replay → ℕ → Tally
part_at r k = part_of r.marks r.midnights r.session.party.tally k

-- the number of the day that a part is, the first day being part 1
abbrev pub day_at : Replay → ℕ → ℕ
day_at r k = r.last_day + k - r.midnights

-- the day of the first midnight; 0 where none has come
unfoldable pub first_day : ℕ → ℕ → ℕ
first_day midnights last_day = pick (eqb midnights 0) 0 (last_day + 1 - midnights)
