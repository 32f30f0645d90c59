-- What a replay that comes back is judged by beside its session, as tests: its own ten numbers, and the tallies at the midnights. That
-- they are the validity that the entries ask is proved. Assumes nothing.
use Rattle.std.specs.Prelude.{Bool, true, List, ℕ, ◌+◌, ◌*◌, eqb, leb, ltb, get_or}
use Rattle.laws.specs.Choice.{◌and◌, pick}
use Rattle.laws.specs.Below.{every}
use Rattle.state.specs.State.{Tally}
use Rattle.replay.specs.State.{OpenRecord, WordRefused, Replay, most_midnights, marks_length}
use Rattle.replay.specs.Step.{is_kind}
use Rattle.replay.specs.Report.{began_with, ended_with}

-- the number that stopped the replay: none, or 18 or 19 with the open record dropped
unfoldable pub stop_by : ℕ → ℕ → Bool
stop_by number count = pick (eqb number 0) true (pick (eqb number 18) (eqb count 0) (eqb number 19 and eqb count 0))

-- byte `k` of the open record stands and is one, or it hasn't come and is 0
unfoldable pub byte_by : ℕ → ℕ → ℕ → Bool
byte_by count k b = pick (ltb k count) (ltb b 256) (eqb b 0)

unfoldable pub bytes_by : OpenRecord → Bool
bytes_by o = byte_by o.count 1 o.low and byte_by o.count 2 o.second and byte_by o.count 3 o.third

-- no record is open and its numbers are 0, or it has a kind, and bytes
unfoldable pub record_by : OpenRecord → Bool
record_by o = pick (eqb o.count 0) (eqb o.kind 0 and bytes_by o) (leb o.count 4 and is_kind o.kind and bytes_by o)

-- a first refused word came after no more midnights than have come; 0 and 0 where there is none
unfoldable pub refused_by : WordRefused → ℕ → Bool
refused_by w midnights = pick (eqb w.number 0) (eqb w.midnights 0) (leb w.midnights midnights)

-- so many midnights can have come, the last on this day; 0 and 0 where none has
unfoldable pub days_by : ℕ → ℕ → Bool
days_by midnights last = pick (eqb midnights 0) (eqb last 0) (leb midnights most_midnights and leb midnights (last + 1))

-- a replay's own numbers
unfoldable pub numbers_by : Replay → Bool
numbers_by r =
    stop_by r.stopped_by r.opened.count and record_by r.opened and refused_by r.refused r.midnights and
    days_by r.midnights r.last_day

-- the tallies grew in part `k`
unfoldable pub grows_at : List ℕ → ℕ → Tally → ℕ → Bool
grows_at marks midnights now k =
    leb (began_with marks k).runs (ended_with marks midnights now k).runs and
    leb (began_with marks k).claims (ended_with marks midnights now k).claims

-- mark `k` is one of a midnight that has come, or 0
unfoldable pub rest_at : List ℕ → ℕ → ℕ → Bool
rest_at marks midnights k = pick (ltb k (2 * midnights)) true (eqb (get_or marks k 0) 0)

unfoldable pub marks_by : List ℕ → ℕ → Tally → Bool
marks_by marks midnights now = every (midnights + 1) (grows_at marks midnights now) and every marks_length (rest_at marks midnights)
