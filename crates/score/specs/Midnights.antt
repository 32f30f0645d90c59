-- "A day without a midnight record in the log": the days of a log's midnight records, read from its bytes. Assumes nothing.
use Rattle.std.specs.Prelude.{Bool, false, List, [], ◌∷◌, ◌++◌, ℕ, eqb, ltb}
use Rattle.laws.specs.Choice.{pick}
use Rattle.laws.specs.Masks.{◌or◌}
use Rattle.replay.specs.State.{Replay}
use Rattle.replay.specs.Step.{number_from, may_begin}
use Rattle.station_log.specs.Bytes.{byte_step}
use Rattle.station_log.specs.Words.{on_taken}

-- a day is among days
unfoldable pub among : ℕ → List ℕ → Bool
among day [] = false
among day (d ∷ days) = eqb day d or among day days

-- the number that a byte completes where it is a record's last
abbrev pub number_with : Replay → ℕ → ℕ
number_with r b = number_from r.opened.low r.opened.second r.opened.third b

-- the day that a byte begins: it is the last byte of a midnight's record, and the day may begin
unfoldable pub day_by : Replay → ℕ → List ℕ
day_by r b =
    pick (eqb r.stopped_by 0)
    (pick (ltb r.opened.count 4) []
    (pick (eqb r.opened.kind 1) []
    (pick (may_begin r.midnights r.last_day (number_with r b)) (number_with r b ∷ []) [])))
    []

-- the days that bytes begin, up to the first refused byte
unfoldable pub days_in : Replay → List ℕ → List ℕ
days_in r [] = []
days_in r (b ∷ bs) = day_by r b ++ on_taken (byte_step r b).reply (days_in (byte_step r b).replay bs)
