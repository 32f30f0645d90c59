-- Document 02, request 1: "an unfinished last record is reported as such and counted nowhere". Assumes nothing.
use Rattle.std.specs.Prelude.{◌≡◌, ℕ, ◌+◌}
use Rattle.session.specs.Feed.{nothing}
use Rattle.replay.specs.State.{OpenRecord, Replay}
use Rattle.replay.specs.Step.{opening}
use Rattle.station_log.specs.Feed.{Fed}

-- the answer to `n` bytes of a record of which `k` stood before: all are taken, and nothing but the open record has changed
pub data OpenOnly (r : Replay) (k n : ℕ) : Fed → Type 0 where
  open_only : (o : OpenRecord) → o.count ≡ k + n → OpenOnly r k n (record { taken = n; refusal = nothing; replay = opening o r })
