-- The header's sentence on a refused word of a log: "The first refused word stands in the record whose number, counted from 0, is the
-- words that the session has taken plus the midnights before that word." Assumes nothing.
use Rattle.std.specs.Prelude.{◌≡◌, List, ℕ, ◌+◌, ◌*◌, ◌<◌, length}
use Rattle.session.specs.Step.{refused, step_of}
use Rattle.replay.specs.State.{Replay, no_record}
use Rattle.station_log.specs.Asked.{Bytes8}
use Rattle.demands.specs.Days.{replayed}

-- the records before the first refused word, and that word
pub record FirstRefused (edition : ℕ) (before : List ℕ) (w n : ℕ) : Type 0 where
  pub bytes : Bytes8 before
  pub going : (replayed edition before).stopped_by ≡ 0
  pub unopened : (replayed edition before).opened ≡ no_record
  pub unrefused : (replayed edition before).refused.number ≡ 0
  pub word : w < 4294967296
  pub refuses : (step_of (replayed edition before).session w).reply ≡ refused n

-- what the replay of the whole log reports of it, whatever bytes come later
pub record Reported (before : List ℕ) (n : ℕ) (r : Replay) : Type 0 where
  -- "the first such number is reported"
  pub number : r.refused.number ≡ n
  -- a record has five bytes
  pub place : length before ≡ 5 * (r.session.party.taken + r.refused.midnights)
