-- Document 02, request 1: "Replay feeds the words to one session, across all midnights": the words of a log, in order. Assumes
-- nothing.
use Rattle.std.specs.Prelude.{List, [], ◌∷◌, ◌++◌, ℕ, eqb, leb}
use Rattle.laws.specs.Choice.{◌and◌, pick}
use Rattle.session.specs.Feed.{First, nothing, first}
use Rattle.replay.specs.State.{Replay}
use Rattle.replay.specs.Step.{Reply, taken, refused, number_from}
use Rattle.station_log.specs.Bytes.{byte_step}

-- the word that a byte completes, if it is the last byte of a record of kind 1
unfoldable pub word_by : Replay → ℕ → List ℕ
word_by r b =
    pick (eqb r.stopped_by 0 and (leb 4 r.opened.count and eqb r.opened.kind 1))
    (number_from r.opened.low r.opened.second r.opened.third b ∷ []) []

-- the number that is reported: one that stands isn't replaced, and else it is that of the first refusal, if there is one
unfoldable pub reported : First → ℕ → ℕ
reported nothing stands = stands
reported (first n) stands = pick (eqb stands 0) n stands

-- the words of the records that bytes complete, up to the first refused byte
unfoldable pub on_taken : Reply → List ℕ → List ℕ
on_taken taken ws = ws
on_taken (refused n) ws = []

unfoldable pub words_in : Replay → List ℕ → List ℕ
words_in r [] = []
words_in r (b ∷ bs) = word_by r b ++ on_taken (byte_step r b).reply (words_in (byte_step r b).replay bs)
