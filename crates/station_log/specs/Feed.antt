-- Document 02, request 1: a piece of bytes is its bytes, one after another, up to the first refused one. "Demand 2's cut rule
-- then also holds for bytes." Assumes nothing.
use Rattle.std.specs.Prelude.{List, [], ◌∷◌, ◌++◌, ℕ, ◌+◌, ◌/◌, ◌%◌}
use Rattle.session.specs.Feed.{First, nothing, first, earlier, feed_of}
use Rattle.replay.specs.State.{WordRefused, Replay}
use Rattle.replay.specs.Step.{Reply, taken, refused, noted, with_words}
use Rattle.station_log.specs.Bytes.{byte_step}

-- the bytes taken, the first refusal, and the replay after them
pub record Fed : Type 0 where
  pub taken : ℕ
  pub refusal : First
  pub replay : Replay

-- so many bytes taken, then the rest
abbrev pub ahead : ℕ → Fed → Fed
ahead n f = record { taken = n + f.taken; refusal = f.refusal; replay = f.replay }

-- nothing more is looked at
abbrev pub ended : First → Replay → Fed
ended n r = record { taken = 0; refusal = n; replay = r }

unfoldable pub proceed : Reply → Replay → Fed → Fed
proceed taken r rest = ahead 1 rest
proceed (refused n) r rest = ended (first n) r

unfoldable pub replay_of : Replay → List ℕ → Fed
replay_of r [] = ended nothing r
replay_of r (b ∷ bs) = proceed (byte_step r b).reply (byte_step r b).replay (replay_of (byte_step r b).replay bs)

-- the answers to two pieces, one after the other, as the answer to one
unfoldable pub joined : Fed → Fed → Fed
joined f g = record { taken = f.taken + g.taken; refusal = earlier f.refusal g.refusal; replay = g.replay }

-- a log in pieces, fed one after the other
unfoldable pub replay_pieces : Replay → List (List ℕ) → Fed
replay_pieces r [] = ended nothing r
replay_pieces r (p ∷ ps) = joined (replay_of r p) (replay_pieces (replay_of r p).replay ps)

-- the five bytes of a record: its kind, then its number, "low byte first"
abbrev pub record_bytes : ℕ → ℕ → List ℕ
record_bytes kind n = kind ∷ n % 256 ∷ n / 256 % 256 ∷ n / 65536 % 256 ∷ n / 16777216 % 256 ∷ []

-- records of words, one after the other
unfoldable pub word_records : List ℕ → List ℕ
word_records [] = []
word_records (w ∷ ws) = record_bytes 1 w ++ word_records ws

-- what the first refusal of a piece of words makes of the first refused word of all
abbrev pub noted_first : First → ℕ → WordRefused → WordRefused
noted_first nothing midnights f = f
noted_first (first n) midnights f = noted n midnights f

-- the replay after records of words, by the session's definition of a piece
unfoldable pub after_words : Replay → List ℕ → Replay
after_words r ws =
    with_words (feed_of r.session ws).session (noted_first (feed_of r.session ws).refusal r.midnights r.refused) r
