-- Logs: a station's replay over its midnights (request 1).
-- A page behind Demands.antt, made as that one is: each statement under its sentence, each proof a citation. Assumes nothing.
use mathlib.Core.Path.{◌≡◌}
use mathlib.Core.Bool.{true}
use mathlib.Core.List.{List, ◌∷◌, ◌++◌}
use Prim.Native.Nat.{ℕ, ◌+◌, ◌<◌, ◌≤◌}
use lib.ListN.{length}
use Rattle.laws.specs.Below.{sum}
use Rattle.state.specs.Start.{is_edition}
use Rattle.session.specs.Step.{refused, step_of}
use Rattle.session.specs.Feed.{first, feed_of, uncut}
use Rattle.lessees.specs.Owning.{LogNumber}
use Rattle.replay.specs.State.{Replay, new_replay}
use Rattle.replay.specs.Step.{refused as byte_refused, is_kind, after_word}
use Rattle.replay.specs.Report.{part_at}
use Rattle.station_log.specs.Asked.{Bytes8}
use Rattle.station_log.specs.Bytes.{byte_step}
use Rattle.station_log.specs.Feed.{ended as replay_ended, replay_of, replay_pieces, record_bytes, after_words}
use Rattle.station_log.specs.Refusals.{RefusedTo as LogRefusedTo}
use Rattle.station_log.specs.Unfinished.{OpenOnly}
use Rattle.station_log.specs.Words.{words_in, reported}
use Rattle.station_log.proofs.Cut.{refused_byte, stopped_piece as stopped_bytes, cut_anywhere as bytes_cut_anywhere}
use Rattle.station_log.proofs.Days.{all_runs, all_claims, unfinished}
use Rattle.station_log.proofs.Kept.{new_replay_valid, piece_valid}
use Rattle.station_log.proofs.Records.{Ready, later_words}
use Rattle.station_log.proofs.Words.{one_session, first_refusal}
use Rattle.demands.specs.Days.{added, replayed, AtMidnight, with_day, bytes_before}
use Rattle.demands.specs.Refused.{FirstRefused, Reported}
use Rattle.demands.proofs.Days.{part_0, before_midnight, days_stand}
use Rattle.demands.proofs.Owning.{log_number}
use Rattle.demands.proofs.Refused.{refused_place_lem}

-- REQUEST 1, "One log over midnight"

-- Pieces cut anywhere, even inside a record, give what the uncut log gives.
pub log_cut : (r : Replay) (ps : List (List ℕ)) → replay_pieces r ps ≡ replay_of r (uncut ps)
log_cut = bytes_cut_anywhere

-- 18 and 19 "stop the replay and drop the open record. What came before stands; later bytes get that number again."
pub log_refusals : (r : Replay) (b n : ℕ) → (byte_step r b).reply ≡ byte_refused n → LogRefusedTo r n (byte_step r b).replay
log_refusals = refused_byte

pub log_stopped :
    (r : Replay) (b : ℕ) (bs : List ℕ) → (r.stopped_by ≡ 0 → ⊥) → replay_of r (b ∷ bs) ≡ replay_ended (first r.stopped_by) r
log_stopped = stopped_bytes

-- "Replay feeds the words to one session, across all midnights".
pub log_session : (r : Replay) (bs : List ℕ) → (replay_of r bs).replay.session ≡ (feed_of r.session (words_in r bs)).session
log_session = one_session

-- "A refused word's bytes are taken and the first such number is reported; the days go on and later words add nothing."
pub log_first_refusal :
    (r : Replay) (bs : List ℕ) →
    (replay_of r bs).replay.refused.number ≡ reported (feed_of r.session (words_in r bs)).refusal r.refused.number
log_first_refusal = first_refusal

-- "Words of a log are party 0's, which there owns every number": what is reported is 0, or one of 2 to 9 and 17, and never 20.
pub log_numbers : (edition : ℕ) (bytes : List ℕ) → LogNumber (replayed edition bytes).refused.number
log_numbers = log_number

pub log_later_words :
    (r : Replay) (w n : ℕ) (ws : List ℕ) → (step_of r.session w).reply ≡ refused n → after_words (after_word r w) ws ≡ after_word r w
log_later_words = later_words

-- The header's sentence: the first refused word stands in the record whose number, counted from 0, is the words that the session has
-- taken plus the midnights before that word.
pub log_refused_place :
    (edition : ℕ) → is_edition edition ≡ true → (before : List ℕ) (w n : ℕ) → FirstRefused edition before w n → (later : List ℕ) →
    Reported before n (replayed edition (before ++ (record_bytes 1 w ++ later)))
log_refused_place = refused_place_lem

-- "what ends before the first midnight is given apart": of every log part 0 is what the words before its first midnight added (`bytes_before` are
-- the bytes before the one that completes that midnight's record, and all bytes where none comes).
pub log_before_days :
    (edition : ℕ) → is_edition edition ≡ true → (bytes : List ℕ) → Bytes8 bytes →
    part_at (replayed edition bytes) 0 ≡ added (new_replay edition).session (words_in (new_replay edition) (bytes_before (new_replay edition) bytes))
log_before_days = part_0

-- In a log that is cut at its first midnight it is what the words before that midnight added, whatever bytes come later.
pub log_before_first :
    (edition : ℕ) → is_edition edition ≡ true → (before : List ℕ) → Bytes8 before → (replayed edition before).midnights ≡ 0 →
    (day : ℕ) → AtMidnight (replayed edition before) day → (later : List ℕ) →
    part_at (replayed edition (with_day before day later)) 0 ≡ added (new_replay edition).session (words_in (new_replay edition) before)
log_before_first = before_midnight

-- Days that have ended never change, whatever bytes come.
pub log_days_stand :
    (edition : ℕ) (before later : List ℕ) (k : ℕ) → k < (replayed edition before).midnights →
    part_at (replayed edition (before ++ later)) k ≡ part_at (replayed edition before) k
log_days_stand = days_stand

-- What ended before the first midnight and on each day adds up to the session's runs and claims.
pub log_runs :
    (edition : ℕ) → is_edition edition ≡ true → (bytes : List ℕ) → Bytes8 bytes →
    sum ((replayed edition bytes).midnights + 1) (λ k. (part_at (replayed edition bytes) k).runs) ≡ (replayed edition bytes).session.party.tally.runs
log_runs edition known bytes b = all_runs (replayed edition bytes) (piece_valid (new_replay edition) (new_replay_valid edition known) bytes b)

pub log_claims :
    (edition : ℕ) → is_edition edition ≡ true → (bytes : List ℕ) → Bytes8 bytes →
    sum ((replayed edition bytes).midnights + 1) (λ k. (part_at (replayed edition bytes) k).claims) ≡ (replayed edition bytes).session.party.tally.claims
log_claims edition known bytes b = all_claims (replayed edition bytes) (piece_valid (new_replay edition) (new_replay_valid edition known) bytes b)

-- "an unfinished last record is reported as such and counted nowhere": up to four bytes of a record change the open record alone.
pub log_unfinished :
    (r : Replay) → Ready r → (kind : ℕ) (bs : List ℕ) → is_kind kind ≡ true → length bs ≤ 3 →
    OpenOnly r 0 (length (kind ∷ bs)) (replay_of r (kind ∷ bs))
log_unfinished = unfinished
