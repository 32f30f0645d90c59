-- Scores: the month of a lease line (request 5) and the two editions (request 10).
-- A page behind Demands.antt, made as that one is: each statement under its sentence, each proof a citation. Assumes nothing.
use mathlib.Core.Path.{◌≡◌}
use mathlib.Core.Bool.{true, false}
use mathlib.Core.List.{List}
use Prim.Native.Nat.{ℕ, ◌*◌, ◌≤◌}
use Rattle.laws.specs.Below.{count}
use Rattle.refusal.specs.Told.{refuses}
use Rattle.state.specs.State.{Buffer, Domain as StartDomain, Session}
use Rattle.command.specs.Format.{channels_of, code_of as format_code}
use Rattle.state.specs.Start.{output, counts, is_edition, credit_at, pairs_of, claim_of, most_claim}
use Rattle.start.proofs.Editions.{first_claim, one_channel, claim_least, claim_four}
use Rattle.session.specs.Feed.{nothing, first, feed_of, uncut}
use Rattle.session.specs.Reached.{Reached}
use Rattle.session.specs.Silent.{seen_by}
use Rattle.session.proofs.Tallies.{born}
use Rattle.station_log.specs.Editions.{SameButClaims as ReplaysAgree}
use Rattle.station_log.proofs.Editions.{replays_agree as replay_editions, part_runs}
use Rattle.replay.specs.State.{Replay, new_replay}
use Rattle.replay.specs.Report.{part_at}
use Rattle.station_log.specs.Asked.{Bytes8}
use Rattle.station_log.specs.Feed.{replay_of, replay_pieces}
use Rattle.station_log.proofs.Kept.{new_replay_valid, piece_valid}
use Rattle.score.specs.Lease.{Lease, is_lease}
use Rattle.score.specs.Promises.{Calling, Claimed, Refusing, Scoring}
use Rattle.score.specs.Score.{verdict_of, Month, month_of, scored, refused as refused_score, score_of, score_of_log}
use Rattle.score.proofs.Dates.{claimed_from}
use Rattle.score.proofs.Lines.{bounds}
use Rattle.score.proofs.Promises.{line_first, refused_with, scored_as, log_refused, log_scored, in_pieces}
use Rattle.score.proofs.Verdicts.{calling}
use Rattle.score_rooms.specs.Rooms.{line_told}
use Rattle.demands.specs.Editions.{FitTallies}
use Rattle.demands.proofs.Editions.{before_line, greatest, fit_tallies}

-- REQUEST 5, "Monthly score"

-- A lease line that is refused gives 21, whatever the log: it comes before 18 and 19, and reads no log.
pub score_line : (l : Lease) → is_lease l ≡ false → (r : Replay) → score_of l r ≡ refused_score 21
score_line = line_first

-- Where the lease line is taken, a log whose bytes are refused gives that number, and any other log is scored.
pub score_log :
    (l : Lease) (edition : ℕ) → is_lease l ≡ true → (bytes : List ℕ) (n : ℕ) → (replay_of (new_replay edition) bytes).refusal ≡ first n →
    score_of_log edition l bytes ≡ refused_score n
score_log = log_refused

pub score_month :
    (l : Lease) (edition : ℕ) → is_lease l ≡ true → (bytes : List ℕ) → (replay_of (new_replay edition) bytes).refusal ≡ nothing →
    score_of_log edition l bytes ≡ scored (month_of l (replay_of (new_replay edition) bytes).replay)
score_month = log_scored

-- No other numbers refuse a score: 21 for the lease line, or else the 18 or 19 that stopped the replay of its log.
pub score_refusals :
    (edition : ℕ) → is_edition edition ≡ true → (l : Lease) (bytes : List ℕ) → Bytes8 bytes → (n : ℕ) →
    score_of_log edition l bytes ≡ refused_score n → Refusing l (replay_of (new_replay edition) bytes).replay n
score_refusals edition known l bytes b n =
    refused_with l (replay_of (new_replay edition) bytes).replay (piece_valid (new_replay edition) (new_replay_valid edition known) bytes b) n

-- A score is of a lease line that was taken and of a replay that wasn't stopped, and served ≤ owed, day by day and in
-- the month.
pub score_given : (l : Lease) (r : Replay) (m : Month) → score_of l r ≡ scored m → Scoring l r m
score_given = scored_as

-- A day's claimed number is that of the day's part of the log, which began at a midnight with its number, or 0 where
-- there is no such part. So what ended before the first midnight serves no day.
pub score_days :
    (edition : ℕ) → is_edition edition ≡ true → (bytes : List ℕ) → Bytes8 bytes → (day : ℕ) →
    Claimed (replay_of (new_replay edition) bytes).replay day
score_days edition known bytes b day =
    claimed_from (replay_of (new_replay edition) bytes).replay (piece_valid (new_replay edition) (new_replay_valid edition known) bytes b) day

-- Where it isn't full, it is called "nothing owed" where it owes nothing, and else "short".
pub score_verdict : (l : Lease) → is_lease l ≡ true → (r : Replay) → Calling l r (verdict_of l r)
score_verdict l e r = calling l r (bounds l e).some_days

-- A log fed in pieces, cut anywhere, has the score of the uncut log.
pub score_cut :
    (l : Lease) (edition : ℕ) (ps : List (List ℕ)) → score_of l (replay_pieces (new_replay edition) ps).replay ≡ score_of_log edition l (uncut ps)
score_cut = in_pieces

-- REQUEST 10, "Lease rule, second edition"

-- The edition, 1 or 2, is judged before all else and then fixed: no word changes it.
pub edition_first : (edition : ℕ) → is_edition edition ≡ false → (l : Lease) → line_told edition l ≡ refuses 3
edition_first = before_line

pub edition_fixed : (s : Session) (ws : List ℕ) → (feed_of s ws).session.party.birth ≡ s.party.birth
edition_fixed = born

-- So do replays of the same bytes, whose parts have the same runs.
pub replays_agree : (a b : ℕ) (bytes : List ℕ) → ReplaysAgree (replay_of (new_replay a) bytes) (replay_of (new_replay b) bytes)
replays_agree = replay_editions

pub replays_runs :
    (a b : ℕ) (bytes : List ℕ) (k : ℕ) →
    (part_at (replay_of (new_replay a) bytes).replay k).runs ≡ (part_at (replay_of (new_replay b) bytes).replay k).runs
replays_runs a b bytes =
    part_runs (replay_of (new_replay a) bytes).replay (replay_of (new_replay b) bytes).replay (replay_editions a b bytes).replay

-- Edition 1 is what stood before: the pairs of the domain, times the set outputs that aren't silent.
pub edition_1 :
    (d : StartDomain) (mask : ℕ) (outputs : List Buffer) → claim_of 1 d mask outputs ≡ pairs_of d * count 4 (counts mask outputs)
edition_1 = first_claim

-- Under edition 2 an output with one channel is credited as under edition 1.
pub edition_one_channel :
    (mask : ℕ) (outputs : List Buffer) (n : ℕ) → channels_of (format_code (output outputs n).format) ≡ 1 →
    credit_at 2 mask outputs n ≡ credit_at 1 mask outputs n
edition_one_channel = one_channel

-- A start claims by edition 2 at least what it claims by edition 1, and at most four times it.
pub edition_least : (d : StartDomain) (mask : ℕ) (outputs : List Buffer) → claim_of 1 d mask outputs ≤ claim_of 2 d mask outputs
edition_least = claim_least

pub edition_four : (d : StartDomain) (mask : ℕ) (outputs : List Buffer) → claim_of 2 d mask outputs ≤ 4 * claim_of 1 d mask outputs
edition_four = claim_four

-- In every session that the entries give out a start claims at most 268,435,456 elements, so that 64 bits hold what the 1,000,000,000
-- words of a session can claim, and every tally on the way.
pub edition_greatest :
    (s : Session) → Reached s → claim_of s.party.birth.edition s.party.domain s.shared.mask (seen_by s) ≤ most_claim
edition_greatest = greatest

pub edition_bits : (s : Session) → Reached s → FitTallies s
edition_bits = fit_tallies
