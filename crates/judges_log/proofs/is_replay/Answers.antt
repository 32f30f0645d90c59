-- `judges_log::is_replay` meets its contract: a yes is what the entries require. Assumes nothing.
use Rattle.judges_log.proofs.Replays.{midnights_few, replay_yes, replay_no}
use Rattle.judges_log.proofs.is_replay.Reads as reads
use Rattle.judges_log.proofs.is_replay.Lts as lts
use Rattle.judges.proofs.is_session.Reads as is_session_reads
use Rattle.judges.proofs.tests.both.Reads as both_reads
use Rattle.judges_log.proofs.marks.are_kept.Reads as marks_are_kept_reads
use Rattle.judges_log.proofs.numbers.are_kept.Reads as numbers_are_kept_reads
use Rattle.judges_log.proofs.is_replay.Goals as goal

pub are_kept-requires-then-are_kept : goal.are_kept-requires-then-are_kept
are_kept-requires-then-are_kept c =
    midnights_few _ c.are_kept.ensures c.if-are_kept.true

pub returns-then-are_kept : goal.returns-then-are_kept
returns-then-are_kept c =
    replay_yes _ _ _ _ _ c.are_kept.ensures c.requires c.if-are_kept.true
    c.is_session-session.ensures c.are_kept-then-are_kept.ensures c.both.ensures

pub returns-else-are_kept : goal.returns-else-are_kept
returns-else-are_kept c = replay_no _ _ _ _ _ c.are_kept.ensures c.if-are_kept.false
