-- `judges::is_session` meets its contract: a yes is what the entries require. Assumes nothing.
use Rattle.judges.proofs.Joined.{both_is}
use Rattle.judges.proofs.Valid.{judged_yes, judged_no, work_asked}
use Rattle.judges.proofs.is_session.Goals as goal

pub is_kept-requires-then-is_kept : goal.is_kept-requires-then-is_kept
is_kept-requires-then-is_kept c =
    work_asked _ _ _ c.requires c.is_kept.ensures c.if-is_kept.true

pub returns-then-is_kept : goal.returns-then-is_kept
returns-then-is_kept c =
    judged_yes _ _ _ c.requires c.is_kept.ensures c.if-is_kept.true
    c.are_kept.ensures c.is_kept-then-is_kept.ensures (both_is _ _)

pub returns-else-is_kept : goal.returns-else-is_kept
returns-else-is_kept c = judged_no _ _ _ c.requires c.is_kept.ensures c.if-is_kept.false
