-- `judges_pair::is_pair` meets its contract: a yes is what the entries require. Assumes nothing.
use Rattle.judges.proofs.Joined.{both_is}
use Rattle.judges_pair.proofs.Pairs.{pair_judged}
use Rattle.judges_pair.proofs.is_pair.Goals as goal

pub returns : goal.returns
returns c =
    pair_judged _ _ _ _ _ c.is_session-first.ensures c.is_session-second.ensures
    c.are_apart.ensures (both_is _ _) (both_is _ _)
