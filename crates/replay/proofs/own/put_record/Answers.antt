-- `replay::own::put_record` meets its contract. Assumes nothing.
use Rattle.replay.proofs.Changes.{put}
use Rattle.replay.proofs.own.put_record.Goals as goal

pub returns : goal.returns
returns c = put _ _ _ c.told-log
