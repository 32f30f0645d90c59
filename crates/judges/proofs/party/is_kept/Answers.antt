-- `judges::party::is_kept` meets its contract: each of its tests. Assumes nothing.
use Rattle.state.specs.Cells.{party_of}
use Rattle.judges.specs.Judged.{party_by}
use Rattle.judges.proofs.Joined.{both_is, together}
use Rattle.judges.proofs.party.is_kept.Goals as goal

pub returns : goal.returns
unfolding party_by party_of
returns c =
    together (both_is _ _)
    (together c.is_command-command.ensures
    (together c.is_domain-domain.ensures
    (together c.is_row-instructions.ensures
    (together c.is_birth-birth.ensures c.is_tally-tally.ensures))))
