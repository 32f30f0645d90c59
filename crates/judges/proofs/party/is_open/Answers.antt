-- `judges::party::is_open` meets its contract: fewer parameters than the line has, each passed. Assumes nothing.
use mathlib.Core.Path.{refl, ap}
use lib.Dec.{ltb}
use Rattle.judges.specs.Judged.{open_by}
use Rattle.judges.proofs.Joined.{together}
use Rattle.judges.proofs.party.is_open.Goals as goal

pub returns : goal.returns
unfolding open_by
returns c =
    together (ap (ltb c.args.count) c.parameters.ensures)
    (together c.passed-first.ensures
    (together c.passed-second.ensures
    (together c.passed-third.ensures refl)))
