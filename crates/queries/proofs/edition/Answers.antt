-- `queries::edition` meets its contract: it reads the cell that the view reads. Assumes nothing.
use mathlib.Core.Path.{refl}
use Rattle.state.specs.Cells.{party_of, shared_of}
use Rattle.queries.proofs.edition.Goals as goal

pub returns : goal.returns
unfolding party_of shared_of
returns c = refl
