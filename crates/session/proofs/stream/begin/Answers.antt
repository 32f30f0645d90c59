-- `session::stream::begin` meets its contract. Assumes nothing.
use mathlib.Core.Path.{refl}
use Rattle.session.proofs.Taking.{begins, begins_not}
use Rattle.session.proofs.stream.begin.Goals as goal

pub returns-then-is_known : goal.returns-then-is_known
returns-then-is_known c =
    -- the edition is one of the two, and the session was made
    begins _ c.is_known.ensures c.if-is_known.true c.make.ensures

pub returns : goal.returns
returns c =
    -- it is neither, and nothing was touched
    begins_not _ c.is_known.ensures c.if-is_known.false refl
