-- `replay::bytes::may_begin` meets its contract. Assumes nothing.
use mathlib.Core.Path.{◌∙◌}
use borrow.Author.Tests.{eq-eqb, le-ltb}
use Rattle.replay.proofs.Midnights.{first_midnight, later_midnight, too_many}
use Rattle.replay.proofs.bytes.may_begin.Goals as goal

pub returns-then-midnights-eq0 : goal.returns-then-midnights-eq0
returns-then-midnights-eq0 c =
    eq-eqb _ 0 c.if-midnights-eq0.true ∙ first_midnight _ _ _ c.if-midnights-lt-MOST_MIDNIGHTS.true c.if-midnights-eq0.true

pub returns-else-midnights-eq0 : goal.returns-else-midnights-eq0
returns-else-midnights-eq0 c =
    rw (c.from.ensures, c.from-else-midnights-eq0.ensures)
    (later_midnight c.args.midnights c.args.last c.args.day c.if-midnights-lt-MOST_MIDNIGHTS.true c.if-midnights-eq0.false)

pub returns-else-midnights-lt-MOST_MIDNIGHTS : goal.returns-else-midnights-lt-MOST_MIDNIGHTS
returns-else-midnights-lt-MOST_MIDNIGHTS c =
    le-ltb _ _ c.if-midnights-lt-MOST_MIDNIGHTS.false ∙ too_many _ _ _ c.if-midnights-lt-MOST_MIDNIGHTS.false
