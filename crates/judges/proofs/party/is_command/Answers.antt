-- `judges::party::is_command` meets its contract: none is open, or one of a line that there is. Assumes nothing.
use native.Mathlib.Omega.{arith}
use Rattle.state.specs.Cells.{party_of}
use Rattle.judges.specs.Judged.{closed_by}
use Rattle.judges.proofs.Valid.{none_open, no_line, some_open}
use Rattle.judges.proofs.party.is_command.Goals as goal

pub returns-then-own-eq-NO_LINE : goal.returns-then-own-eq-NO_LINE
unfolding closed_by party_of
returns-then-own-eq-NO_LINE c =
    none_open _ _ _ _ c.if-own-eq-NO_LINE.true c.is_closed.ensures

pub returns-then-own-gt-NO_LINE : goal.returns-then-own-gt-NO_LINE
unfolding party_of
returns-then-own-gt-NO_LINE c = no_line _ _ _ _ c.if-own-gt-NO_LINE.true

pub is_running-requires : goal.is_running-requires
unfolding party_of
is_running-requires c = omega (arith, c.if-own-eq-NO_LINE.false, c.if-own-gt-NO_LINE.false)

pub returns : goal.returns
unfolding party_of
returns c = some_open _ _ _ _ c.if-own-eq-NO_LINE.false c.if-own-gt-NO_LINE.false c.is_running.ensures
