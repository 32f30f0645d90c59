-- `session::stream::reach` meets its contract. Assumes nothing.
use native.Mathlib.Omega.{arith}
use Rattle.state.specs.Cells.{party_of}
use Rattle.session.proofs.Feeding.{no_reach}
use Rattle.session.proofs.stream.reach.Goals as goal

pub returns-then-own-eq1 : goal.returns-then-own-eq1
returns-then-own-eq1 c = (omega arith, no_reach _)

pub returns-then-line-ne-NO_LINE : goal.returns-then-line-ne-NO_LINE
returns-then-line-ne-NO_LINE c = (omega arith, no_reach _)

pub overflow_sub-room : goal.overflow_sub-room
unfolding party_of
overflow_sub-room c = omega (arith, c.requires)

pub returns-then-room-left : goal.returns-then-room-left
unfolding party_of
returns-then-room-left c = (
  omega (arith, c.if-room-left.true),
  record { running = λ q. c.if-own-eq1.false; unopened = λ q. c.if-line-ne-NO_LINE.false; room = λ q. omega (arith, c.requires) },
)

pub returns : goal.returns
unfolding party_of
returns c = (
  omega arith,
  record { running = λ q. c.if-own-eq1.false; unopened = λ q. c.if-line-ne-NO_LINE.false; room = λ q. omega (arith, c.if-room-left.false, c.requires) },
)
