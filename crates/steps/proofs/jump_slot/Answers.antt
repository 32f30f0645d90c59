-- `steps::jump_slot` meets its contract: the second word, and then the step that the wishes decide. Assumes nothing.
use Rattle.stepper.proofs.Stepping.{jump_refused, jump_done}
use Rattle.steps.proofs.jump_slot.Goals as goal

pub step_slot-requires : goal.step_slot-requires
step_slot-requires g c =
    (c.requires.0, c.requires.1, c.requires.2)

-- the second word is allowed
pub returns-then-plain_second : goal.returns-then-plain_second
returns-then-plain_second g c =
    jump_done _ c.args.cells.now c.args.first c.args.second c.args.slots c.args.alu c.args.predicate
    c.args.booleans c.requires.3 c.plain_second.ensures c.if-plain_second.true c.step_slot.ensures

-- it isn't
pub returns : goal.returns
returns g c =
    jump_refused _ c.args.cells.now c.args.first c.args.second c.args.slots c.args.alu c.args.predicate
    c.args.booleans c.requires.3 c.plain_second.ensures c.if-plain_second.false
