-- `steps::loop_slot` meets its contract: the words, the loop's turn, the rest of the step, and the loops last. Assumes nothing.
use Rattle.group.proofs.State.{given_loops}
use Rattle.std.proofs.lemmas.Result.{err_from_is_err_and}
use Rattle.stepper.proofs.Stepping.{loop_bad, loop_stops, loop_refused, loop_stored}
use Rattle.steps.proofs.loop_slot.Goals as goal

pub turn-requires : goal.turn-requires
turn-requires c =
    given_loops c.args.cells.now c.requires.0

-- the loop is refused
pub returns-in_err-t : goal.returns-in_err-t
returns-in_err-t c =
    let p = err_from_is_err_and c.from_residual.result c.from_residual.ensures.1 in
    rw (p.1, p.2)
    (loop_stops c.args.cells.now c.args.first c.args.second c.args.slots c.args.word c.args.alu
    c.args.predicate c.args.booleans c.allowed_loop.ensures c.if-allowed_loop.true c.turn.ensures c.in_err-t.was)

-- the rest of the step is refused
pub returns-in_err-jumped : goal.returns-in_err-jumped
returns-in_err-jumped c =
    let p = err_from_is_err_and c.from_residual-in_err-jumped.result c.from_residual-in_err-jumped.ensures.1 in
    rw (p.1, p.2)
    (loop_refused c.args.cells.now c.args.first c.args.second c.args.slots c.args.word c.args.alu
    c.args.predicate c.args.booleans c.allowed_loop.ensures c.if-allowed_loop.true c.turn.ensures
    c.in_ok-t.was c.step_slot.ensures c.in_err-jumped.was)

-- the step is made, and the loops are stored
pub returns-then-allowed_loop : goal.returns-then-allowed_loop
returns-then-allowed_loop c =
    loop_stored c.args.cells.now c.args.first c.args.second c.args.slots c.args.word c.args.alu
    c.args.predicate c.args.booleans c.allowed_loop.ensures c.if-allowed_loop.true c.turn.ensures
    c.in_ok-t.was c.step_slot.ensures c.in_ok-jumped.was
    c.put_loops.ensures

-- the words aren't allowed
pub returns : goal.returns
returns c =
    loop_bad c.args.cells.now c.args.first c.args.second c.args.slots c.args.word c.args.alu
    c.args.predicate c.args.booleans c.allowed_loop.ensures c.if-allowed_loop.false
