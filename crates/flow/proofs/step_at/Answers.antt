-- `flow::step_at` meets its contract: the program's end, then the slot at the position by its op. Assumes nothing.
use mathlib.Core.Path.{sym, ◌∙◌}
use Rattle.stepper.proofs.Words.{low_field}
use Rattle.stepper.proofs.Stepping.{word_here, step_ended, step_many, step_forbidden, step_jump, step_loop}
use Rattle.flow.proofs.step_at.Goals as goal

-- the program has ended
pub returns-then-slots-here : goal.returns-then-slots-here
returns-then-slots-here g c =
    step_ended c.args.cells.now c.args.firsts.now c.args.seconds.now c.args.slots c.args.alu
    c.args.predicate c.args.booleans c.args.integers.now c.if-slots-here.true

-- more slots than a store has
pub returns-then-slots-gt-STORE_SLOTS : goal.returns-then-slots-gt-STORE_SLOTS
returns-then-slots-gt-STORE_SLOTS g c =
    step_many c.args.cells.now c.args.firsts.now c.args.seconds.now c.args.slots c.args.alu
    c.args.predicate c.args.booleans c.args.integers.now c.if-slots-here.false c.if-slots-gt-STORE_SLOTS.true

pub jump_slot-requires : goal.jump_slot-requires
jump_slot-requires g c =
    (c.requires, c.if-slots-here.false, c.if-slots-gt-STORE_SLOTS.false, sym (low_field (word_here c.args.firsts.now c.args.cells.now)) ∙ c.if-first-eq0.true)

-- op 0
pub returns-then-first-eq0 : goal.returns-then-first-eq0
returns-then-first-eq0 g c =
    step_jump c.args.cells.now c.args.firsts.now c.args.seconds.now c.args.slots c.args.alu
    c.args.predicate c.args.booleans c.args.integers.now
    c.if-slots-here.false c.if-slots-gt-STORE_SLOTS.false c.permitted.ensures c.if-permitted.true c.if-first-eq0.true c.jump_slot.ensures

-- another op
pub returns-then-permitted : goal.returns-then-permitted
returns-then-permitted g c =
    step_loop c.args.cells.now c.args.firsts.now c.args.seconds.now c.args.slots c.args.alu
    c.args.predicate c.args.booleans c.args.integers.now
    c.if-slots-here.false c.if-slots-gt-STORE_SLOTS.false c.permitted.ensures c.if-permitted.true c.if-first-eq0.false
    c.word_at-word.ensures c.loop_slot.ensures

-- the mode forbids the first word
pub returns : goal.returns
returns g c =
    step_forbidden c.args.cells.now c.args.firsts.now c.args.seconds.now c.args.slots c.args.alu
    c.args.predicate c.args.booleans c.args.integers.now
    c.if-slots-here.false c.if-slots-gt-STORE_SLOTS.false c.permitted.ensures c.if-permitted.false
