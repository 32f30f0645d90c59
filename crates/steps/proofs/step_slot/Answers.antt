-- `steps::step_slot` meets its contract: the first half of the step, and the second by its callee. Assumes nothing.
use Rattle.group.proofs.State.{given_masks}
use Rattle.stepper.proofs.Stepping.{slot_refused, slot_masks, slot_done}
use Rattle.steps.proofs.step_slot.Goals as goal

pub turn_if-active-requires : goal.turn_if-active-requires
turn_if-active-requires g c =
    given_masks c.args.cells.now c.requires.0

pub settle-requires : goal.settle-requires
settle-requires g c = (
  c.requires.0,
  c.requires.1,
  c.requires.2,
  slot_masks c.args.cells.now c.args.first c.args.second c.args.alu
      c.args.predicate c.args.booleans c.requires.0 c.turn_if-active.ensures,
)

-- the first word is allowed
pub returns-then-fits_first : goal.returns-then-fits_first
returns-then-fits_first g c =
    slot_done _ c.args.cells.now c.args.first c.args.second c.args.slots c.args.decision c.args.alu
    c.args.predicate c.args.booleans c.requires.0 c.fits_first.ensures
    c.turn_if-active.ensures c.if-fits_first.true c.wishes-wish.ensures c.decides-wanted.ensures
    c.unwrap_or-jump.ensures c.settle.ensures

-- it isn't
pub returns : goal.returns
returns g c =
    slot_refused _ c.args.cells.now c.args.first c.args.second c.args.slots c.args.decision c.args.alu
    c.args.predicate c.args.booleans c.requires.0 c.fits_first.ensures
    c.if-fits_first.false
