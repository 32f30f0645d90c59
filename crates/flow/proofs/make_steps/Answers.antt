-- `flow::make_steps` meets its contract. Loop: the whole is the steps made so far, and then the steps of the masks left. Assumes nothing.
use mathlib.Core.Path.{refl, ap, ◌∙◌}
use native.Mathlib.Omega.{arith}
use Rattle.std.proofs.lemmas.Result.{err_from_is_err_and}
use Rattle.flow.specs.Answers.{steps_in}
use Rattle.flow.proofs.Running.{plus_zero, turns_ended, turns_out, turns_refused, turns_again, one_made, made_step}
use Rattle.flow.proofs.make_steps.Goals as goal

pub loop-made-init : goal.loop-made-init
loop-made-init c = (
  c.requires,
  refl,
  plus_zero
      (steps_in c.args.firsts.now c.args.seconds.now c.args.slots c.args.cells.now c.args.masks.now
      c.args.booleans c.args.integers.now),
)

pub returns-then-slots-cells : goal.returns-then-slots-cells
returns-then-slots-cells c =
    turns_ended c.args.firsts.now c.args.seconds.now c.args.slots c.args.booleans c.args.masks.now c.args.integers.now
    c.args.cells.now c.loop-made.made c.loop-made.cells c.loop-made.invariant.1 c.loop-made.invariant.2
    c.if-slots-cells.true c.loop-made.invariant.0

pub step_at-requires : goal.step_at-requires
step_at-requires c = c.loop-made.invariant.0

pub returns-in_err-step_at : goal.returns-in_err-step_at
returns-in_err-step_at c =
    let p = err_from_is_err_and c.from_residual.result c.from_residual.ensures.1 in
    let done = one_made c.loop-made.cells c.args.firsts.now c.args.seconds.now c.args.slots _ _ c.args.booleans c.args.integers.now
    c.loop-made.invariant.0 c.step_at.ensures in
    rw (p.1, p.2)
    (turns_refused c.args.firsts.now c.args.seconds.now c.args.slots c.args.booleans c.args.masks.now c.args.integers.now
    c.args.cells.now c.loop-made.made c.loop-made.cells c.loop-made.invariant.1 c.loop-made.invariant.2
    (omega arith) c.if-slots-cells.false done (ap made_step c.in_err-step_at.was))

pub loop-made-preserved : goal.loop-made-preserved
loop-made-preserved c =
    let done = one_made c.loop-made.cells c.args.firsts.now c.args.seconds.now c.args.slots _ _ c.args.booleans c.args.integers.now
    c.loop-made.invariant.0 c.step_at.ensures in (
      done.given,
      done.mode ∙ c.loop-made.invariant.1,
      turns_again c.args.firsts.now c.args.seconds.now c.args.slots c.args.booleans c.args.masks.now c.args.integers.now
          c.args.cells.now c.loop-made.made c.loop-made.cells c.loop-made.invariant.1 c.loop-made.invariant.2
          (omega arith) c.if-slots-cells.false done (ap made_step c.in_ok-step_at.was),
    )

pub returns : goal.returns
returns c =
    turns_out c.args.firsts.now c.args.seconds.now c.args.slots c.args.booleans c.args.masks.now c.args.integers.now
    c.args.cells.now c.loop-made.made c.loop-made.cells c.loop-made.invariant.1 c.loop-made.invariant.2
    (omega arith) (omega arith) c.loop-made.invariant.0
