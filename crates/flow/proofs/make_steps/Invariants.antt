-- `flow::make_steps` meets its contract. Loop: the whole is the steps made so far, and then the steps of the masks left. Assumes nothing.
use mathlib.Core.Path.{◌≡◌}
use Prim.Native.Nat.{◌*◌}
use lib.ListN.{drop}
use Rattle.group.specs.Group.{group_steps}
use Rattle.group.specs.Cells.{mode_in, group_of, GroupGiven}
use Rattle.stepper.specs.Answers.{program_of}
use Rattle.flow.specs.Answers.{steps_in}
use Rattle.flow.proofs.Running.{plus}
use Rattle.flow.proofs.make_steps.Given as goal

abbrev pub invariant-loop-made : goal.invariant-loop-made
invariant-loop-made l =
    (GroupGiven l.cells) × (mode_in l.cells ≡ mode_in l.initial.cells) ×
    (steps_in l.firsts l.seconds l.slots l.initial.cells l.masks l.booleans l.integers ≡
    plus l.made (group_steps (mode_in l.initial.cells) (program_of l.firsts l.seconds l.slots l.integers) l.booleans (drop (l.made * 2) l.masks) (group_of l.cells)))
