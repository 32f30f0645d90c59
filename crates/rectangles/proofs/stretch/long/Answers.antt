-- `rectangles::stretch::long` meets its contract: wide moves, and one that ends with the stretch. Assumes nothing.
use mathlib.Core.Path.{◌∙◌}
use Prim.Native.Nat.{◌-◌}
use native.Mathlib.Omega.{arith}
use Rattle.rectangles.proofs.Stretches.{stretch_start, part_asked, sums_fit, stretch_next, stretch_done, stretch_end}
use Rattle.rectangles.proofs.stretch.long.Goals as goal

pub overflow_sub-last : goal.overflow_sub-last
overflow_sub-last c = c.requires.1

pub loop-i-init : goal.loop-i-init
loop-i-init c = stretch_start _ _ _ _ _ _ c.requires.0

pub overflow_add-place : goal.overflow_add-place
overflow_add-place c = (sums_fit _ _ _ _ _ _ c.requires.0 _ _ c.loop-i.invariant _ c.loop-i.invariant.up).0

pub overflow_add-line : goal.overflow_add-line
overflow_add-line c = (sums_fit _ _ _ _ _ _ c.requires.0 _ _ c.loop-i.invariant _ c.loop-i.invariant.up).1

pub turn-requires : goal.turn-requires
turn-requires c =
    part_asked _ _ _ _ _ _ c.requires.0
    _ _ c.loop-i.invariant 32 (omega arith) (omega (arith, c.loop-i-test.true))

pub overflow_add-i : goal.overflow_add-i
overflow_add-i c =
    omega (arith, c.loop-i-test.true, c.requires.0.place_fits, c.requires.0.memory_most)

pub loop-i-smaller : goal.loop-i-smaller
loop-i-smaller c = omega (arith, c.loop-i-test.true)

pub loop-i-preserved : goal.loop-i-preserved
loop-i-preserved c =
    stretch_next _ _ _ _ _ _ c.requires.0 _ _ c.loop-i.invariant
    _ c.loop-i-test.true c.to-1.given c.turn.ensures

pub overflow_add-place-2 : goal.overflow_add-place-2
overflow_add-place-2 c =
    (sums_fit _ _ _ _ _ _ c.requires.0
    _ _ c.loop-i.invariant (c.args.n - 32) (omega arith)).0

pub overflow_add-line-2 : goal.overflow_add-line-2
overflow_add-line-2 c =
    (sums_fit _ _ _ _ _ _ c.requires.0
    _ _ c.loop-i.invariant (c.args.n - 32) (omega arith)).1

pub turn-requires-2 : goal.turn-requires-2
turn-requires-2 c =
    stretch_end _ _ _ _ _ _ c.requires.0 _ _ c.loop-i.invariant 32 (omega arith) c.requires.1

pub shape_of-to : goal.shape_of-to
shape_of-to c = c.to-2-1.given ∙ c.loop-i.invariant.long

pub returns : goal.returns
returns c =
    stretch_done _ _ _ _ _ _ c.requires.0 _ _ c.loop-i.invariant
    32 _ c.requires.1 c.loop-i-test.false c.turn-2.ensures
