-- `rectangles::parts::carry` meets its contract. Assumes nothing.
use mathlib.Core.Path.{◌∙◌}
use Prim.Native.Nat.{◌-◌}
use native.Mathlib.Omega.{arith}
use Rattle.memory.proofs.Copies.{put_back}
use Rattle.rectangles.proofs.Moves.{held_part, part_long, part_to, part_end}
use Rattle.rectangles.proofs.parts.carry.Goals as goal

pub returns : goal.returns
returns c =
    put_back _ _ _ _ _
    (c.store_all.ensures ∙ held_part _ _ (c.args.n - 0) c.args.n c.hold-held.ensures (part_long _ _ _ c.requires.0) c.requires.2 (omega arith)
    ∙ part_to c.args.from.now c.args.a c.args.n)
    (part_end c.args.from.now _ c.args.a _ c.requires.0)
