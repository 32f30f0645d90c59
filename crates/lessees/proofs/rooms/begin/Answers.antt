-- `lessees::rooms::begin` meets its contract. Assumes nothing.
use mathlib.Core.Path.{sym, subst}
use Prim.Native.Nat.{ℕ}
use Rattle.lessees.specs.Rooms.{PairBegins}
use Rattle.lessees.proofs.rooms.begin.Goals as goal

pub returns-in-Err : goal.returns-in-Err
returns-in-Err c =
    subst
    (λ (n : ℕ). PairBegins c.args.inputs c.args.outputs c.args.edition n c.args.own0.now c.args.tallies0.now c.args.own1.now c.args.tallies1.now c.args.shared.now c.begin.new.own0 c.begin.new.tallies0 c.begin.new.own1 c.begin.new.tallies1 c.begin.new.shared)
    (sym c.from.ensures) c.in-Err.ensures
