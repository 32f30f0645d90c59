-- `session_rooms::begin` meets its contract. Assumes nothing.
use mathlib.Core.Path.{sym, subst}
use Prim.Native.Nat.{ℕ}
use Rattle.session.specs.Answers.{Begins}
use Rattle.session_rooms.proofs.begin.Goals as goal

pub returns-in-Err : goal.returns-in-Err
returns-in-Err c =
    subst
    (λ (n : ℕ). Begins c.args.edition n c.args.own.now c.args.tallies.now c.args.shared.now c.begin.new.own c.begin.new.tallies c.begin.new.shared)
    (sym c.from.ensures) c.in-Err.ensures
