-- `session::stream::take_commands` meets its contract: each turn takes a whole command. Assumes nothing.
use Prim.Native.Nat.{◌-◌, ◌≤◌}
use lib.ListN.{drop}
use Rattle.state.specs.Cells.{session_of}
use Rattle.session.specs.Asked.{Fold, Reach}
use Rattle.session.proofs.stream.take_commands.Given as goal

abbrev pub invariant-loop-taken : goal.invariant-loop-taken
invariant-loop-taken l =
    Fold (session_of l.initial.own l.initial.tallies l.initial.shared) (drop l.from l.words) l.own l.tallies l.shared l.taken l.commands × (Reach l.own (l.room - l.taken) × (l.taken ≤ l.room))

abbrev pub decreases-loop-taken : goal.decreases-loop-taken
decreases-loop-taken l = l.room - l.taken
