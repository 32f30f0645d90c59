-- `session::stream::feed` meets its contract: each turn takes the commands that lie whole, and one word. Assumes nothing.
use Prim.Native.Nat.{◌-◌}
use lib.ListN.{length}
use Rattle.state.specs.Cells.{session_of}
use Rattle.session.specs.Asked.{Fold}
use Rattle.session.proofs.stream.feed.Given as goal

abbrev pub invariant-loop-i : goal.invariant-loop-i
invariant-loop-i l =
    Fold (session_of l.initial.own l.initial.tallies l.initial.shared) l.words l.own l.tallies l.shared l.i l.commands

abbrev pub decreases-loop-i : goal.decreases-loop-i
decreases-loop-i l = length l.words - l.i
