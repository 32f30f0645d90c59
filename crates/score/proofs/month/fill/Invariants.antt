-- `score::month::fill` meets its contract. Loop: the first days' numbers stand in the rooms, and are summed. Assumes nothing.
use Rattle.score.specs.Lease.{lease_of}
use Rattle.score.specs.Answers.{replay_for}
use Rattle.score.proofs.Filling.{Filling}
use Rattle.score.proofs.month.fill.Given as goal

abbrev pub invariant-loop-k : goal.invariant-loop-k
invariant-loop-k l =
    Filling (lease_of l.line) (replay_for l.log l.marks l.tallies) l.claimed l.served l.total l.k
