-- `lessees::feed` meets its contract: the parties' numbers are judged before anything is touched. Assumes nothing.
use mathlib.Core.Path.{refl}
use native.Mathlib.Omega.{arith}
use Rattle.lessees.proofs.Folding.{feeds, feeds_not}
use Rattle.lessees.proofs.feed.Goals as goal

pub take_runs-requires : goal.take_runs-requires
take_runs-requires c = (c.requires, omega (arith, c.if-parties-groups.true))

pub returns-then-parties-groups : goal.returns-then-parties-groups
returns-then-parties-groups c = feeds (omega (arith, c.if-parties-groups.true)) c.take_runs.ensures

pub returns : goal.returns
returns c = feeds_not (λ e. c.if-parties-groups.false (omega arith)) refl
