-- `lessees::rooms::feed` meets its contract. Assumes nothing.
use mathlib.Core.Path.{sym, subst}
use Prim.Native.Nat.{ℕ}
use Rattle.lessees.specs.Rooms.{PairFeeds}
use Rattle.lessees.proofs.rooms.feed.Goals as goal

pub returns-in-Err : goal.returns-in-Err
returns-in-Err c =
    subst
    (λ (n : ℕ). PairFeeds c.args.words.now c.args.parties.now n c.args.own0.now c.args.tallies0.now c.args.own1.now c.args.tallies1.now c.args.shared.now c.args.fed.now c.feed.new.own0 c.feed.new.tallies0 c.feed.new.own1 c.feed.new.tallies1 c.feed.new.shared c.feed.new.fed)
    (sym c.from.ensures) c.in-Err.ensures
