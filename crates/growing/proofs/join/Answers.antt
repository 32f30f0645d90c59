-- `growing::join` meets its contract. Assumes nothing.
use mathlib.Core.Path.{refl}
use Rattle.growing.proofs.Adding.{apart_editions, too_many, may_join, joined_as}
use Rattle.growing.proofs.join.Goals as goal

pub returns-then-edition-other : goal.returns-then-edition-other
returns-then-edition-other c =
    apart_editions _ c.args.other.now c.if-edition-other.true refl

pub returns-then-count-gt-MOST_STATIONS : goal.returns-then-count-gt-MOST_STATIONS
returns-then-count-gt-MOST_STATIONS c =
    too_many _ c.args.other.now c.if-edition-other.false c.if-count-gt-MOST_STATIONS.true refl

pub join_fleets-fleet-requires : goal.join_fleets-fleet-requires
join_fleets-fleet-requires c =
    may_join _ c.args.other.now c.if-edition-other.false c.if-count-gt-MOST_STATIONS.false c.requires.0 c.requires.1
    c.totals_in.ensures c.totals_in-2.ensures

pub returns : goal.returns
returns c =
    joined_as _ c.args.other.now c.if-edition-other.false c.if-count-gt-MOST_STATIONS.false c.totals_in.ensures
    c.totals_in-2.ensures c.join_fleets-fleet.ensures c.put.ensures
