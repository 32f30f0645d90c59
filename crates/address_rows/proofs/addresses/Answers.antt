-- `address_rows::addresses` meets its contract: by the table of places, by the bit rule, or as one run. Assumes nothing.
use lib.ListN.{length}
use Rattle.address_rows.proofs.Bytes.{row_of_bytes, row_by_places}
use Rattle.address_rows.proofs.Runs.{kind_arm}
use Rattle.address_rows.proofs.addresses.Goals as goal

pub by_places-requires : goal.by_places-requires
by_places-requires c =
    row_of_bytes _ _ _ _ _ _ _ c.if-tiled.true c.if-size-eq1.true c.requires

pub by_runs-requires : goal.by_runs-requires
by_runs-requires c = (kind_arm c.if-tiled.true c.requires, c.if-size-eq1.false)

pub linear-requires : goal.linear-requires
linear-requires c = kind_arm c.if-tiled.false c.requires

-- one-byte elements in tiles
pub returns-then-size-eq1 : goal.returns-then-size-eq1
returns-then-size-eq1 c =
    let args = c.args in
    row_by_places args.base args.size args.tiled args.stride args.x args.y (length args.room.now) _ c.if-tiled.true c.if-size-eq1.true c.by_places.ensures

pub returns-else-size-eq1 : goal.returns-else-size-eq1
returns-else-size-eq1 c = rw c.if-tiled.true c.by_runs.ensures

pub returns-else-tiled : goal.returns-else-tiled
returns-else-tiled c = rw c.if-tiled.false c.linear.ensures
