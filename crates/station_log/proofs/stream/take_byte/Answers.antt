-- `log::stream::take_byte` meets its contract. Assumes nothing.
use native.Mathlib.Omega.{arith}
use Rattle.station_log.proofs.Singles.{byte_grown, still_given, byte_read}
use Rattle.station_log.proofs.stream.take_byte.Goals as goal

-- it only added to a record
pub returns-then-grows : goal.returns-then-grows
returns-then-grows c =
    byte_grown _ _ _ _ _ c.requires _ _ c.from-number.ensures _ _ c.grows.ensures c.if-grows.true

pub read_byte-requires : goal.read_byte-requires
read_byte-requires c = (
  still_given _ _ _ _ _ c.requires _ _ c.from-number.ensures _ _ c.grows.ensures c.if-grows.false,
  (omega arith),
)

-- it was read
pub returns : goal.returns
returns c =
    byte_read _ _ _ _ _ c.requires _ _ c.from-number.ensures _ _ c.grows.ensures c.if-grows.false (omega arith) _ _ _ _ _ _
    c.read_byte.ensures
