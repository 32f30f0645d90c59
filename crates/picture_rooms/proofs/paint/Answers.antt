-- `picture_rooms::paint` meets its contract. Assumes nothing.
use native.Mathlib.Omega.{arith}
use Rattle.picture_rooms.proofs.Judging.{goes_so, paint_asked}
use Rattle.picture_rooms.proofs.Entries.{paint_refused, paint_done, paint_empty}
use Rattle.picture_rooms.proofs.paint.Goals as goal

-- refused
pub returns-then-status-ne0 : goal.returns-then-status-ne0
returns-then-status-ne0 c = paint_refused _ _ _ _ _ _ _ _ _ c.judge-status.ensures c.if-status-ne0.true

pub carry-requires : goal.carry-requires
carry-requires c =
    paint_asked _ _ _ _ _ _ _ _ (goes_so _ _ _ _ _ _ _ _ _ c.judge-status.ensures c.if-status-ne0.false) c.if-room-gt0.true

-- painted
pub returns-then-room-gt0 : goal.returns-then-room-gt0
returns-then-room-gt0 c =
    paint_done _ _ _ _ _ _ _ _ _ c.judge-status.ensures c.if-status-ne0.false _ c.carry.ensures

-- a rectangle of no pairs
pub returns-else-room-gt0 : goal.returns-else-room-gt0
returns-else-room-gt0 c =
    paint_empty _ _ _ _ _ _ _ _ _ c.judge-status.ensures c.if-status-ne0.false (omega (arith, c.if-room-gt0.false))
