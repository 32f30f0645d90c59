-- `picture_rooms::copy_out` meets its contract. Assumes nothing.
use native.Mathlib.Omega.{arith}
use Rattle.picture_rooms.proofs.Judging.{goes_so, copy_asked}
use Rattle.picture_rooms.proofs.Entries.{copy_refused, copy_done, copy_empty}
use Rattle.picture_rooms.proofs.copy_out.Goals as goal

-- refused
pub returns-then-status-ne0 : goal.returns-then-status-ne0
returns-then-status-ne0 c =
    let args = c.args in
    copy_refused _ _ _ _ _ _ args.room.now args.memory.now _ c.judge-status.ensures c.if-status-ne0.true

pub carry-requires : goal.carry-requires
carry-requires c =
    copy_asked _ _ _ _ _ _ _ _ (goes_so _ _ _ _ _ _ _ _ _ c.judge-status.ensures c.if-status-ne0.false) c.if-room-gt0.true

-- copied
pub returns-then-room-gt0 : goal.returns-then-room-gt0
returns-then-room-gt0 c =
    let args = c.args in
    copy_done _ _ _ _ _ _ args.room.now args.memory.now _ c.judge-status.ensures c.if-status-ne0.false c.if-room-gt0.true _ c.carry.ensures

-- a rectangle of no pairs
pub returns-else-room-gt0 : goal.returns-else-room-gt0
returns-else-room-gt0 c =
    let args = c.args in
    copy_empty _ _ _ _ _ _ args.room.now args.memory.now _ c.judge-status.ensures c.if-status-ne0.false (omega (arith, c.if-room-gt0.false))
