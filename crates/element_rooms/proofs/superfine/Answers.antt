-- `element_rooms::superfine` meets its contract: each answer crosses as it is told. Assumes nothing.
use native.Mathlib.Omega.{arith}
use Rattle.element_rooms.proofs.Readings.{bytes_few, superfine_given, superfine_refused}
use Rattle.element_rooms.proofs.superfine.Goals as goal

pub overflow_cast-count : goal.overflow_cast-count
overflow_cast-count c = record { fits = omega (arith, bytes_few _ _ c.superfine-reading.ensures _ c.in-Bytes.is) }

pub returns-in-Refused : goal.returns-in-Refused
returns-in-Refused c =
    superfine_refused _ _ c.superfine-reading.ensures _ c.in-Refused.is _
    c.from.ensures _ _

pub returns-in-Bytes : goal.returns-in-Bytes
returns-in-Bytes c = superfine_given _ _ c.superfine-reading.ensures _ c.in-Bytes.is _ _
