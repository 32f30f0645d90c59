-- `element_rooms::read` meets its contract: each arm hands over its size. Assumes nothing.
use Rattle.element_rooms.proofs.Sized.{read_at, read_no, unsized}
use Rattle.element_rooms.proofs.read.Goals as goal

pub returns-in-1 : goal.returns-in-1
returns-in-1 c = read_at _ _ _ _ _ _ _ _ _ _ _ _ _ c.in-1.is c.read_sized.ensures

pub returns-in-2 : goal.returns-in-2
returns-in-2 c = read_at _ _ _ _ _ _ _ _ _ _ _ _ _ c.in-2.is c.read_sized-in-2.ensures

pub returns-in-4 : goal.returns-in-4
returns-in-4 c = read_at _ _ _ _ _ _ _ _ _ _ _ _ _ c.in-4.is c.read_sized-in-4.ensures

pub returns-in-8 : goal.returns-in-8
returns-in-8 c = read_at _ _ _ _ _ _ _ _ _ _ _ _ _ c.in-8.is c.read_sized-in-8.ensures

pub returns-in-16 : goal.returns-in-16
returns-in-16 c = read_at _ _ _ _ _ _ _ _ _ _ _ _ _ c.in-16.is c.read_sized-in-16.ensures

pub returns-in_default : goal.returns-in_default
returns-in_default c = read_no _ _ _ _ _ _ _ _ (unsized _ _ _ _ _ _ _ _ _ c.in_default.in_default-own.rest) c.from.ensures
