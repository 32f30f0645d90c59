-- `rules::writer::put` meets its contract: the stores on the way are those of the words at the room's front.
-- Assumes nothing.
use mathlib.Core.List.{[], ◌∷◌}
use native.Mathlib.Omega.{arith}
use lib.Dec.{lit≤}
use lib.ListN.{length-set}
use Rattle.rules.proofs.Room.{front}
use Rattle.rules.proofs.writer.put.Goals as goal

pub bounds-room-1 : goal.bounds-room-1
bounds-room-1 c = simp length-set (omega arith)

pub shape_of-room-then-count-lt2 : goal.shape_of-room-then-count-lt2
shape_of-room-then-count-lt2 c = simp length-set

pub returns-then-count-lt2 : goal.returns-then-count-lt2
returns-then-count-lt2 c =
    let a = c.args in
    front a.room.now a.first a.count 1 (a.places.0 ∷ a.places.1 ∷ a.places.2 ∷ a.places.3 ∷ []) (omega arith) (lit≤ tt) (omega arith)

pub bounds-room-2 : goal.bounds-room-2
bounds-room-2 c = simp length-set (omega arith)

pub shape_of-room-then-count-lt3 : goal.shape_of-room-then-count-lt3
shape_of-room-then-count-lt3 c = simp length-set

pub returns-then-count-lt3 : goal.returns-then-count-lt3
returns-then-count-lt3 c =
    let a = c.args in
    front a.room.now a.first a.count 2 (a.places.0 ∷ a.places.1 ∷ a.places.2 ∷ a.places.3 ∷ []) (omega arith) (lit≤ tt) (omega arith)

pub bounds-room-3 : goal.bounds-room-3
bounds-room-3 c = simp length-set (omega arith)

pub shape_of-room-then-count-lt4 : goal.shape_of-room-then-count-lt4
shape_of-room-then-count-lt4 c = simp length-set

pub returns-then-count-lt4 : goal.returns-then-count-lt4
returns-then-count-lt4 c =
    let a = c.args in
    front a.room.now a.first a.count 3 (a.places.0 ∷ a.places.1 ∷ a.places.2 ∷ a.places.3 ∷ []) (omega arith) (lit≤ tt) (omega arith)

pub bounds-room-4 : goal.bounds-room-4
bounds-room-4 c = simp length-set (omega arith)

pub shape_of-room : goal.shape_of-room
shape_of-room c = simp length-set

pub returns : goal.returns
returns c =
    let a = c.args in
    front a.room.now a.first a.count 4 (a.places.0 ∷ a.places.1 ∷ a.places.2 ∷ a.places.3 ∷ []) (omega arith) (lit≤ tt) (omega arith)
