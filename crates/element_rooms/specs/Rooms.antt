-- Elements as a status and rooms: bytes read stand in a room of 16, zeros after them. Assumes nothing.
use Rattle.std.specs.Prelude.{◌≡◌, List, ℕ}
use Rattle.refusal.specs.Told.{Told, gives, refuses}
use Rattle.layout.specs.declared.Layout.{Layout}
use Rattle.memory.specs.Elements.{write_of, memory_after}
use Rattle.memory.specs.Answers.{count_told, filled}
use Rattle.refusal.specs.Crossing.{Crosses, status_of}

-- the bytes of an answer in a room of 16
abbrev pub in_sixteen : Told → Told
in_sixteen (gives values) = gives (filled (gives values))
in_sixteen (refuses number) = refuses number

pub record SuperfineCrosses (t : Told) (r : ℕ) (bytes bytes' count count' : List ℕ) : Type 0 where
  pub answer : Crosses (in_sixteen t) r bytes bytes'
  pub number : Crosses (count_told t) r count count'

-- a call of the element writer: its status, and memory before and after
pub record WriteCrosses (l : Layout) (x y first : ℕ) (given : List ℕ) (r : ℕ) (before after : List ℕ) : Type 0 where
  pub status : r ≡ status_of (write_of l x y first given before)
  pub memory : after ≡ memory_after (write_of l x y first given before) l x y first given before
