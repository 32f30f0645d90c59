-- Rectangles of a window in document 01's terms: the elements that a room gives to its pairs, and the reads of its pairs. Assumes nothing.
use Rattle.std.specs.Prelude.{List, [], ◌++◌, ℕ, zero, suc, ◌+◌, ◌-◌, ◌*◌, take, drop}
use Rattle.layout.specs.declared.Layout.{Layout}
use Rattle.memory.specs.Elements.{element_of}
use Rattle.picture.specs.Picture.{Scene}

-- the element that a room gives to a pair of the rectangle whose first pair is (x, y): they stand row by row, `w` to a row
abbrev pub given_at : ℕ → ℕ → ℕ → ℕ → List ℕ → ℕ → ℕ → List ℕ
given_at s x y w room x' y' = take s (drop (((y' - y) * w + (x' - x)) * s) room)

-- one output, with these elements
abbrev pub scene_of : Layout → ℕ → ℕ → ℕ → List ℕ → Scene
scene_of l x y w room = record { window = λ o. l; element = λ o x' y'. given_at l.size x y w room x' y' }

-- the reads of `w` pairs of a row, and of `h` rows of them, one after the other
abbrev pub row_reads : Layout → ℕ → ℕ → ℕ → ℕ → List ℕ → List ℕ
row_reads l x zero y first m = []
row_reads l x (suc w) y first m = element_of l x y first m ++ row_reads l (suc x) w y first m

unfoldable pub reads_of : Layout → ℕ → ℕ → ℕ → ℕ → ℕ → List ℕ → List ℕ
reads_of l x y w zero first m = []
reads_of l x y w (suc h) first m = row_reads l x w y first m ++ reads_of l x (suc y) w h first m
