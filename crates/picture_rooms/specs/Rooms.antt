-- Rectangles of a window as a status and rooms: what is answered, and what memory or the room is after it. Assumes nothing.
use Rattle.std.specs.Prelude.{◌≡◌, Bool, List, [], ℕ, ◌+◌, ◌*◌, ◌^◌, leb, eqb, length}
use Rattle.laws.specs.Below.{every}
use Rattle.laws.specs.Choice.{◌and◌, pick}
use Rattle.refusal.specs.Told.{Told, gives, refuses}
use Rattle.refusal.specs.Crossing.{status_of}
use Rattle.layout.specs.Layout.{span_of}
use Rattle.layout.specs.declared.Layout.{Layout}
use Rattle.address.specs.Address.{step_of, if_accepted, inside, address_of}
use Rattle.address_rows.specs.Rows.{listed}
use Rattle.memory.specs.Elements.{in_order}
use Rattle.picture.specs.Picture.{rows_from, laid}
use Rattle.rectangles.specs.Rectangles.{scene_of, reads_of}

-- 10: "a pair is outside its window". Whether no pair of `w` columns and `h` rows from (x, y) on is.
unfoldable pub all_inside : Layout → ℕ → ℕ → ℕ → ℕ → Bool
all_inside l x y w h = every h (λ j. every w (λ i. inside l (x + i) (y + j)))

-- 11: memory of `n` bytes from `first` on ends above 2^32, or doesn't cover `span` bytes from the base on. Whether neither is so.
unfoldable pub covers_span : ℕ → ℕ → ℕ → ℕ → Bool
covers_span base span first n = leb (first + n) (2 ^ 32) and leb first base and leb (base + span) (first + n)

-- whether the room is just the rectangle's elements, and memory covers the window's span
unfoldable pub is_lent : Layout → ℕ → ℕ → ℕ → ℕ → ℕ → Bool
is_lent l w h first room n =
    eqb room (w * h * l.size) and covers_span l.base.0 (span_of l.tiled l.size (step_of l) l.height) first n

-- `answer`, or 3, 6, 10, 11 in this order
unfoldable pub if_lent : Layout → ℕ → ℕ → ℕ → ℕ → ℕ → ℕ → ℕ → Told → Told
if_lent l x y w h first room n answer = if_accepted l (in_order (all_inside l x y w h) (is_lent l w h first room n) answer)

-- a rectangle is painted: done, or the refusal
abbrev pub rectangle_of : Layout → ℕ → ℕ → ℕ → ℕ → ℕ → ℕ → ℕ → Told
rectangle_of l x y w h first room n = if_lent l x y w h first room n (gives [])

-- a refusal touches nothing; else each element of the room stands at its pair's address
unfoldable pub painted_after : Told → Layout → ℕ → ℕ → ℕ → ℕ → ℕ → List ℕ → List ℕ → List ℕ
painted_after (gives values) l x y w h first room m = laid (scene_of l x y w room) first (rows_from 0 x w y h) m
painted_after (refuses number) l x y w h first room m = m

-- a call of the painter: its status, and memory before and after
pub record PaintCrosses (l : Layout) (x y w h first : ℕ) (room : List ℕ) (r : ℕ) (before after : List ℕ) : Type 0 where
  pub status : r ≡ status_of (rectangle_of l x y w h first (length room) (length before))
  pub memory :
      after ≡ painted_after (rectangle_of l x y w h first (length room) (length before)) l x y w h first room before

-- a rectangle is copied into a room of so many bytes: the reads of its pairs, row by row, or the refusal
abbrev pub copy_of : Layout → ℕ → ℕ → ℕ → ℕ → ℕ → ℕ → List ℕ → Told
copy_of l x y w h first room m = if_lent l x y w h first room (length m) (gives (reads_of l x y w h first m))

-- the addresses of `n` pairs of the row y from column x on, or 3, 6, 10
abbrev pub row_of : Layout → ℕ → ℕ → ℕ → Told
row_of l x y n =
    if_accepted l (pick (all_inside l x y n 1) (gives (listed (λ i. address_of l (x + i) y) 0 n)) (refuses 10))
