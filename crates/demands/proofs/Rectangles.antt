-- A rectangle painted by one call is the picture of the theorem, and one copied out is the reads of its pairs. Assumes nothing.
use mathlib.Core.Path.{◌≡◌, refl, sym, ap, ap₂, ◌∙◌, subst, subst₂}
use mathlib.Core.Logic.{inl, inr}
use mathlib.Core.List.Permᴰ
use mathlib.Core.List.{List, [], ◌∷◌, ◌++◌, append_assoc, Permᴰ}
use Prim.Native.Nat.{ℕ, zero, suc, ◌+◌, ◌-◌, ◌*◌, ◌<◌, ◌≤◌, ◌^◌}
use native.Mathlib.Nat.{add-mul, mul_assoc, mul_comm, mul-le-mul_right}
use native.Mathlib.Omega.{arith}
use lib.ListN.{length, take, drop, get_or, length-append, length-drop}
use lib.Seq.{length-take-le, take-append_seam, drop-append-add}
use Rattle.refusal.specs.Told.{Told, gives}
use Rattle.refusal.specs.Crossing.{Crosses, status_of, room_of}
use Rattle.layout.specs.declared.Layout.{Layout}
use Rattle.address.specs.Address.{step_of, address_of}
use Rattle.address.specs.Inverse.{Inside}
use Rattle.address.proofs.Inverse.{inverse}
use Rattle.memory.specs.Elements.{bytes_at, element_of, read_of}
use Rattle.picture.specs.Picture.{Spot, Scene, Domain, Within, Framed, Frame, rows_from, spots_of, laid, painted, end_of}
use Rattle.picture.proofs.Pictures.{frame, written, read_told}
use Rattle.rectangles.specs.Rectangles.{given_at, scene_of, row_reads, reads_of}
use Rattle.rectangles.proofs.Inside.{corners}
use Rattle.picture_rooms.specs.Rooms.{rectangle_of, painted_after, PaintCrosses, copy_of}
use Rattle.picture_rooms.proofs.Judging.{Fine, Outcome, goes, stays, outcome, goes_so}
use Rattle.demands.specs.Painting.{Painting}
use Rattle.demands.specs.Rectangles.{InRectangle, RectanglePainted, RectangleRead}
use Rattle.demands.proofs.Painting.{calls_paint}

once_more : (n k : ℕ) → suc n * k ≡ k + n * k
once_more n k =
    let e = add-mul 1 n k in
    let f : suc n * k ≡ (1 + n) * k = ap (λ (q : ℕ). q * k) {x = suc n} {y = 1 + n} (omega arith) in
    omega (arith, e, f)

-- the element of a pair of the rectangle is whole in the room
in_room : (s w h i j n : ℕ) → i < w → j < h → n ≡ h * (w * s) → (j * w + i) * s + s ≤ n
in_room s w h i j n hi hj e =
    let a : j * w + i + 1 ≤ (j + 1) * w = (let q = add-mul j 1 w in omega (arith, q, hi)) in
    let b : (j + 1) * w ≤ h * w = mul-le-mul_right w (let q : j + 1 ≤ h = omega (arith, hj) in q) in
    let c : (j * w + i + 1) * s ≤ h * w * s = mul-le-mul_right s (let q : j * w + i + 1 ≤ h * w = omega (arith, a, b) in q) in
    let d = add-mul (j * w + i) 1 s in
    omega (arith, c, d, e, mul_assoc h w s)

module _ (l : Layout) (x y w h first : ℕ) (some : (0 < w) × (0 < h)) where
  abbrev area : Domain
  area = record { i0 = x; j0 = y; i1 = x + w - 1; j1 = y + h - 1 }

  all_spots : spots_of area 1 ≡ rows_from 0 x w y h
  unfolding spots_of
  all_spots =
      ap₂ (λ (a b : ℕ). rows_from 0 x a y b) {x = suc (x + w - 1) - x} {y = w} {u = suc (y + h - 1) - y} {v = h}
      (omega (arith, some.0)) (omega (arith, some.1))

  within : (x' y' : ℕ) → InRectangle x y w h x' y' → Within area x' y'
  within x' y' i =
      record { left = i.left; right = omega (arith, i.right); top = i.top; bottom = omega (arith, i.bottom) }

  module _ (n room : ℕ) (fine : Fine l x y w h first room n) where
    corner : (x + w ≤ step_of l) × (y + h ≤ l.height)
    corner = corners (step_of l) l.height x y w h some.0 some.1 fine.within

    room_is : room ≡ h * (w * l.size)
    room_is = fine.bytes ∙ ap (λ (q : ℕ). q * l.size) (mul_comm w h) ∙ mul_assoc h w l.size

    pair : (x' y' : ℕ) → InRectangle x y w h x' y' → Inside l x' y'
    pair x' y' i = record { column = omega (arith, corner.0, i.right); row = omega (arith, corner.1, i.bottom) }

  module _ (room m : List ℕ) (fine : Fine l x y w h first (length room) (length m)) where
    abbrev scene : Scene
    scene = scene_of l x y w room

    given_long : (x' y' : ℕ) → InRectangle x y w h x' y' → length (given_at l.size x y w room x' y') ≡ l.size
    given_long x' y' i =
        let at = ((y' - y) * w + (x' - x)) * l.size in
        let fit : at + l.size ≤ length room = in_room l.size w h (x' - x) (y' - y) (length room) (omega (arith, i.left, i.right)) (omega (arith, i.top, i.bottom))
        (room_is (length m) (length room) fine) in
        length-take-le l.size (drop at room) (omega (arith, length-drop at room, fit))

    framed : Framed scene 1 area first (length m)
    framed =
        record {
          high = fine.high;
          accepted = λ o ho. fine.accepted;
          columns = λ o ho. omega (arith, (corner (length m) (length room) fine).0, some.0);
          rows = λ o ho. omega (arith, (corner (length m) (length room) fine).1, some.1);
          low = λ o ho. fine.low;
          covers = λ o ho. fine.covers;
          apart = λ o p ho hp less. absurd (omega (arith, ho, hp, less));
          sizes = λ o x' y' ho v.
              given_long x' y'
              (record {
                left = v.left;
                right = omega (arith, v.right, some.0);
                top = v.top;
                bottom = omega (arith, v.bottom, some.1);
              });
        }

    order_is : (order : List Spot) → Permᴰ order (rows_from 0 x w y h) → Permᴰ order (spots_of area 1)
    order_is order p = subst (Permᴰ order) (sym all_spots) p

    abbrev here : Permᴰ (rows_from 0 x w y h) (spots_of area 1)
    here = order_is (rows_from 0 x w y h) (Permᴰ.refl _)

    the_frame : Frame scene 1 area first (rows_from 0 x w y h) m
    the_frame = frame scene 1 area first m framed (rows_from 0 x w y h) here

    -- each promise, of the memory that a call left
    left : (m' : List ℕ) → m' ≡ laid scene first (rows_from 0 x w y h) m → RectanglePainted l x y w h first room m m'
    left m' e =
        record {
          own = λ x' y' i. ap (element_of l x' y' first) e ∙ the_frame.own 0 x' y' (omega arith) (within x' y' i);
          rest = λ i hi never.
              ap (λ (q : List ℕ). get_or q i 0) e ∙
              the_frame.rest i hi
              (λ o x' y' place ho v o'.
              never x' y' place
              (record {
                left = v.left;
                right = omega (arith, v.right, some.0);
                top = v.top;
                bottom = omega (arith, v.bottom, some.1);
              }) o');
          long = ap length e ∙ the_frame.long;
          same = λ few order p m'' calls.
              calls_paint scene first order m m'' calls ∙ written scene 1 area first m framed order (order_is order p) few ∙
              the_frame.same order (order_is order p) ∙ sym e;
        }

pub rectangle_painted :
    (l : Layout) (x y w h first : ℕ) (room m m' : List ℕ) → (0 < w) × (0 < h) → PaintCrosses l x y w h first room 0 m m' →
    RectanglePainted l x y w h first room m m'
unfolding painted_after
rectangle_painted l x y w h first room m m' some called =
    let fine = goes_so l x y w h first (length room) (length m) 0 called.status refl in
    left l x y w h first some room m fine m'
    (called.memory ∙ ap (λ (t : Told). painted_after t l x y w h first room m) (fine.answers (gives [])))

-- the reads of a rectangle, pair by pair
module _ (l : Layout) (first : ℕ) (m : List ℕ) where
  abbrev s : ℕ
  s = l.size

  row_long : (x w y : ℕ) → ((i : ℕ) → i < w → length (element_of l (x + i) y first m) ≡ s) → length (row_reads l x w y first m) ≡ w * s
  row_long x zero y long = omega arith
  row_long x (suc w) y long =
      length-append (element_of l x y first m) (row_reads l (suc x) w y first m) ∙
      ap₂ (λ (a b : ℕ). a + b)
      (ap (λ (q : ℕ). length (element_of l q y first m)) {x = x} {y = x + 0} (omega arith) ∙ long 0 (omega arith))
      (row_long (suc x) w y (λ i hi. ap (λ (q : ℕ). length (element_of l q y first m)) {x = suc x + i} {y = x + suc i} (omega arith) ∙ long (suc i) (omega (arith, hi)))) ∙
      sym (once_more w s)

  row_at :
      (x w y i : ℕ) (rest : List ℕ) → ((k : ℕ) → k < w → length (element_of l (x + k) y first m) ≡ s) → i < w →
      take s (drop (i * s) (row_reads l x w y first m ++ rest)) ≡ element_of l (x + i) y first m
  row_at x zero y i rest long hi = absurd (omega (arith, hi))
  row_at x (suc w) y zero rest long hi =
      let e = ap (λ (q : ℕ). length (element_of l q y first m)) {x = x} {y = x + 0} (omega arith) ∙ long 0 (omega arith) in
      ap (λ (q : List ℕ). take s (drop (0 * s) q)) (append_assoc (element_of l x y first m) (row_reads l (suc x) w y first m) rest) ∙
      ap₂ (λ (a b : ℕ). take a (drop b (element_of l x y first m ++ (row_reads l (suc x) w y first m ++ rest)))) {u = 0 * s} {v = 0} (sym e) (omega arith) ∙
      take-append_seam (element_of l x y first m) (row_reads l (suc x) w y first m ++ rest) ∙
      ap (λ (q : ℕ). element_of l q y first m) {x = x} {y = x + 0} (omega arith)
  row_at x (suc w) y (suc i) rest long hi =
      let e = ap (λ (q : ℕ). length (element_of l q y first m)) {x = x} {y = x + 0} (omega arith) ∙ long 0 (omega arith) in
      ap₂ (λ (q : List ℕ) (b : ℕ). take s (drop b q))
      (append_assoc (element_of l x y first m) (row_reads l (suc x) w y first m) rest)
      (once_more i s ∙ ap (λ (q : ℕ). q + i * s) (sym e)) ∙
      ap (take s) (drop-append-add (element_of l x y first m) (row_reads l (suc x) w y first m ++ rest) (i * s)) ∙
      row_at (suc x) w y i rest
      (λ k hk. ap (λ (q : ℕ). length (element_of l q y first m)) {x = suc x + k} {y = x + suc k} (omega arith) ∙ long (suc k) (omega (arith, hk)))
      (omega (arith, hi)) ∙
      ap (λ (q : ℕ). element_of l q y first m) {x = suc x + i} {y = x + suc i} (omega arith)

  reads_long :
      (x y w h : ℕ) → ((i j : ℕ) → i < w → j < h → length (element_of l (x + i) (y + j) first m) ≡ s) →
      length (reads_of l x y w h first m) ≡ h * (w * s)
  unfolding reads_of
  reads_long x y w zero long = omega arith
  reads_long x y w (suc h) long =
      length-append (row_reads l x w y first m) (reads_of l x (suc y) w h first m) ∙
      ap₂ (λ (a b : ℕ). a + b)
      (row_long x w y (λ i hi. ap (λ (q : ℕ). length (element_of l (x + i) q first m)) {x = y} {y = y + 0} (omega arith) ∙ long i 0 hi (omega arith)))
      (reads_long x (suc y) w h
      (λ i j hi hj. ap (λ (q : ℕ). length (element_of l (x + i) q first m)) {x = suc y + j} {y = y + suc j} (omega arith) ∙ long i (suc j) hi (omega (arith, hj)))) ∙
      sym (once_more h (w * s))

  reads_at :
      (x y w h i j : ℕ) → ((a b : ℕ) → a < w → b < h → length (element_of l (x + a) (y + b) first m) ≡ s) → i < w → j < h →
      take s (drop ((j * w + i) * s) (reads_of l x y w h first m)) ≡ element_of l (x + i) (y + j) first m
  unfolding reads_of
  reads_at x y w zero i j long hi hj = absurd (omega (arith, hj))
  reads_at x y w (suc h) i zero long hi hj =
      ap (λ (q : ℕ). take s (drop (q * s) (row_reads l x w y first m ++ reads_of l x (suc y) w h first m))) {x = 0 * w + i} {y = i} (omega arith) ∙
      row_at x w y i (reads_of l x (suc y) w h first m)
      (λ k hk. ap (λ (q : ℕ). length (element_of l (x + k) q first m)) {x = y} {y = y + 0} (omega arith) ∙ long k 0 hk (omega arith)) hi ∙
      ap (λ (q : ℕ). element_of l (x + i) q first m) {x = y} {y = y + 0} (omega arith)
  reads_at x y w (suc h) i (suc j) long hi hj =
      let e = row_long x w y (λ k hk. ap (λ (q : ℕ). length (element_of l (x + k) q first m)) {x = y} {y = y + 0} (omega arith) ∙ long k 0 hk (omega arith)) in
      ap (λ (q : ℕ). take s (drop q (row_reads l x w y first m ++ reads_of l x (suc y) w h first m))) (one_row ∙ ap (λ (q : ℕ). q + (j * w + i) * s) (sym e)) ∙
      ap (take s) (drop-append-add (row_reads l x w y first m) (reads_of l x (suc y) w h first m) ((j * w + i) * s)) ∙
      reads_at x (suc y) w h i j
      (λ a b ha hb. ap (λ (q : ℕ). length (element_of l (x + a) q first m)) {x = suc y + b} {y = y + suc b} (omega arith) ∙ long a (suc b) ha (omega (arith, hb)))
      hi (omega (arith, hj)) ∙
      ap (λ (q : ℕ). element_of l (x + i) q first m) {x = suc y + j} {y = y + suc j} (omega arith)
    where
      one_row : (suc j * w + i) * s ≡ w * s + (j * w + i) * s
      one_row =
          ap (λ (q : ℕ). q * s) {x = suc j * w + i} {y = w + (j * w + i)} (let q = once_more j w in omega (arith, q)) ∙ add-mul w (j * w + i) s

module _ (l : Layout) (x y w h first : ℕ) (m room room' : List ℕ) (some : (0 < w) × (0 < h)) (fine : Fine l x y w h first (length room) (length m)) (e : room' ≡ reads_of l x y w h first m) where
  -- a pair's element is whole in memory
  whole : (x' y' : ℕ) → InRectangle x y w h x' y' → (first ≤ address_of l x' y') × (address_of l x' y' + l.size ≤ first + length m)
  whole x' y' i =
      let v = (inverse l fine.accepted).within x' y' (pair l x y w h first some (length m) (length room) fine x' y' i) in
      (omega (arith, v.0, fine.low), omega (arith, v.1, fine.covers))

  element_long : (x' y' : ℕ) → InRectangle x y w h x' y' → length (element_of l x' y' first m) ≡ l.size
  unfolding bytes_at
  element_long x' y' i =
      let v = whole x' y' i in
      let at = address_of l x' y' - first in
      length-take-le l.size (drop at m) (omega (arith, length-drop at m, v.0, v.1))

  pair_at_lem : (i j : ℕ) → i < w → j < h → InRectangle x y w h (x + i) (y + j)
  pair_at_lem i j hi hj = record { left = omega arith; right = omega (arith, hi); top = omega arith; bottom = omega (arith, hj) }

  read_own : (x' y' : ℕ) → InRectangle x y w h x' y' → given_at l.size x y w room' x' y' ≡ element_of l x' y' first m
  read_own x' y' i =
      ap (λ (q : List ℕ). given_at l.size x y w q x' y') e ∙
      reads_at l first m x y w h (x' - x) (y' - y) (λ a b ha hb. element_long (x + a) (y + b) (pair_at_lem a b ha hb))
      (omega (arith, i.left, i.right)) (omega (arith, i.top, i.bottom)) ∙
      ap₂ (λ (a b : ℕ). element_of l a b first m) {x = x + (x' - x)} {y = x'} {u = y + (y' - y)} {v = y'} (omega (arith, i.left)) (omega (arith, i.top))

  was_read : RectangleRead l x y w h first m room'
  was_read =
      record {
        long = ap length e ∙ reads_long l first m x y w h (λ i j hi hj. element_long (x + i) (y + j) (pair_at_lem i j hi hj));
        own = read_own;
        reads = λ few x' y' i.
            read_told l x' y' first fine.accepted (pair l x y w h first some (length m) (length room) fine x' y' i) m
            (record { long = few; high = fine.high; low = (whole x' y' i).0; whole = (whole x' y' i).1 }) ∙
            ap gives (sym (read_own x' y' i));
      }

pub rectangle_read :
    (l : Layout) (x y w h first : ℕ) (m room room' : List ℕ) → (0 < w) × (0 < h) →
    Crosses (copy_of l x y w h first (length room) m) 0 room room' → RectangleRead l x y w h first m room'
rectangle_read l x y w h first m room room' some called = go (outcome l x y w h first (length room) (length m))
  where
    go : Outcome l x y w h first (length room) (length m) → RectangleRead l x y w h first m room'
    go (goes fine) =
        was_read l x y w h first m room room' some fine (called.room ∙ ap (λ (t : Told). room_of t room) (fine.answers _))
    go (stays number pos told) = absurd (let z : 0 ≡ number = called.status ∙ ap status_of (told _) in omega (arith, z, pos))
