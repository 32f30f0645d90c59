-- Rows of a linear rectangle: each is one stretch, a stride after the one before it. Assumes nothing.
use mathlib.Core.Path.{◌≡◌, refl, sym, ap, ap₂, ◌∙◌, subst}
use mathlib.Core.Bool.{Bool, true, false}
use mathlib.Core.List.{List, [], ◌∷◌}
use Prim.Native.Nat.{ℕ, zero, suc, ◌+◌, ◌-◌, ◌*◌, ◌<◌, ◌≤◌, ◌^◌}
use native.Mathlib.Nat.{add-mul, mul_assoc, mul-le-mul, mul-le-mul_right}
use native.Mathlib.Omega.{arith}
use mir.Val.{Fits}
use mir.Syntax.{w32, w64}
use lib.ListN.{length}
use Rattle.laws.specs.Choice.{pick}
use Rattle.layout.specs.Layout.{span_of}
use Rattle.layout.specs.declared.Layout.{Layout}
use Rattle.layout.proofs.Window.{size_most}
use Rattle.address.specs.Offset.{offset_of, linear_offset}
use Rattle.address.specs.Address.{step_of}
use Rattle.address.proofs.Inverse.{room}
use Rattle.rectangles.specs.Moves.{moved, turned, memory_of, room_of, row_moves, element_place, StretchAsked}
use Rattle.rectangles.specs.Rows.{rect_moves, line_place, LinesAsked}
use Rattle.rectangles.specs.Bulk.{RectLent}
use Rattle.rectangles.proofs.RowMoves.{row_add, row_long, RowGoing, row_start_lem, row_next}
use Rattle.rectangles.proofs.RowParts.{rect_last}
use Rattle.rectangles.proofs.Rectangles.{size_of, bounds_of, room_most}
use Rattle.rectangles.proofs.Stretches.{one_stretch}

-- a loop along the rows: `j` of them are moved
pub record LinesGoing (out : Bool) (place stride n count : ℕ) (source m₀ : List ℕ) (j here line : ℕ) (m : List ℕ) : Type 0 where
  pub up : j ≤ count
  pub here_at : here ≡ line_place place stride j
  pub row : RowGoing out (line_place place stride) n 0 0 source m₀ j line m

module _ (out : Bool) (place stride n count : ℕ) (source m₀ : List ℕ)
    (asked : LinesAsked out place stride n count (length source) (length m₀)) where
  pub lines_start : LinesGoing out place stride n count source m₀ 0 place 0 m₀
  lines_start =
      record { up = omega arith; here_at = omega arith; row = row_start_lem out (line_place place stride) n 0 0 source m₀ }

  pub lines_done :
      (j here line : ℕ) (m : List ℕ) → LinesGoing out place stride n count source m₀ j here line m → count ≤ j →
      m ≡ moved (row_moves out (line_place place stride) n 0 0 count) source m₀
  lines_done j here line m g h =
      g.row.so_far ∙
      ap (λ (q : ℕ). moved (row_moves out (line_place place stride) n 0 0 q) source m₀) {x = j} {y = count} (omega (arith, g.up, h))

  module _ (j here line : ℕ) (m : List ℕ) (g : LinesGoing out place stride n count source m₀ j here line m) (h : j < count) where
    room_fits : line + n ≤ room_of out (length source) (length m₀)
    room_fits =
        let upto : j + 1 ≤ count = omega (arith, h) in
        omega (arith, g.row.line_at, asked.line_fits, add-mul j 1 n, mul-le-mul_right n upto)

    pub line_asked : StretchAsked out here line n (length source) (length m)
    line_asked =
        subst (StretchAsked out here line n (length source)) (sym g.row.long)
        (record {
          memory_most = asked.memory_most;
          room_most = asked.room_most;
          place_fits = omega (arith, asked.places j h, g.here_at);
          line_fits = room_fits;
        })

    pub lines_fit : Fits w64 (here + stride) × Fits w64 (line + n)
    lines_fit = (
      omega (arith, asked.places j h, g.here_at, asked.memory_most, asked.stride_most),
      omega (arith, room_fits, asked.room_most),
    )

    pub lines_next :
        (m' : List ℕ) → length m' ≡ length m → m' ≡ moved (turned out here line n ∷ []) source m →
        LinesGoing out place stride n count source m₀ (j + 1) (here + stride) (line + n) m'
    lines_next m' same e =
        record {
          up = omega (arith, h);
          here_at = omega (arith, g.here_at, add-mul j 1 stride);
          row =
              row_next out (line_place place stride) n 0 0 source m₀ j 1 line (0 + j) (line + n) m m' g.row refl (omega arith) same
              (e ∙
              ap₂ (λ (a b : ℕ). moved (turned out a b n ∷ []) source m)
              {x = here} {y = line_place place stride (0 + j + 0)} {u = line} {v = line + 0 * n}
              (g.here_at ∙ ap (line_place place stride) {x = j} {y = 0 + j + 0} (omega arith)) (omega arith));
        }

-- rows whose elements follow each other are stretches
rows_are_stretches :
    (out : Bool) (place : ℕ → ℕ → ℕ) (s x w y start stride : ℕ) (source m : List ℕ) (h : ℕ) →
    ((j : ℕ) → j < h → place (y + j) x ≡ line_place start stride j) →
    ((j i : ℕ) → j < h → i < w → place (y + j) (x + i) ≡ place (y + j) x + i * s) →
    ((j : ℕ) → j < h → line_place start stride j + w * s ≤ memory_of out (length source) (length m)) →
    h * (w * s) ≤ room_of out (length source) (length m) →
    moved (rect_moves out place s x w 0 y h) source m ≡ moved (row_moves out (line_place start stride) (w * s) 0 0 h) source m
unfolding moved
rows_are_stretches out place s x w y start stride source m zero begins follow fits room = refl
rows_are_stretches out place s x w y start stride source m (suc h) begins follow fits room =
    ap (λ (q : ℕ). moved (rect_moves out place s x w 0 y q) source m) {x = suc h} {y = h + 1} (omega arith) ∙
    rect_last out place s x w 0 y source m h ∙
    ap (λ (q : List ℕ). moved (row_moves out (place (y + h)) s x (0 + h * (w * s)) w) source q)
    (rows_are_stretches out place s x w y start stride source m h (λ j hj. begins j (omega (arith, hj)))
    (λ j i hj hi. follow j i (omega (arith, hj)) hi) (λ j hj. fits j (omega (arith, hj))) (omega (arith, room, all))) ∙
    one_stretch out (place (y + h)) s x (0 + h * (w * s)) source before w (λ i hi. follow h i (omega arith) hi)
    (subst (λ (q : ℕ). place (y + h) x + w * s ≤ memory_of out (length source) q) (sym long)
    (omega (arith, begins h (omega arith), fits h (omega arith))))
    (subst (λ (q : ℕ). 0 + h * (w * s) + w * s ≤ room_of out (length source) q) (sym long) (omega (arith, room, all))) ∙
    ap₂ (λ (a b : ℕ). moved (turned out a b (w * s) ∷ []) source before)
    {x = place (y + h) x} {y = line_place start stride (0 + h + 0)} {u = 0 + h * (w * s)} {v = 0 + h * (w * s) + 0 * (w * s)}
    (begins h (omega arith) ∙ ap (line_place start stride) {x = h} {y = 0 + h + 0} (omega arith)) (omega arith) ∙
    sym (row_add out (line_place start stride) (w * s) source 0 0 h 1 (0 + h) (0 + h * (w * s)) m refl refl) ∙
    ap (λ (q : ℕ). moved (row_moves out (line_place start stride) (w * s) 0 0 q) source m) {x = h + 1} {y = suc h} (omega arith)
  where
    before : List ℕ
    before = moved (row_moves out (line_place start stride) (w * s) 0 0 h) source m

    all : suc h * (w * s) ≡ h * (w * s) + w * s
    all = ap (λ (q : ℕ). q * (w * s)) {x = suc h} {y = h + 1} (omega arith) ∙ add-mul h 1 (w * s) ∙ omega arith

    long : length before ≡ length m
    long =
        row_long out (line_place start stride) (w * s) 0 0 source m h
        (λ k hk.
        subst (λ (q : ℕ). line_place start stride q + w * s ≤ memory_of out (length source) (length m)) {x = k} {y = 0 + k} (omega arith)
        (fits k (omega (arith, hk))))
        (omega (arith, room, all))

-- "Linear: address = base + (y·E + x)·s."
linear_place :
    (tiled : Bool) (s e at r c : ℕ) → tiled ≡ false → element_place tiled s e at r c ≡ at + (r * e + c) * s
unfolding offset_of linear_offset pick
linear_place true s e at r c flat = absurd (mathlib.Core.Bool.false≢true (sym flat))
linear_place false s e at r c flat = refl

linear_span : (tiled : Bool) (s e h : ℕ) → tiled ≡ false → span_of tiled s e h ≡ h * e * s
unfolding span_of pick
linear_span true s e h flat = absurd (mathlib.Core.Bool.false≢true (sym flat))
linear_span false s e h flat = refl

module _ (out : Bool) (l : Layout) (x y w h first source target step : ℕ) (lent : RectLent out l x y w h first source target)
    (step_is : step ≡ step_of l) (flat : l.tiled ≡ false) where
  abbrev s : ℕ
  s = l.size

  abbrev at : ℕ
  at = l.base.0 - first

  abbrev start : ℕ
  start = at + (y * (step * s) + x * s)

  place_of : (r c : ℕ) → element_place l.tiled s (step_of l) at r c ≡ at + (r * (step * s) + c * s)
  place_of r c =
      linear_place l.tiled s (step_of l) at r c flat ∙
      ap (λ (q : ℕ). at + q)
      (ap (λ (q : ℕ). (r * q + c) * s) (sym step_is) ∙ add-mul (r * step) c s ∙ ap (λ (q : ℕ). q + c * s) (mul_assoc r step s))

  begins : (j : ℕ) → element_place l.tiled s (step_of l) at (y + j) x ≡ line_place start (step * s) j
  begins j = place_of (y + j) x ∙ omega (arith, add-mul y j (step * s))

  follow :
      (j i : ℕ) →
      element_place l.tiled s (step_of l) at (y + j) (x + i) ≡ element_place l.tiled s (step_of l) at (y + j) x + i * s
  follow j i = omega (arith, place_of (y + j) (x + i), place_of (y + j) x, add-mul x i s)

  in_memory : (j : ℕ) → j < h → line_place start (step * s) j + w * s ≤ memory_of out source target
  in_memory j hj =
      let row : y + j + 1 ≤ l.height = omega (arith, lent.rows, hj) in
      let columns : x + w ≤ step = omega (arith, lent.columns, step_is) in
      let span : span_of l.tiled s (step_of l) l.height ≡ l.height * (step * s) =
      linear_span l.tiled s (step_of l) l.height flat ∙ ap (λ (q : ℕ). l.height * q * s) (sym step_is) ∙ mul_assoc l.height step s in
      omega (
        arith,
        mul-le-mul_right (step * s) row,
        mul-le-mul_right s columns,
        add-mul (y + j) 1 (step * s),
        add-mul y j (step * s),
        add-mul x w s,
        span,
        lent.covers,
        lent.low,
      )

  stride_most : step * s ≤ 65536
  stride_most =
      let few : step ≤ 4096 = omega (arith, step_is, (bounds_of out l x y w h first source target lent).0) in
      let z : step * s ≤ 4096 * 16 = mul-le-mul few (size_most s (size_of out l x y w h first source target lent)) in omega (arith, z)

  pub lines_asked : LinesAsked out start (step * s) (w * s) h source target
  lines_asked =
      record {
        memory_most = lent.high;
        room_most = room_most out l x y w h first source target step lent step_is;
        stride_most = stride_most;
        count_most = omega (arith, lent.rows, (bounds_of out l x y w h first source target lent).1);
        places = in_memory;
        line_fits = omega (arith, lent.room);
      }

  -- the numbers that the code reckons
  pub start_fits : Fits w32 (y * (step * s)) × Fits w32 (x * s) × Fits w32 (y * (step * s) + x * s) × Fits w64 start × Fits w32 (w * s)
  start_fits =
      let b = bounds_of out l x y w h first source target lent in
      let size = size_most s (size_of out l x y w h first source target lent) in
      let row : y ≤ 4096 = omega (arith, lent.rows, b.1) in
      let column : x ≤ 4096 = omega (arith, lent.columns, b.0) in
      let width : w ≤ 4096 = omega (arith, lent.columns, b.0) in
      let p : y * (step * s) ≤ 4096 * 65536 = mul-le-mul row stride_most in
      let q : x * s ≤ 4096 * 16 = mul-le-mul column size in
      let r : w * s ≤ 4096 * 16 = mul-le-mul width size in
      let low = room l lent.accepted in
      (omega (arith, p), omega (arith, q), omega (arith, p, q), omega (arith, p, q, low), omega (arith, r))

pub lines_told :
    (out : Bool) (l : Layout) (x y w h first step : ℕ) (src m m' : List ℕ) (lent : RectLent out l x y w h first (length src) (length m)) →
    step ≡ step_of l → l.tiled ≡ false →
    m' ≡ moved (row_moves out (line_place (l.base.0 - first + (y * (step * l.size) + x * l.size)) (step * l.size)) (w * l.size) 0 0 h) src m →
    m' ≡ moved (rect_moves out (element_place l.tiled l.size (step_of l) (l.base.0 - first)) l.size x w 0 y h) src m
lines_told out l x y w h first step src m m' lent step_is flat e =
    e ∙
    sym
    (rows_are_stretches out (element_place l.tiled l.size (step_of l) (l.base.0 - first)) l.size x w y
    (l.base.0 - first + (y * (step * l.size) + x * l.size)) (step * l.size) src m h
    (λ j hj. begins out l x y w h first (length src) (length m) step lent step_is flat j)
    (λ j i hj hi. follow out l x y w h first (length src) (length m) step lent step_is flat j i)
    (in_memory out l x y w h first (length src) (length m) step lent step_is flat)
    (omega (arith, lent.room)))
