-- A row in three parts, and rows one after the other. Assumes nothing.
use mathlib.Core.Path.{◌≡◌, refl, sym, ap, ap₂, ◌∙◌, subst, subst₂}
use mathlib.Core.Bool.{Bool, true, false}
use mathlib.Core.List.{List, [], ◌∷◌, ◌++◌}
use Prim.Native.Nat.{ℕ, zero, suc, ◌+◌, ◌-◌, ◌*◌, ◌/◌, ◌%◌, ◌<◌, ◌≤◌, ◌^◌}
use native.Mathlib.Nat.{add-mul, mul-add, mul_assoc, mul_comm, mul-le-mul, mul-le-mul_left, mul-le-mul_right}
use native.Mathlib.Omega.{arith}
use mir.Val.{Fits}
use mir.Syntax.{w32, w64}
use lib.ListN.{length}
use Rattle.layout.specs.Sizes.{is_size, width_of}
use Rattle.address.specs.Offset.{block_width, offset_of}
use Rattle.rectangles.specs.Moves.{moved, turned, memory_of, room_of, row_moves, block_place, element_place, RunsAsked, TilesAsked}
use Rattle.rectangles.specs.Rows.{RowAsked, rect_moves, RectAsked}
use Rattle.rectangles.proofs.Moves.{moved_both}
use Rattle.rectangles.proofs.RowMoves.{row_add}
use Rattle.rectangles.proofs.Blocks.{row_start, element_in, blocks_elements}

-- nothing to move
pub none_in_row :
    (out : Bool) (place : ℕ → ℕ) (s x line count : ℕ) (source m : List ℕ) → count ≤ 0 →
    m ≡ moved (row_moves out place s x line count) source m
unfolding moved
none_in_row out place s x line count source m h =
    ap (λ (q : ℕ). moved (row_moves out place s x line q) source m) {x = 0} {y = count} (omega (arith, h))

-- a part of a row
pub part_of_row :
    (out tiled : Bool) (s stride at x y count line source target : ℕ) → RunsAsked out tiled s stride at x y count line source target →
    (a b x' line' target' : ℕ) → a + b ≤ count → x' ≡ x + a → line' ≡ line + a * s → target' ≡ target →
    RunsAsked out tiled s stride at x' y b line' source target'
part_of_row out tiled s stride at x y count line source target asked a b x' line' target' h ex el et =
    subst (RunsAsked out tiled s stride at x' y b line' source) (sym et)
    (record {
      size = asked.size;
      most = asked.most;
      whole = asked.whole;
      step = asked.step;
      columns = omega (arith, asked.columns, h, ex);
      row = asked.row;
      memory_most = asked.memory_most;
      room_most = asked.room_most;
      some = asked.some;
      follow = asked.follow;
      places = λ i hi.
          subst (λ (q : ℕ). element_place tiled s (stride / s) at y q + s ≤ memory_of out source target) {x = x + (a + i)} {y = x' + i}
          (omega (arith, ex)) (asked.places (a + i) (omega (arith, h, hi)));
      line_fits = omega (arith, asked.line_fits, el, add-mul a b s, mul-le-mul_right s h);
    })

-- the last elements of a row, after `before` of them
module _ (out : Bool) (s stride at x y before count line source target : ℕ)
    (asked : RunsAsked out true s stride at x y (before + count) line source target) where
  pub rest_fits : (before * s ≤ 65536) × (line + before * s ≤ 2 ^ 32) × (x + before ≤ 4096)
  rest_fits =
      let h : before ≤ before + count = omega arith in
      let few : before ≤ 4096 = omega (arith, asked.columns, asked.step) in
      let z : before * s ≤ 4096 * 16 = mul-le-mul few asked.most in (
        omega (arith, z),
        omega (arith, mul-le-mul_right s h, asked.line_fits, asked.room_most),
        omega (arith, asked.columns, asked.step),
      )

  pub rest_asked : RunsAsked out true s stride at (x + before) y count (line + before * s) source target
  rest_asked =
      part_of_row out true s stride at x y (before + count) line source target asked before count (x + before) (line + before * s) target
      (omega arith) refl refl refl

module _ (out : Bool) (s n stride columns at x y lead first count inner tail line source target : ℕ)
    (asked : RowAsked out s n stride columns at x y lead first count inner tail line source target) where
  abbrev e : ℕ
  e = stride / s

  abbrev p : ℕ
  p = block_width s

  bytes_most : y * n ≤ 131040
  bytes_most =
      let h : y ≤ 4095 = omega (arith, asked.runs.row) in
      let z : y * n ≤ 4095 * 32 = mul-le-mul h asked.few in omega (arith, z)

  -- the numbers that the row's code reckons
  pub bytes_fit : Fits w32 (y * n)
  bytes_fit = omega (arith, bytes_most)

  tiles_above : y * n / 32 / 8 * columns ≤ 131072
  tiles_above =
      let h : y * n / 32 / 8 ≤ 512 = omega (arith, bytes_most) in
      let z : y * n / 32 / 8 * columns ≤ 512 * 256 = mul-le-mul h asked.columns_most in omega (arith, z)

  pub start_fit :
      Fits w32 (y * n / 32 / 8 * columns) × Fits w32 (2048 * (y * n / 32 / 8 * columns)) ×
      Fits w32 (2048 * (y * n / 32 / 8 * columns) + y * n % 32) × Fits w64 (2048 * (y * n / 32 / 8 * columns) + y * n % 32) ×
      Fits w64 (at + (2048 * (y * n / 32 / 8 * columns) + y * n % 32))
  start_fit =
      let r : y * n % 32 < 32 = omega arith in
      small (y * n / 32 / 8 * columns) (y * n % 32) tiles_above r
    where
      small :
          (t r : ℕ) → t ≤ 131072 → r < 32 →
          Fits w32 t × Fits w32 (2048 * t) × Fits w32 (2048 * t + r) × Fits w64 (2048 * t + r) × Fits w64 (at + (2048 * t + r))
      small t r ht hr = (omega arith, omega arith, omega arith, omega arith, omega (arith, asked.place_most))

  wide : lead + inner + tail ≤ 4096
  wide = omega (arith, asked.runs.columns, asked.runs.step)

  pub lead_fit : (lead * s ≤ 65536) × (line + lead * s ≤ 2 ^ 32)
  lead_fit =
      let h : lead ≤ lead + inner + tail = omega arith in
      let few : lead ≤ 4096 = omega (arith, wide) in
      let z : lead * s ≤ 4096 * 16 = mul-le-mul few asked.runs.most in
      (omega (arith, z), omega (arith, mul-le-mul_right s h, asked.runs.line_fits, asked.runs.room_most))

  pub before_fit : lead + inner ≤ 4096
  before_fit = omega (arith, wide)

  pub lead_asked : RunsAsked out true s stride at x y lead line source target
  lead_asked =
      part_of_row out true s stride at x y (lead + inner + tail) line source target asked.runs 0 lead x line target (omega arith) (omega arith)
      (omega arith) refl

  pub tail_asked : (target' : ℕ) → target' ≡ target → RunsAsked out true s stride at x y (lead + inner + tail) line source target'
  tail_asked target' et = subst (RunsAsked out true s stride at x y (lead + inner + tail) line source) (sym et) asked.runs

  same_start : row_start at columns n y ≡ row_start at (e / width_of s) (p * s) y
  same_start = ap₂ (λ (a b : ℕ). row_start at a b y) asked.columns_are asked.bytes

  block_fits :
      (k : ℕ) → k < 8 * count → block_place (row_start at columns n y) (y * n / 32) (8 * first + k) + n ≤ memory_of out source target
  block_fits k h =
      subst₂ (λ (a b : ℕ). block_place a (y * b / 32) (8 * first + k) + b ≤ memory_of out source target) (sym same_start) (sym asked.bytes)
      (omega (arith, stands, fits, whole))
    where
      few : 0 < count
      few = omega (arith, h)

      column : x + (lead + (p * k + (p - 1))) ≡ p * (8 * first + k) + (p - 1)
      column = omega (arith, asked.begins few, mul-add p (8 * first) k)

      below : lead + (p * k + (p - 1)) < lead + inner + tail
      below =
          let up : k + 1 ≤ 8 * count = omega (arith, h) in
          omega (arith, asked.inner_is, mul-le-mul_left p up, mul-add p k 1, asked.some)

      fits : element_place true s e at y (p * (8 * first + k) + (p - 1)) + s ≤ memory_of out source target
      fits =
          subst (λ (q : ℕ). element_place true s e at y q + s ≤ memory_of out source target) column (asked.runs.places (lead + (p * k + (p - 1))) below)

      stands :
          element_place true s e at y (p * (8 * first + k) + (p - 1)) ≡
          block_place (row_start at (e / width_of s) (p * s) y) (y * (p * s) / 32) (8 * first + k) + (p - 1) * s
      stands = element_in out s e at y asked.runs.size [] [] (8 * first + k) (p - 1) (omega (arith, asked.some))

      whole : p * s ≡ (p - 1) * s + s
      whole = ap (λ (q : ℕ). q * s) {x = p} {y = p - 1 + 1} (omega (arith, asked.some)) ∙ add-mul (p - 1) 1 s ∙ omega arith

  inner_bytes : 8 * count * n ≡ inner * s
  inner_bytes =
      ap (λ (q : ℕ). 8 * count * q) asked.bytes ∙ sym (mul_assoc (8 * count) p s) ∙
      ap (λ (q : ℕ). q * s) (mul_comm (8 * count) p ∙ sym asked.inner_is)

  room_fits : line + lead * s + 8 * count * n ≤ room_of out source target
  room_fits =
      let h : lead + inner ≤ lead + inner + tail = omega arith in
      omega (arith, inner_bytes, asked.runs.line_fits, add-mul lead inner s, mul-le-mul_right s h)

  pub tiles_asked :
      (target' : ℕ) → target' ≡ target →
      TilesAsked out n (row_start at columns n y) (y * n / 32) first count (line + lead * s) source target'
  tiles_asked target' et =
      subst (TilesAsked out n (row_start at columns n y) (y * n / 32) first count (line + lead * s) source) (sym et)
      (record {
        few = asked.few;
        memory_most = asked.runs.memory_most;
        room_most = asked.runs.room_most;
        tiles_most = asked.tiles_most;
        places = block_fits;
        line_fits = room_fits;
      })

-- the tiles' blocks are the inner elements
inner_part :
    (out : Bool) (s n stride columns at x y lead first count inner tail line : ℕ) (source m : List ℕ)
    (asked : RowAsked out s n stride columns at x y lead first count inner tail line (length source) (length m)) →
    moved (row_moves out (block_place (row_start at columns n y) (y * n / 32)) n (8 * first) (line + lead * s) (8 * count)) source m ≡
    moved (row_moves out (element_place true s (stride / s) at y) s (x + lead) (line + lead * s) inner) source m
inner_part out s n stride columns at x y lead first zero inner tail line source m asked =
    sym (none_in_row out (block_place (row_start at columns n y) (y * n / 32)) n (8 * first) (line + lead * s) (8 * 0) source m (omega arith)) ∙
    none_in_row out (element_place true s (stride / s) at y) s (x + lead) (line + lead * s) inner source m (omega (arith, asked.inner_is))
inner_part out s n stride columns at x y lead first (suc count) inner tail line source m asked =
    ap₂ (λ (a b : ℕ). moved (row_moves out (block_place a (y * b / 32)) b (8 * first) (line + lead * s) (8 * suc count)) source m)
    (same_start out s n stride columns at x y lead first (suc count) inner tail line (length source) (length m) asked) asked.bytes ∙
    blocks_elements out s (stride / s) at y asked.runs.size source m (8 * first) (line + lead * s) (8 * suc count) asked.some
    (λ k h.
    subst₂ (λ (a b : ℕ). block_place a (y * b / 32) (8 * first + k) + b ≤ memory_of out (length source) (length m))
    (same_start out s n stride columns at x y lead first (suc count) inner tail line (length source) (length m) asked) asked.bytes
    (block_fits out s n stride columns at x y lead first (suc count) inner tail line (length source) (length m) asked k h))
    (subst (λ (q : ℕ). line + lead * s + 8 * suc count * q ≤ room_of out (length source) (length m)) asked.bytes
    (room_fits out s n stride columns at x y lead first (suc count) inner tail line (length source) (length m) asked)) ∙
    ap₂ (λ (a b : ℕ). moved (row_moves out (element_place true s (stride / s) at y) s a (line + lead * s) b) source m)
    (sym (asked.begins (omega arith))) (sym asked.inner_is)

pub three_parts :
    (out : Bool) (s n stride columns at x y lead first count inner tail line : ℕ) (source m m1 m2 m3 : List ℕ)
    (asked : RowAsked out s n stride columns at x y lead first count inner tail line (length source) (length m)) →
    length m1 ≡ length m → m1 ≡ moved (row_moves out (element_place true s (stride / s) at y) s x line lead) source m →
    m2 ≡ moved (row_moves out (block_place (row_start at columns n y) (y * n / 32)) n (8 * first) (line + lead * s) (8 * count)) source m1 →
    m3 ≡ moved (row_moves out (element_place true s (stride / s) at y) s (x + (lead + inner)) (line + (lead + inner) * s) tail) source m2 →
    m3 ≡ moved (row_moves out (element_place true s (stride / s) at y) s x line (lead + inner + tail)) source m
three_parts out s n stride columns at x y lead first count inner tail line source m m1 m2 m3 asked long e1 e2 e3 =
    e3 ∙
    ap (λ (q : List ℕ). moved (row_moves out P s (x + (lead + inner)) (line + (lead + inner) * s) tail) source q)
    (e2 ∙
    inner_part out s n stride columns at x y lead first count inner tail line source m1
    (subst (RowAsked out s n stride columns at x y lead first count inner tail line (length source)) (sym long) asked) ∙
    ap (λ (q : List ℕ). moved (row_moves out P s (x + lead) (line + lead * s) inner) source q) e1 ∙
    sym (row_add out P s source x line lead inner (x + lead) (line + lead * s) m refl refl)) ∙
    sym (row_add out P s source x line (lead + inner) tail (x + (lead + inner)) (line + (lead + inner) * s) m refl refl)
  where
    P : ℕ → ℕ
    P = element_place true s (stride / s) at y

-- rows one after the other
pub rect_last :
    (out : Bool) (place : ℕ → ℕ → ℕ) (s x w line y : ℕ) (source m : List ℕ) (h : ℕ) →
    moved (rect_moves out place s x w line y (h + 1)) source m ≡
    moved (row_moves out (place (y + h)) s x (line + h * (w * s)) w) source (moved (rect_moves out place s x w line y h) source m)
unfolding moved
rect_last out place s x w line y source m zero =
    moved_both (row_moves out (place y) s x line w) [] source m ∙
    ap₂ (λ (a b : ℕ). moved (row_moves out (place a) s x b w) source m) {x = y} {y = y + 0} {u = line} {v = line + 0 * (w * s)}
    (omega arith) (omega arith)
rect_last out place s x w line y source m (suc h) =
    ap (λ (q : ℕ). moved (rect_moves out place s x w line y q) source m) {x = suc h + 1} {y = suc (h + 1)} (omega arith) ∙
    moved_both (row_moves out (place y) s x line w) (rect_moves out place s x w (line + w * s) (suc y) (h + 1)) source m ∙
    rect_last out place s x w (line + w * s) (suc y) source (moved (row_moves out (place y) s x line w) source m) h ∙
    ap₂ (λ (a b : ℕ). moved (row_moves out (place a) s x b w) source (moved (rect_moves out place s x w (line + w * s) (suc y) h) source (moved (row_moves out (place y) s x line w) source m)))
    {x = suc y + h} {y = y + suc h} {u = line + w * s + h * (w * s)} {v = line + suc h * (w * s)}
    (omega arith)
    (omega (arith, ap (λ (q : ℕ). q * (w * s)) {x = suc h} {y = h + 1} (omega arith), add-mul h 1 (w * s))) ∙
    ap (λ (q : List ℕ). moved (row_moves out (place (y + suc h)) s x (line + suc h * (w * s)) w) source q)
    (sym (moved_both (row_moves out (place y) s x line w) (rect_moves out place s x w (line + w * s) (suc y) h) source m))

pub record RectGoing (out : Bool) (place : ℕ → ℕ → ℕ) (s x w y rows : ℕ) (source m₀ : List ℕ) (j line : ℕ) (m : List ℕ) : Type 0 where
  pub up : j ≤ rows
  pub line_at : line ≡ 0 + j * (w * s)
  pub long : length m ≡ length m₀
  pub so_far : m ≡ moved (rect_moves out place s x w 0 y j) source m₀

module _ (out : Bool) (place : ℕ → ℕ → ℕ) (s x w y rows : ℕ) (source m₀ : List ℕ) where
  pub rect_start : RectGoing out place s x w y rows source m₀ 0 0 m₀
  unfolding moved
  rect_start = record { up = omega arith; line_at = omega arith; long = refl; so_far = refl }

  pub rect_next :
      (j line : ℕ) (m m' : List ℕ) → RectGoing out place s x w y rows source m₀ j line m → j < rows → length m' ≡ length m →
      m' ≡ moved (row_moves out (place (y + j)) s x line w) source m →
      RectGoing out place s x w y rows source m₀ (j + 1) (line + w * s) m'
  rect_next j line m m' g h same e =
      record {
        up = omega (arith, h);
        line_at = omega (arith, g.line_at, add-mul j 1 (w * s));
        long = same ∙ g.long;
        so_far =
            e ∙ ap₂ (λ (a : ℕ) (q : List ℕ). moved (row_moves out (place (y + j)) s x a w) source q) g.line_at g.so_far ∙
            sym (rect_last out place s x w 0 y source m₀ j);
      }

  pub rect_done :
      (j line : ℕ) (m : List ℕ) → RectGoing out place s x w y rows source m₀ j line m → rows ≤ j →
      m ≡ moved (rect_moves out place s x w 0 y rows) source m₀
  rect_done j line m g h =
      g.so_far ∙ ap (λ (q : ℕ). moved (rect_moves out place s x w 0 y q) source m₀) {x = j} {y = rows} (omega (arith, g.up, h))

pub row_asked :
    (out : Bool) (s n stride columns at x y lead first count inner tail rows source target : ℕ) →
    RectAsked out s n stride columns at x y lead first count inner tail rows source target →
    (j line target' : ℕ) → j < rows → line ≡ 0 + j * ((lead + inner + tail) * s) → target' ≡ target →
    RowAsked out s n stride columns at x (y + j) lead first count inner tail line source target'
row_asked out s n stride columns at x y lead first count inner tail rows source target asked j line target' h el et =
    subst₂ (λ (a b : ℕ). RowAsked out s n stride columns at x (y + j) lead first count inner tail a source b) (sym el) (sym et) (asked.row j h)

pub rect_bytes :
    (out : Bool) (s n stride columns at x y lead first count inner tail rows source target : ℕ) →
    RectAsked out s n stride columns at x y lead first count inner tail rows source target →
    (lead + inner + tail) * s ≤ 65536
rect_bytes out s n stride columns at x y lead first count inner tail rows source target asked =
    let z : (lead + inner + tail) * s ≤ 4096 * 16 = mul-le-mul asked.width_most asked.size_most in omega (arith, z)

pub line_in :
    (out : Bool) (s n stride columns at x y lead first count inner tail rows source target : ℕ) →
    RectAsked out s n stride columns at x y lead first count inner tail rows source target →
    (j line : ℕ) → j < rows → line ≡ 0 + j * ((lead + inner + tail) * s) → line + (lead + inner + tail) * s ≤ 2 ^ 32
line_in out s n stride columns at x y lead first count inner tail rows source target asked j line h el =
    let r = (asked.row j h).runs in omega (arith, r.line_fits, r.room_most, el)
