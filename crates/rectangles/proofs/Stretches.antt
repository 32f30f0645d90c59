-- Stretches: parts side by side are one, and a run of elements is one stretch. Assumes nothing.
use mathlib.Core.Path.{◌≡◌, refl, sym, ap, ap₂, ◌∙◌, subst}
use mathlib.Core.Bool.{Bool, true, false}
use mathlib.Core.List.{List, [], ◌∷◌, ◌++◌, append_assoc}
use Prim.Native.Nat.{ℕ, zero, suc, ◌+◌, ◌-◌, ◌*◌, ◌/◌, ◌<◌, ◌≤◌, ◌^◌}
use native.Mathlib.Nat.{add-mul, mul-le-mul, mul-le-mul_right}
use native.Mathlib.Omega.{arith}
use mir.Val.{Fits}
use mir.Syntax.{w32, w64}
use lib.ListN.{length, take, drop, length-drop, length-append, take-append-drop}
use lib.Seq.{length-take-le, take-add, drop-drop, take_at, drop-append-add}
use Rattle.layout.specs.Sizes.{is_size}
use Rattle.layout.proofs.Sizes.{by_size}
use Rattle.address.specs.Asked.{PairAsked}
use Rattle.address.specs.Offset.{offset_of}
use Rattle.address.specs.Run.{run_number}
use Rattle.memory.specs.Elements.{overwritten}
use Rattle.memory.proofs.Overwritten.{length_overwritten}
use Rattle.rectangles.specs.Moves.{Move, part_of, moved, turned, memory_of, room_of, along, row_move, row_moves, PartAsked, StretchAsked, RunsAsked, element_place}
use Rattle.rectangles.proofs.Moves.{part_length, length_one, turned_fits}
use Rattle.rectangles.proofs.RowMoves.{row_add, RowGoing, row_start_lem, row_next}

-- two parts side by side are one
side_by_side :
    (a : ℕ) (g h m : List ℕ) → a + length g ≤ length m →
    overwritten (a + length g) h (overwritten a g m) ≡ overwritten a (g ++ h) m
unfolding overwritten
side_by_side a g h m fits =
    ap₂ (λ (p q : List ℕ). p ++ (h ++ q)) before after ∙ append_assoc (take a m) g (h ++ rest) ∙
    ap (λ (q : List ℕ). take a m ++ q) (sym (append_assoc g h rest))
  where
    front : length (take a m) ≡ a
    front = length-take-le a m (omega arith)

    rest : List ℕ
    rest = drop (a + length (g ++ h)) m

    head : length (take a m ++ g) ≡ a + length g
    head = length-append (take a m) g ∙ ap (λ (n : ℕ). n + length g) front

    before : take (a + length g) (take a m ++ (g ++ drop (a + length g) m)) ≡ take a m ++ g
    before =
        ap (λ (q : List ℕ). take (a + length g) q) (sym (append_assoc (take a m) g (drop (a + length g) m))) ∙
        take_at (take a m ++ g) (drop (a + length g) m) (a + length g) head

    after : drop (a + length g + length h) (take a m ++ (g ++ drop (a + length g) m)) ≡ rest
    after =
        ap₂ (λ (n : ℕ) (q : List ℕ). drop n q) (ap (λ (n : ℕ). n + length h) (sym head)) (sym (append_assoc (take a m) g (drop (a + length g) m))) ∙
        drop-append-add (take a m ++ g) (drop (a + length g) m) (length h) ∙ drop-drop (length h) (a + length g) m ∙
        ap (λ (n : ℕ). drop n m) {x = a + length g + length h} {y = a + length (g ++ h)} (omega (arith, length-append g h))

-- a part's first bytes, then those after them
join :
    (a b i k : ℕ) (source m : List ℕ) → a + i ≤ length source → b + i ≤ length m →
    overwritten (b + i) (take k (drop (a + i) source)) (overwritten b (take i (drop a source)) m) ≡
    overwritten b (take (i + k) (drop a source)) m
join a b i k source m from_fits to_fits =
    ap (λ (q : ℕ). overwritten (b + q) (take k (drop (a + i) source)) (overwritten b (take i (drop a source)) m)) (sym whole) ∙
    side_by_side b (take i (drop a source)) (take k (drop (a + i) source)) m (omega (arith, whole, to_fits)) ∙
    ap (λ (q : List ℕ). overwritten b q m)
    (ap (λ (q : List ℕ). take i (drop a source) ++ take k q)
    (ap (λ (q : ℕ). drop q source) {x = a + i} {y = a + i} refl ∙ sym (drop-drop i a source)) ∙
    sym (take-add i k (drop a source)))
  where
    whole : length (take i (drop a source)) ≡ i
    whole = part_length source a i from_fits

pub joined :
    (out : Bool) (place line i k : ℕ) (source m : List ℕ) → place + i ≤ memory_of out (length source) (length m) →
    line + i ≤ room_of out (length source) (length m) →
    moved (turned out (place + i) (line + i) k ∷ []) source (moved (turned out place line i ∷ []) source m) ≡
    moved (turned out place line (i + k) ∷ []) source m
unfolding moved
joined true place line i k source m p q = join place line i k source m p q
joined false place line i k source m p q = join line place i k source m q p

-- of two parts at the same place the second stays, where it is no shorter
again :
    (a : ℕ) (g h m : List ℕ) → length h ≤ length g → a + length g ≤ length m → overwritten a g (overwritten a h m) ≡ overwritten a g m
unfolding overwritten
again a g h m less fits =
    ap₂ (λ (p q : List ℕ). p ++ (g ++ q)) (take_at (take a m) (h ++ drop (a + length h) m) a front) after
  where
    front : length (take a m) ≡ a
    front = length-take-le a m (omega (arith, fits))

    head : length (take a m ++ h) ≡ a + length h
    head = length-append (take a m) h ∙ ap (λ (n : ℕ). n + length h) front

    after : drop (a + length g) (take a m ++ (h ++ drop (a + length h) m)) ≡ drop (a + length g) m
    after =
        ap₂ (λ (n : ℕ) (q : List ℕ). drop n q) {x = a + length g} {y = length (take a m ++ h) + (length g - length h)} (omega (arith, head, less))
        (sym (append_assoc (take a m) h (drop (a + length h) m))) ∙
        drop-append-add (take a m ++ h) (drop (a + length h) m) (length g - length h) ∙ drop-drop (length g - length h) (a + length h) m ∙
        ap (λ (n : ℕ). drop n m) {x = a + length h + (length g - length h)} {y = a + length g} (omega (arith, less))

again_part :
    (a b j k : ℕ) (source m : List ℕ) → j ≤ k → a + k ≤ length source → b + k ≤ length m →
    overwritten b (take k (drop a source)) (overwritten b (take j (drop a source)) m) ≡ overwritten b (take k (drop a source)) m
again_part a b j k source m less from_fits to_fits =
    again b (take k (drop a source)) (take j (drop a source)) m
    (omega (arith, part_length source a j (omega (arith, less, from_fits)), part_length source a k from_fits, less))
    (omega (arith, part_length source a k from_fits, to_fits))

moved_again :
    (out : Bool) (place line j k : ℕ) (source m : List ℕ) → j ≤ k → place + k ≤ memory_of out (length source) (length m) →
    line + k ≤ room_of out (length source) (length m) →
    moved (turned out place line k ∷ []) source (moved (turned out place line j ∷ []) source m) ≡ moved (turned out place line k ∷ []) source m
unfolding moved
moved_again true place line j k source m less p q = again_part place line j k source m less p q
moved_again false place line j k source m less p q = again_part line place j k source m less q p

length_moved :
    (out : Bool) (place line n : ℕ) (source m : List ℕ) → place + n ≤ memory_of out (length source) (length m) →
    line + n ≤ room_of out (length source) (length m) → length (moved (turned out place line n ∷ []) source m) ≡ length m
unfolding moved
length_moved out place line n source m p q =
    length_one (turned out place line n) source m (turned_fits out place line n (length source) (length m) p q)

-- the first `i` bytes of a stretch, then its last `k`, over some of the same: all of it
pub overlapped :
    (out : Bool) (place line n i k a : ℕ) (source m : List ℕ) → place + n ≤ memory_of out (length source) (length m) →
    line + n ≤ room_of out (length source) (length m) → a ≤ i → i ≤ n → a + k ≡ n →
    moved (turned out (place + a) (line + a) k ∷ []) source (moved (turned out place line i ∷ []) source m) ≡
    moved (turned out place line n ∷ []) source m
overlapped out place line n i k a source m p q low up all =
    ap (λ (l : List ℕ). moved (turned out (place + a) (line + a) k ∷ []) source l)
    (ap (λ (j : ℕ). moved (turned out place line j ∷ []) source m) {x = i} {y = a + (i - a)} (omega (arith, low)) ∙
    sym (joined out place line a (i - a) source m p_first q_first)) ∙
    moved_again out (place + a) (line + a) (i - a) k source before (omega (arith, up, all))
    (subst (λ (l : ℕ). place + a + k ≤ memory_of out (length source) l) (sym long) (omega (arith, p, all)))
    (subst (λ (l : ℕ). line + a + k ≤ room_of out (length source) l) (sym long) (omega (arith, q, all))) ∙
    joined out place line a k source m p_first q_first ∙
    ap (λ (j : ℕ). moved (turned out place line j ∷ []) source m) all
  where
    before : List ℕ
    before = moved (turned out place line a ∷ []) source m

    p_first : place + a ≤ memory_of out (length source) (length m)
    p_first = omega (arith, p, all)

    q_first : line + a ≤ room_of out (length source) (length m)
    q_first = omega (arith, q, all)

    long : length before ≡ length m
    long = length_moved out place line a source m p_first q_first

nothing : (a b : ℕ) (source m : List ℕ) → overwritten b (take 0 (drop a source)) m ≡ m
unfolding overwritten
nothing a b source m =
    ap (λ (q : List ℕ). take b m ++ q) (ap (λ (n : ℕ). drop n m) {x = b + 0} {y = b} (omega arith)) ∙ take-append-drop b m

pub none_moved : (out : Bool) (place line : ℕ) (source m : List ℕ) → moved (turned out place line 0 ∷ []) source m ≡ m
unfolding moved
none_moved true place line source m = nothing place line source m
none_moved false place line source m = nothing line place source m

-- a stretch of which `i` bytes are moved
pub record StretchGoing (out : Bool) (place line n : ℕ) (source m₀ : List ℕ) (i : ℕ) (m : List ℕ) : Type 0 where
  pub up : i ≤ n
  pub long : length m ≡ length m₀
  pub so_far : m ≡ moved (turned out place line i ∷ []) source m₀

module _ (out : Bool) (place line n : ℕ) (source m₀ : List ℕ) (asked : StretchAsked out place line n (length source) (length m₀)) where
  pub stretch_start : StretchGoing out place line n source m₀ 0 m₀
  stretch_start = record { up = omega arith; long = refl; so_far = sym (none_moved out place line source m₀) }

  -- its first `i` bytes
  pub begun :
      (i : ℕ) (m : List ℕ) → i ≤ n → length m ≡ length m₀ → m ≡ moved (turned out place line i ∷ []) source m₀ →
      StretchGoing out place line n source m₀ i m
  begun i m h long e = record { up = h; long = long; so_far = e }

  module _ (i : ℕ) (m : List ℕ) (g : StretchGoing out place line n source m₀ i m) where
    pub part_asked : (k : ℕ) → k ≤ 32 → i + k ≤ n → PartAsked out (place + i) (line + i) k (length source) (length m)
    part_asked k few h =
        subst (PartAsked out (place + i) (line + i) k (length source)) (sym g.long)
        (record { few = few; place_fits = omega (arith, asked.place_fits, h); line_fits = omega (arith, asked.line_fits, h) })

    pub sums_fit : (k : ℕ) → k ≤ n → Fits w64 (place + k) × Fits w64 (line + k)
    sums_fit k h = (omega (arith, asked.place_fits, asked.memory_most, h), omega (arith, asked.line_fits, asked.room_most, h))

    pub stretch_next :
        (m' : List ℕ) → i < n - 32 → length m' ≡ length m → m' ≡ moved (turned out (place + i) (line + i) 32 ∷ []) source m →
        StretchGoing out place line n source m₀ (i + 32) m'
    stretch_next m' h same e =
        record {
          up = omega (arith, h);
          long = same ∙ g.long;
          so_far =
              e ∙ ap (λ (q : List ℕ). moved (turned out (place + i) (line + i) 32 ∷ []) source q) g.so_far ∙
              joined out place line i 32 source m₀ (omega (arith, asked.place_fits, g.up)) (omega (arith, asked.line_fits, g.up));
        }

    -- the last `k` bytes
    pub stretch_end : (k : ℕ) → k ≤ 32 → k ≤ n → PartAsked out (place + (n - k)) (line + (n - k)) k (length source) (length m)
    stretch_end k few fit =
        subst (PartAsked out (place + (n - k)) (line + (n - k)) k (length source)) (sym g.long)
        (record { few = few; place_fits = omega (arith, asked.place_fits, fit); line_fits = omega (arith, asked.line_fits, fit) })

    pub stretch_done :
        (k : ℕ) (m' : List ℕ) → k ≤ n → n - k ≤ i → m' ≡ moved (turned out (place + (n - k)) (line + (n - k)) k ∷ []) source m →
        m' ≡ moved (turned out place line n ∷ []) source m₀
    stretch_done k m' fit low e =
        e ∙ ap (λ (q : List ℕ). moved (turned out (place + (n - k)) (line + (n - k)) k ∷ []) source q) g.so_far ∙
        overlapped out place line n i k (n - k) source m₀ asked.place_fits asked.line_fits low g.up (omega (arith, fit))

-- `k` elements that follow each other in memory are one stretch
pub one_stretch :
    (out : Bool) (place : ℕ → ℕ) (s x line : ℕ) (source m : List ℕ) (k : ℕ) →
    ((j : ℕ) → j < k → place (x + j) ≡ place x + j * s) → place x + k * s ≤ memory_of out (length source) (length m) →
    line + k * s ≤ room_of out (length source) (length m) →
    moved (row_moves out place s x line k) source m ≡ moved (turned out (place x) line (k * s) ∷ []) source m
unfolding moved
one_stretch out place s x line source m zero follow p q =
    sym (none_moved out (place x) line source m) ∙
    ap (λ (n : ℕ). moved (turned out (place x) line n ∷ []) source m) {x = 0} {y = 0 * s} (omega arith)
one_stretch out place s x line source m (suc k) follow p q =
    ap (λ (n : ℕ). moved (row_moves out place s x line n) source m) {x = suc k} {y = k + 1} (omega arith) ∙
    row_add out place s source x line k 1 (x + k) (line + k * s) m refl refl ∙
    ap (λ (l : List ℕ). moved (row_moves out place s (x + k) (line + k * s) 1) source l)
    (one_stretch out place s x line source m k (λ j h. follow j (omega (arith, h))) (omega (arith, p, all)) (omega (arith, q, all))) ∙
    ap₂ (λ (a b : ℕ). moved (turned out a b s ∷ []) source (moved (turned out (place x) line (k * s) ∷ []) source m))
    {x = place (x + k + 0)} {y = place x + k * s} {u = line + k * s + 0 * s} {v = line + k * s}
    (ap place {x = x + k + 0} {y = x + k} (omega arith) ∙ follow k (omega arith)) (omega arith) ∙
    joined out (place x) line (k * s) s source m (omega (arith, p, all)) (omega (arith, q, all)) ∙
    ap (λ (n : ℕ). moved (turned out (place x) line n ∷ []) source m) (sym all)
  where
    all : suc k * s ≡ k * s + s
    all = ap (λ (n : ℕ). n * s) {x = suc k} {y = k + 1} (omega arith) ∙ add-mul k 1 s ∙ omega arith

positive : (s : ℕ) → is_size s ≡ true → 0 < s
positive = by_size (λ s. 0 < s) (omega arith) (omega arith) (omega arith) (omega arith) (omega arith)

product_most : (a b : ℕ) → a ≤ 4096 → b ≤ 16 → a * b ≤ 65536
product_most a b ha hb = mul-le-mul ha hb

-- a row, run by run
module _ (out tiled : Bool) (s stride at x y count line : ℕ) (source m₀ : List ℕ)
    (asked : RunsAsked out tiled s stride at x y count line (length source) (length m₀)) where
  abbrev e : ℕ
  e = stride / s

  abbrev P : ℕ → ℕ
  P = element_place tiled s e at y

  abbrev pub RunsGoing : ℕ → ℕ → List ℕ → Type 0
  RunsGoing i here m = (i ≤ count) × RowGoing out P s x line source m₀ i here m

  pub runs_start : RunsGoing 0 line m₀
  runs_start = (omega arith, row_start_lem out P s x line source m₀)

  pub runs_done : (i here : ℕ) (m : List ℕ) → RunsGoing i here m → count ≤ i → m ≡ moved (row_moves out P s x line count) source m₀
  runs_done i here m g h =
      g.1.so_far ∙ ap (λ (q : ℕ). moved (row_moves out P s x line q) source m₀) {x = i} {y = count} (omega (arith, g.0, h))

  module _ (i : ℕ) (h : i < count) where
    pub column_asked : PairAsked s e (x + i) y
    column_asked = record { size = asked.size; step = asked.step; column = omega (arith, asked.columns, h); row = asked.row }

    pub column_small : (x + i) * s < stride
    column_small =
        let more : x + i + 1 ≤ e = omega (arith, asked.columns, h) in
        let all = mul-le-mul_right s more in
        omega (arith, asked.whole, add-mul (x + i) 1 s, all, size_pos)
      where
        size_pos : 0 < s
        size_pos = positive s asked.size

    pub place_small : (o : ℕ) → o ≡ offset_of tiled s e (x + i) y → Fits w64 (at + o)
    place_small o same = omega (arith, asked.places i h, asked.memory_most, same)

    module _ (here many run o : ℕ) (m : List ℕ) (g : RunsGoing i here m) (same : o ≡ offset_of tiled s e (x + i) y)
        (er : run ≡ run_number tiled s e (x + i)) (few : (many ≤ run) × (many ≤ count - i) × (0 < run → 0 < count - i → 0 < many)) where
      pub some : 0 < many
      some = few.2 (subst (λ (q : ℕ). 0 < q) (sym er) (asked.some (x + i) (omega (arith, asked.columns, h)))) (omega (arith, h))

      pub bytes_small : (many * s ≤ 65536) × (here + many * s ≤ 2 ^ 32) × (i + many ≤ 4096)
      bytes_small = (
        omega (arith, product_most many s (omega (arith, few.1, asked.columns, asked.step)) asked.most),
        omega (arith, room, asked.room_most),
        omega (arith, few.1, asked.columns, asked.step),
      )
        where
          upto : i + many ≤ count
          upto = omega (arith, few.1, h)

          room : here + many * s ≤ room_of out (length source) (length m₀)
          room = omega (arith, asked.line_fits, g.1.line_at, add-mul i many s, mul-le-mul_right s upto)

      follows : (j : ℕ) → j < many → P (x + i + j) ≡ P (x + i) + j * s
      follows j hj =
          omega (arith, asked.follow (x + i) j (omega (arith, asked.columns, h)) (omega (arith, er, few.0, hj)))

      last : P (x + i) + many * s ≤ memory_of out (length source) (length m₀)
      last =
          let f = follows (many - 1) (omega (arith, some)) in
          let p = asked.places (i + (many - 1)) (omega (arith, few.1, some)) in
          let q : P (x + (i + (many - 1))) ≡ P (x + i + (many - 1)) = ap P {x = x + (i + (many - 1))} {y = x + i + (many - 1)} (omega arith) in
          let w : many * s ≡ (many - 1) * s + s =
          ap (λ (n : ℕ). n * s) {x = many} {y = many - 1 + 1} (omega (arith, some)) ∙ add-mul (many - 1) 1 s ∙ omega arith in
          omega (arith, f, p, q, w)

      room_fits : here + many * s ≤ room_of out (length source) (length m₀)
      room_fits =
          let upto : i + many ≤ count = omega (arith, few.1, h) in
          omega (arith, asked.line_fits, g.1.line_at, add-mul i many s, mul-le-mul_right s upto)

      pub run_asked : StretchAsked out (at + o) here (many * s) (length source) (length m)
      run_asked =
          subst (StretchAsked out (at + o) here (many * s) (length source)) (sym g.1.long)
          (record {
            memory_most = asked.memory_most;
            room_most = asked.room_most;
            place_fits = omega (arith, last, same);
            line_fits = room_fits;
          })

      pub runs_next :
          (m' : List ℕ) → length m' ≡ length m → m' ≡ moved (turned out (at + o) here (many * s) ∷ []) source m →
          RunsGoing (i + many) (here + many * s) m'
      runs_next m' long told = (
        omega (arith, few.1, h),
        row_next out P s x line source m₀ i many here (x + i) (here + many * s) m m' g.1 refl refl long
            (told ∙ ap (λ (q : ℕ). moved (turned out (at + q) here (many * s) ∷ []) source m) same ∙
            sym
            (one_stretch out P s (x + i) here source m many follows
            (subst (λ (q : ℕ). P (x + i) + many * s ≤ memory_of out (length source) q) (sym g.1.long) last)
            (subst (λ (q : ℕ). here + many * s ≤ room_of out (length source) q) (sym g.1.long) room_fits))),
      )
