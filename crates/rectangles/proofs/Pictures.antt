-- What the moves of a rectangle leave, in document 01's terms: the room's elements laid at their pairs' addresses, or the reads of the
-- pairs. Assumes nothing.
use mathlib.Core.Path.{◌≡◌, refl, sym, ap, ap₂, ◌∙◌, subst, subst₂}
use mathlib.Core.Bool.{Bool, true, false}
use mathlib.Core.List.{List, [], ◌∷◌, ◌++◌, append_assoc, append-nil}
use Prim.Native.Nat.{ℕ, zero, suc, ◌+◌, ◌-◌, ◌*◌, ◌<◌, ◌≤◌}
use native.Mathlib.Nat.{add-mul, mul_assoc, add-sub_cancel_left}
use native.Mathlib.Omega.{arith}
use lib.ListN.{length, take, drop, length-drop, length-append}
use lib.Seq.{length-take-le, take-append_seam, drop-append-add, drop-drop, drop-length}
use Rattle.layout.specs.declared.Layout.{Layout}
use Rattle.address.specs.Address.{step_of, address_of}
use Rattle.memory.specs.Elements.{bytes_at, element_of, overwritten}
use Rattle.picture.specs.Picture.{Spot, Scene, row_from, rows_from, laid}
use Rattle.picture.proofs.Pictures.{lays}
use Rattle.rectangles.specs.Moves.{Move, part_of, moved, turned, along, row_move, row_moves, element_place}
use Rattle.rectangles.specs.Rows.{rect_moves}
use Rattle.rectangles.specs.Rectangles.{given_at, scene_of, row_reads, reads_of}
use Rattle.rectangles.proofs.Moves.{moved_both}

once_more : (n k : ℕ) → suc n * k ≡ n * k + k
once_more n k =
    let e = add-mul n 1 k in
    let f : suc n * k ≡ (n + 1) * k = ap (λ (q : ℕ). q * k) {x = suc n} {y = n + 1} (omega arith) in
    omega (arith, e, f)

-- elements laid one list of spots after the other
laid_both : (c : Scene) (first : ℕ) (ks js : List Spot) (m : List ℕ) → laid c first (ks ++ js) m ≡ laid c first js (laid c first ks m)
unfolding laid
laid_both c first [] js m = refl
laid_both c first (k ∷ ks) js m = laid_both c first ks js _

module _ (l : Layout) (first : ℕ) (low : first ≤ l.base.0) where
  abbrev s : ℕ
  s = l.size

  abbrev pub place : ℕ → ℕ → ℕ
  place = element_place l.tiled l.size (step_of l) (l.base.0 - first)

  -- where an element stands in memory is its address, counted from the first byte's
  place_is : (y x : ℕ) → place y x ≡ address_of l x y - first
  unfolding address_of
  place_is y x = omega (arith, low)

  module _ (x y w : ℕ) (room : List ℕ) where
    -- the element of the pair i columns and j rows on, in the room
    line_is : (i j : ℕ) → j * (w * s) + i * s ≡ (((y + j) - y) * w + ((x + i) - x)) * s
    line_is i j =
        sym
        (ap₂ (λ (a b : ℕ). (a * w + b) * s) (add-sub_cancel_left y j) (add-sub_cancel_left x i) ∙ add-mul (j * w) i s ∙
        ap (λ (q : ℕ). q + i * s) (mul_assoc j w s))

    row_laid :
        (j i n : ℕ) (m : List ℕ) →
        moved (along (row_move false (place (y + j)) s x (j * (w * s))) i n) room m ≡
        laid (scene_of l x y w room) first (row_from 0 (x + i) n (y + j)) m
    unfolding moved laid
    row_laid j i zero m = refl
    row_laid j i (suc n) m =
        row_laid j (suc i) n _ ∙
        ap₂ (λ (a : ℕ) (q : List ℕ). laid (scene_of l x y w room) first (row_from 0 a n (y + j)) q)
        {x = x + suc i} {y = suc (x + i)} (omega arith)
        (ap₂ (λ (a b : ℕ). overwritten a (take s (drop b room)) m) (place_is (y + j) (x + i)) (line_is i j))

    rect_laid :
        (h j line : ℕ) (m : List ℕ) → line ≡ j * (w * s) →
        moved (rect_moves false place s x w line (y + j) h) room m ≡
        laid (scene_of l x y w room) first (rows_from 0 x w (y + j) h) m
    unfolding moved laid
    rect_laid zero j line m e = refl
    rect_laid (suc h) j line m e =
        ap (λ (q : ℕ). moved (rect_moves false place s x w q (y + j) (suc h)) room m) e ∙
        moved_both (row_moves false (place (y + j)) s x (j * (w * s)) w) _ room m ∙
        ap₂ (λ (a : ℕ) (q : List ℕ). moved (rect_moves false place s x w (j * (w * s) + w * s) a h) room q)
        {x = suc (y + j)} {y = y + suc j} (omega arith)
        (row_laid j 0 w m ∙
        ap (λ (a : ℕ). laid (scene_of l x y w room) first (row_from 0 a w (y + j)) m) {x = x + 0} {y = x} (omega arith)) ∙
        rect_laid h (suc j) (j * (w * s) + w * s) _ (sym (once_more j (w * s))) ∙
        ap (λ (a : ℕ). laid (scene_of l x y w room) first (rows_from 0 x w a h) (laid (scene_of l x y w room) first (row_from 0 x w (y + j)) m))
        {x = y + suc j} {y = suc (y + j)} (omega arith) ∙
        sym (laid_both (scene_of l x y w room) first (row_from 0 x w (y + j)) _ m)

    -- a rectangle painted from the room
    pub painted_in :
        (h : ℕ) (m : List ℕ) →
        moved (rect_moves false place s x w 0 y h) room m ≡ laid (scene_of l x y w room) first (rows_from 0 x w y h) m
    painted_in h m =
        ap (λ (a : ℕ). moved (rect_moves false place s x w 0 a h) room m) {x = y} {y = y + 0} (omega arith) ∙
        rect_laid h 0 0 m (omega arith) ∙
        ap (λ (a : ℕ). laid (scene_of l x y w room) first (rows_from 0 x w a h) m) {x = y + 0} {y = y} (omega arith)

  module _ (memory : List ℕ) where
    -- a part put in right behind what stands before it
    put_behind : (before rest part : List ℕ) (at : ℕ) → length before ≡ at → overwritten at part (before ++ rest) ≡ (before ++ part) ++ drop (length part) rest
    unfolding overwritten
    put_behind before rest part at e =
        ap (λ (a : ℕ). take a (before ++ rest) ++ (part ++ drop (a + length part) (before ++ rest))) (sym e) ∙
        ap₂ (λ (f g : List ℕ). f ++ (part ++ g)) (take-append_seam before rest) (drop-append-add before rest (length part)) ∙
        sym (append_assoc before part (drop (length part) rest))

    element_is : (x y : ℕ) → take s (drop (place y x) memory) ≡ element_of l x y first memory
    unfolding bytes_at
    element_is x y = ap (λ (a : ℕ). take s (drop a memory)) (place_is y x)

    module _ (x y : ℕ) where
      part_length : (i : ℕ) → place y (x + i) + s ≤ length memory → length (take s (drop (place y (x + i)) memory)) ≡ s
      part_length i fit = length-take-le s (drop (place y (x + i)) memory) (omega (arith, length-drop (place y (x + i)) memory, fit))

      row_reads_lem :
          (line i n : ℕ) (before rest : List ℕ) → length before ≡ line + i * s →
          ((k : ℕ) → k < n → place y (x + (i + k)) + s ≤ length memory) →
          moved (along (row_move true (place y) s x line) i n) memory (before ++ rest) ≡
          before ++ (row_reads l (x + i) n y first memory ++ drop (n * s) rest)
      unfolding moved
      row_reads_lem line i zero before rest e fits =
          ap (λ (a : ℕ). before ++ drop a rest) {x = 0} {y = 0 * s} (omega arith)
      row_reads_lem line i (suc n) before rest e fits =
          let part = take s (drop (place y (x + i)) memory) in
          let long : length part ≡ s = part_length i (subst (λ (a : ℕ). place y (x + a) + s ≤ length memory) {x = i + 0} {y = i} (omega arith) (fits 0 (omega arith))) in
          ap (moved (along (row_move true (place y) s x line) (suc i) n) memory) (put_behind before rest part (line + i * s) e) ∙
          row_reads_lem line (suc i) n (before ++ part) (drop (length part) rest)
          (length-append before part ∙ ap₂ (λ (a b : ℕ). a + b) e long ∙ (let f = once_more i s in omega (arith, f)))
          (λ k hk. subst (λ (a : ℕ). place y (x + a) + s ≤ length memory) {x = i + suc k} {y = suc i + k} (omega arith) (fits (suc k) (omega (arith, hk)))) ∙
          append_assoc before part _ ∙
          ap (λ (q : List ℕ). before ++ q)
          (sym (append_assoc part (row_reads l (x + suc i) n y first memory) _) ∙
          ap₂ (λ (f g : List ℕ). f ++ g)
          (ap₂ (λ (a : List ℕ) (b : ℕ). a ++ row_reads l b n y first memory) {u = x + suc i} {v = suc (x + i)} (element_is (x + i) y) (omega arith))
          (ap (λ (a : ℕ). drop (n * s) (drop a rest)) long ∙ drop-drop (n * s) s rest ∙
          ap (λ (a : ℕ). drop a rest) {x = s + n * s} {y = suc n * s} (let f = once_more n s in omega (arith, f))))

      row_long :
          (i n : ℕ) → ((k : ℕ) → k < n → place y (x + (i + k)) + s ≤ length memory) → length (row_reads l (x + i) n y first memory) ≡ n * s
      row_long i zero fits = omega arith
      row_long i (suc n) fits =
          length-append (element_of l (x + i) y first memory) (row_reads l (suc (x + i)) n y first memory) ∙
          ap₂ (λ (a b : ℕ). a + b)
          (ap length (sym (element_is (x + i) y)) ∙
          part_length i (subst (λ (a : ℕ). place y (x + a) + s ≤ length memory) {x = i + 0} {y = i} (omega arith) (fits 0 (omega arith))))
          (ap (λ (a : ℕ). length (row_reads l a n y first memory)) {x = suc (x + i)} {y = x + suc i} (omega arith) ∙
          row_long (suc i) n
          (λ k hk. subst (λ (a : ℕ). place y (x + a) + s ≤ length memory) {x = i + suc k} {y = suc i + k} (omega arith) (fits (suc k) (omega (arith, hk))))) ∙
          (let e = once_more n s in omega (arith, e))

    rows_read :
        (x w h y line : ℕ) (before rest : List ℕ) → length before ≡ line →
        ((j i : ℕ) → j < h → i < w → place (y + j) (x + i) + s ≤ length memory) →
        moved (rect_moves true place s x w line y h) memory (before ++ rest) ≡
        before ++ (reads_of l x y w h first memory ++ drop (h * (w * s)) rest)
    unfolding moved reads_of
    rows_read x w zero y line before rest e fits = ap (λ (a : ℕ). before ++ drop a rest) {x = 0} {y = 0 * (w * s)} (omega arith)
    rows_read x w (suc h) y line before rest e fits =
        moved_both (row_moves true (place y) s x line w) _ memory (before ++ rest) ∙
        ap (moved (rect_moves true place s x w (line + w * s) (suc y) h) memory)
        (row_reads_lem x y line 0 w before rest (omega (arith, e)) here ∙
        ap (λ (a : ℕ). before ++ (row_reads l a w y first memory ++ drop (w * s) rest)) {x = x + 0} {y = x} (omega arith) ∙
        sym (append_assoc before row (drop (w * s) rest))) ∙
        rows_read x w h (suc y) (line + w * s) (before ++ row) (drop (w * s) rest)
        (length-append before row ∙ ap₂ (λ (a b : ℕ). a + b) e row_is)
        (λ j i hj hi. subst (λ (a : ℕ). place a (x + i) + s ≤ length memory) {x = y + suc j} {y = suc y + j} (omega arith) (fits (suc j) i (omega (arith, hj)) hi)) ∙
        append_assoc before row _ ∙
        ap (λ (q : List ℕ). before ++ q)
        (sym (append_assoc row (reads_of l x (suc y) w h first memory) _) ∙
        ap (λ (q : List ℕ). row ++ reads_of l x (suc y) w h first memory ++ q)
        (drop-drop (h * (w * s)) (w * s) rest ∙ ap (λ (a : ℕ). drop a rest) {x = w * s + h * (w * s)} {y = suc h * (w * s)} (let f = once_more h (w * s) in omega (arith, f))))
      where
        row : List ℕ
        row = row_reads l x w y first memory

        here : (k : ℕ) → k < w → place y (x + (0 + k)) + s ≤ length memory
        here k hk =
            subst₂ (λ (a b : ℕ). place a (x + b) + s ≤ length memory) {x = y + 0} {y = y} {u = k} {v = 0 + k} (omega arith) (omega arith)
            (fits 0 k (omega arith) hk)

        row_is : length row ≡ w * s
        row_is = ap (λ (a : ℕ). length (row_reads l a w y first memory)) {x = x} {y = x + 0} (omega arith) ∙ row_long x y 0 w here

    -- a rectangle copied into a room of just its bytes
    pub copied_out :
        (x y w h : ℕ) (room : List ℕ) → ((j i : ℕ) → j < h → i < w → place (y + j) (x + i) + s ≤ length memory) →
        length room ≡ h * (w * s) → moved (rect_moves true place s x w 0 y h) memory room ≡ reads_of l x y w h first memory
    copied_out x y w h room fits long =
        rows_read x w h y 0 [] room refl fits ∙
        ap (λ (q : List ℕ). reads_of l x y w h first memory ++ q) (ap (λ (a : ℕ). drop a room) (sym long) ∙ drop-length room) ∙
        append-nil (reads_of l x y w h first memory)
