-- Open loops in four cells, return by return; loops are read back from their cells; what an opening and a close keep. Assumes nothing.
use mathlib.Core.Path.{◌≡◌, refl, sym, ap, ◌∙◌, subst}
use mathlib.Core.Bool.{Bool, true, false}
use mathlib.Core.List.{List, [], ◌∷◌, ◌++◌}
use Prim.Native.Nat.{ℕ, zero, suc, ◌+◌, ◌-◌, ◌*◌, ◌/◌, ◌%◌, ◌<◌, ◌≤◌, zero-le}
use native.Mathlib.Nat.{not-suc-le-zero, le_of_suc-le-suc}
use native.Mathlib.Omega.{arith}
use lib.Dec.{eqb, leb, ltb}
use lib.ListN.{length, get_or}
use borrow.Author.Tests.{leb-true, leb-false, ltb-true, ltb-false, eqb-false, lt-ltb, le-ltb, le-leb, lt-leb, eq-eqb, ne_eqb}
use Rattle.laws.specs.Choice.{pick}
use Rattle.laws.proofs.Choice.{Tested, holds, fails, tested, pick_yes, pick_no, and_left, and_right, and_intro, by_pick}
use Rattle.std.specs.Prelude.{Result, Ok, Err}
use Rattle.refusal.specs.declared.Refusal.{Refusal}
use Rattle.refusal.specs.declared.Refusal.TheVariants.{AtLimit}
use Rattle.loops.specs.declared.OpenLoops.{OpenLoops}
use Rattle.loops.specs.declared.Turned.{Turned}
use Rattle.loops.specs.Loops.{Opened, Looping, Repeating, Turn, Turns, NoRoom, NoWord, field, entry_of, entering, opening, no_word, word_at, loop_told, places_told, loops_told, kind_at, stays, moved_to, closing, turn_of, shown_aL, loop_cell, loops_in, loops_of, cell_at, is_opened, are_opened, Held, turned}

-- the bounds of an open loop
pub record Bounds (n al step : ℕ) : Type 0 where
  pub some : 1 ≤ n
  pub few : n ≤ 255
  pub low : al ≤ 255
  pub byte : step ≤ 255

looping_bounds : (n al step : ℕ) → is_opened (Looping n al step) ≡ true → Bounds n al step
looping_bounds n al step e =
    let f = and_right (leb 1 n) _ e in
    let g = and_right (leb n 255) _ f in
    record {
      some = leb-true 1 n (and_left (leb 1 n) _ e);
      few = leb-true n 255 (and_left (leb n 255) _ f);
      low = leb-true al 255 (and_left (leb al 255) _ g);
      byte = leb-true step 255 (and_right (leb al 255) _ g);
    }

repeating_bounds : (n : ℕ) → is_opened (Repeating n) ≡ true → Bounds n 0 0
repeating_bounds n e =
    record {
      some = leb-true 1 n (and_left (leb 1 n) _ e);
      few = leb-true n 255 (and_right (leb 1 n) _ e);
      low = zero-le;
      byte = zero-le;
    }

head_sound : (o : Opened) (ls : List Opened) → are_opened (o ∷ ls) ≡ true → is_opened o ≡ true
unfolding are_opened
head_sound o ls e = and_left (is_opened o) (are_opened ls) e

tail_sound : (o : Opened) (ls : List Opened) → are_opened (o ∷ ls) ≡ true → are_opened ls ≡ true
unfolding are_opened
tail_sound o ls e = and_right (is_opened o) (are_opened ls) e

-- a cell past the last loop is 0, and one before it isn't
cell_above : (ls : List Opened) (k : ℕ) → length ls ≤ k → cell_at ls k ≡ 0
cell_above [] k h = refl
cell_above (o ∷ ls) zero h = absurd (not-suc-le-zero h)
cell_above (o ∷ ls) (suc k) h = cell_above ls k (le_of_suc-le-suc h)

cell_some : (o : Opened) → is_opened o ≡ true → 1 ≤ loop_cell o
cell_some (Looping n al step) e = let b = looping_bounds n al step e in omega arith
cell_some (Repeating n) e = (repeating_bounds n e).some

cell_below : (ls : List Opened) (k : ℕ) → are_opened ls ≡ true → k < length ls → 1 ≤ cell_at ls k
cell_below [] k s h = absurd (not-suc-le-zero h)
cell_below (o ∷ ls) zero s h = cell_some o (head_sound o ls s)
cell_below (o ∷ ls) (suc k) s h = cell_below ls k (tail_sound o ls s) (le_of_suc-le-suc h)

-- the fields of a LOOP's cell
record Parts (c n al step : ℕ) : Type 0 where
  count : c % 256 ≡ n
  start : c / 256 % 256 ≡ al
  stride : c / 65536 % 256 ≡ step
  high : 16777216 ≤ c
  kind : c / 16777216 ≡ 1

parts : {n al step : ℕ} → Bounds n al step → Parts (n + 256 * al + 65536 * step + 16777216) n al step
parts {n} {al} {step} b =
    record { count = omega arith; start = omega arith; stride = omega arith; high = omega arith; kind = omega arith }

abbrev full : Result Turned Refusal
full = Err AtLimit

abbrev answered : Bool → OpenLoops → Result Turned Refusal
answered jump loops = Ok (record { jump = jump; loops = loops })

-- a cell of 2 ^ 24 or more is a LOOP's
record Inner (ls : List Opened) (l0 l1 l2 l3 : ℕ) : Type 0 where
  count : ℕ
  al : ℕ
  step : ℕ
  rest : List Opened
  is : ls ≡ Looping count al step ∷ rest
  bounds : Bounds count al step
  fields : Parts l0 count al step
  held : Held (Looping count al step ∷ rest) l0 l1 l2 l3

module _ {l0 l1 l2 l3 : ℕ} where
  -- closing a REP
  pub rep_none : (ls : List Opened) → Held ls l0 l1 l2 l3 → l0 ≡ 0 → full ≡ turned (closing false ls)
  rep_none [] h z = refl
  rep_none (Looping n al step ∷ ls) h z = refl
  rep_none (Repeating n ∷ ls) h z =
      let b = repeating_bounds n (head_sound (Repeating n) ls h.sound) in
      let e : l0 ≡ n = h.cell0 in
      absurd (omega arith)

  pub rep_other : (ls : List Opened) → Held ls l0 l1 l2 l3 → 16777216 ≤ l0 → full ≡ turned (closing false ls)
  rep_other [] h z = refl
  rep_other (Looping n al step ∷ ls) h z = refl
  rep_other (Repeating n ∷ ls) h z =
      let b = repeating_bounds n (head_sound (Repeating n) ls h.sound) in
      let e : l0 ≡ n = h.cell0 in
      absurd (omega arith)

  popped :
      (o : Opened) (ls : List Opened) → Held (o ∷ ls) l0 l1 l2 l3 →
      answered false (record { l0 = l1; l1 = l2; l2 = l3; l3 = 0 }) ≡ turned (Turns false ls)
  popped o ls h =
      λ j. answered false (record { l0 = h.cell1 j; l1 = h.cell2 j; l2 = h.cell3 j; l3 = sym (cell_above ls 3 (le_of_suc-le-suc h.depth)) j })

  pub rep_last :
      (ls : List Opened) → Held ls l0 l1 l2 l3 → l0 ≡ 1 →
      answered false (record { l0 = l1; l1 = l2; l2 = l3; l3 = 0 }) ≡ turned (closing false ls)
  rep_last [] h z = let e : l0 ≡ 0 = h.cell0 in absurd (omega arith)
  rep_last (Looping n al step ∷ ls) h z =
      let e : l0 ≡ n + 256 * al + 65536 * step + 16777216 = h.cell0 in absurd (omega arith)
  rep_last (Repeating n ∷ ls) h z =
      let e : l0 ≡ n = h.cell0 in
      popped (Repeating n) ls h ∙ sym (ap turned (pick_no _ _ (le-ltb 1 n (omega arith))))

  pub rep_again :
      (ls : List Opened) → Held ls l0 l1 l2 l3 → (l0 ≡ 0 → ⊥) → l0 < 16777216 → (l0 ≡ 1 → ⊥) →
      answered true (record { l0 = l0 - 1; l1 = l1; l2 = l2; l3 = l3 }) ≡ turned (closing false ls)
  rep_again [] h y z w = absurd (y h.cell0)
  rep_again (Looping n al step ∷ ls) h y z w =
      let e : l0 ≡ n + 256 * al + 65536 * step + 16777216 = h.cell0 in absurd (omega arith)
  rep_again (Repeating n ∷ ls) h y z w =
      let e : l0 ≡ n = h.cell0 in
      (λ j. answered true (record { l0 = e j - 1; l1 = h.cell1 j; l2 = h.cell2 j; l3 = h.cell3 j })) ∙
      sym (ap turned (pick_yes _ _ (lt-ltb 1 n (omega arith))))

  -- closing a LOOP
  pub loop_none : (ls : List Opened) → Held ls l0 l1 l2 l3 → l0 < 16777216 → full ≡ turned (closing true ls)
  loop_none [] h z = refl
  loop_none (Repeating n ∷ ls) h z = refl
  loop_none (Looping n al step ∷ ls) h z =
      let e : l0 ≡ n + 256 * al + 65536 * step + 16777216 = h.cell0 in absurd (omega arith)

  inner : (ls : List Opened) → Held ls l0 l1 l2 l3 → 16777216 ≤ l0 → Inner ls l0 l1 l2 l3
  inner [] h z = let e : l0 ≡ 0 = h.cell0 in absurd (omega arith)
  inner (Repeating n ∷ ls) h z =
      let b = repeating_bounds n (head_sound (Repeating n) ls h.sound) in
      let e : l0 ≡ n = h.cell0 in
      absurd (omega arith)
  inner (Looping n al step ∷ ls) h z =
      let b = looping_bounds n al step (head_sound (Looping n al step) ls h.sound) in
      record {
        count = n;
        al = al;
        step = step;
        rest = ls;
        is = refl;
        bounds = b;
        fields = subst (λ (c : ℕ). Parts c n al step) (sym h.cell0) (parts b);
        held = h;
      }

  module _ (ls : List Opened) (h : Held ls l0 l1 l2 l3) (z : 16777216 ≤ l0) where
    abbrev i : Inner ls l0 l1 l2 l3
    i = inner ls h z

    pub some_turn : 1 ≤ l0 % 256
    some_turn = let b = i.bounds.some in let e = i.fields.count in omega arith

    pub loop_last :
        l0 % 256 ≡ 1 →
        answered false (record { l0 = l1; l1 = l2; l2 = l3; l3 = 0 }) ≡ turned (closing true ls)
    loop_last e =
        let n : i.count ≡ 1 = sym i.fields.count ∙ e in
        popped _ i.rest i.held ∙
        sym (ap turned (ap (closing true) i.is ∙ pick_no _ _ (le-ltb 1 i.count (omega arith))))

    module _ (m : l0 % 256 ≡ 1 → ⊥) where
      more : ltb 1 i.count ≡ true
      more = lt-ltb 1 i.count (omega (arith, i.bounds.some, i.fields.count, m))

      in_bounds : (l0 / 256 % 256 < 256) × (l0 / 65536 % 256 < 256)
      in_bounds = (omega arith, omega arith)

      pub loop_out :
          stays (l0 / 256 % 256) (l0 / 65536 % 256) ≡ false → full ≡ turned (closing true ls)
      loop_out e =
          sym
          (ap turned
          (ap (closing true) i.is ∙ pick_yes _ _ more ∙
          pick_no _ _ (sym (λ j. stays (i.fields.start j) (i.fields.stride j)) ∙ e)))

      pub loop_again :
          {next : ℕ} → stays (l0 / 256 % 256) (l0 / 65536 % 256) ≡ true →
          next ≡ moved_to (l0 / 256 % 256) (l0 / 65536 % 256) →
          answered true (record { l0 = l0 % 256 - 1 + 256 * next + 65536 * (l0 / 65536 % 256) + 16777216; l1 = l1; l2 = l2; l3 = l3 }) ≡
          turned (closing true ls)
      loop_again {next} e f =
          (λ j.
          answered true (record {
            l0 = i.fields.count j - 1 + 256 * there j + 65536 * i.fields.stride j + 16777216;
            l1 = i.held.cell1 j;
            l2 = i.held.cell2 j;
            l3 = i.held.cell3 j;
          })) ∙
          sym
          (ap turned
          (ap (closing true) i.is ∙ pick_yes _ _ more ∙
          pick_yes _ _ (sym (λ j. stays (i.fields.start j) (i.fields.stride j)) ∙ e)))
        where
          there : next ≡ moved_to i.al i.step
          there = f ∙ (λ j. moved_to (i.fields.start j) (i.fields.stride j))

  -- opening
  module _ (looping : Bool) (w : ℕ) (ls : List Opened) (h : Held ls l0 l1 l2 l3) where
    none : w % 256 ≡ 0 → eqb (field 7 0 w) 0 ≡ true
    none e = eq-eqb (field 7 0 w) 0 (omega arith)

    pub open_past :
        w % 256 ≡ 0 →
        answered true (record { l0 = l0; l1 = l1; l2 = l2; l3 = l3 }) ≡ turned (entering looping w ls)
    unfolding entering
    open_past e =
        (λ j. answered true (record { l0 = h.cell0 j; l1 = h.cell1 j; l2 = h.cell2 j; l3 = h.cell3 j })) ∙
        sym (ap turned (pick_yes _ _ (none e)))

    module _ (f : w % 256 ≡ 0 → ⊥) where
      some_turns : eqb (field 7 0 w) 0 ≡ false
      some_turns = ne_eqb (field 7 0 w) 0 (λ q. f (omega arith))

      pub open_full : (l3 ≡ 0 → ⊥) → full ≡ turned (entering looping w ls)
      unfolding entering
      open_full g = sym (ap turned (pick_no _ _ some_turns ∙ pick_no _ _ (le-ltb (length ls) 4 (four (tested (leb (length ls) 3))))))
        where
          four : Tested (leb (length ls) 3) → 4 ≤ length ls
          four (holds t) = absurd (g (h.cell3 ∙ cell_above ls 3 (leb-true (length ls) 3 t)))
          four (fails t) = leb-false (length ls) 3 t

      pub open_more :
          {e : ℕ} → l3 ≡ 0 → e ≡ loop_cell (entry_of looping w) →
          answered false (record { l0 = e; l1 = l0; l2 = l1; l3 = l2 }) ≡ turned (entering looping w ls)
      unfolding entering
      open_more {e} g k =
          (λ j. answered false (record { l0 = k j; l1 = h.cell0 j; l2 = h.cell1 j; l3 = h.cell2 j })) ∙
          sym (ap turned (pick_no _ _ some_turns ∙ pick_yes _ _ (lt-ltb (length ls) 4 (room (tested (ltb 3 (length ls)))))))
        where
          room : Tested (ltb 3 (length ls)) → length ls < 4
          room (holds t) =
              let q : 1 ≤ cell_at ls 3 = cell_below ls 3 h.sound (ltb-true 3 (length ls) t) in
              let z : cell_at ls 3 ≡ 0 = sym h.cell3 ∙ g in
              absurd (omega arith)
          room (fails t) = let q : length ls ≤ 3 = ltb-false 3 (length ls) t in omega arith

-- the integer word
module _ (number : ℕ) (words : List ℕ) where
  pub word_there : number < length words → get_or words number 0 ≡ word_at number words
  unfolding word_at
  word_there h = sym (pick_yes _ _ (lt-ltb number (length words) h))

  pub word_none : length words ≤ number → no_word ≡ word_at number words
  unfolding word_at
  word_none h = sym (pick_no _ _ (le-ltb number (length words) h))

-- "no such word: 13"
pub no_such_word :
    (looping : Bool) (number : ℕ) (words : List ℕ) (ls : List Opened) → length words ≤ number →
    opening looping (word_at number words) ls ≡ NoWord
unfolding opening
no_such_word looping number words ls h = ap (λ (w : ℕ). opening looping w ls) (sym (word_none number words h)) ∙ pick_no _ _ refl

module _ (looping : Bool) (w : ℕ) (ls : List Opened) where
  pub word_bad : 16777216 ≤ w → w < 4294967296 → opening looping w ls ≡ NoWord
  unfolding opening
  word_bad k f = pick_no _ _ (ne_eqb (field 31 24 w) 0 (λ q. omega arith))

  pub word_good : w < 16777216 → opening looping w ls ≡ entering looping w ls
  unfolding opening
  word_good k = pick_yes _ _ (eq-eqb (field 31 24 w) 0 (omega arith))

-- the cell that an opening stores
pub entry_loop : (w : ℕ) → w < 16777216 → w + 16777216 ≡ loop_cell (entry_of true w)
entry_loop w h = omega arith

pub entry_rep : (w : ℕ) → w % 256 ≡ loop_cell (entry_of false w)
entry_rep w = omega arith

-- the aL shown, loop by loop
abbrev pub rest : List Opened → List Opened
rest [] = []
rest (o ∷ ls) = ls

rest_cell : (ls : List Opened) (k : ℕ) → cell_at ls (suc k) ≡ cell_at (rest ls) k
rest_cell [] k = refl
rest_cell (o ∷ ls) k = refl

rest_sound : (ls : List Opened) → are_opened ls ≡ true → are_opened (rest ls) ≡ true
unfolding are_opened
rest_sound [] e = refl
rest_sound (o ∷ ls) e = tail_sound o ls e

rest_length : (ls : List Opened) (k : ℕ) → length ls ≤ suc k → length (rest ls) ≤ k
rest_length [] k h = zero-le
rest_length (o ∷ ls) k h = le_of_suc-le-suc h

al_here : (ls : List Opened) {c : ℕ} → c ≡ cell_at ls 0 → are_opened ls ≡ true → 16777216 ≤ c → c / 256 % 256 ≡ shown_aL ls
al_here [] {c} e s h = absurd (omega arith)
al_here (Repeating n ∷ ls) {c} e s h = let b = repeating_bounds n (head_sound (Repeating n) ls s) in absurd (omega arith)
al_here (Looping n al step ∷ ls) {c} e s h =
    ap (λ (x : ℕ). x / 256 % 256) e ∙ (parts (looping_bounds n al step (head_sound (Looping n al step) ls s))).start

al_later : (ls : List Opened) {c : ℕ} → c ≡ cell_at ls 0 → c < 16777216 → shown_aL (rest ls) ≡ shown_aL ls
al_later [] e h = refl
al_later (Repeating n ∷ ls) e h = refl
al_later (Looping n al step ∷ ls) {c} e h = absurd (omega arith)

module _ {l0 l1 l2 l3 : ℕ} (ls : List Opened) (h : Held ls l0 l1 l2 l3) where
  pub shown0 : 16777216 ≤ l0 → l0 / 256 % 256 ≡ shown_aL ls
  shown0 = al_here ls h.cell0 h.sound

  module _ (f0 : l0 < 16777216) where
    at1 : l1 ≡ cell_at (rest ls) 0
    at1 = h.cell1 ∙ rest_cell ls 0

    sound1 : are_opened (rest ls) ≡ true
    sound1 = rest_sound ls h.sound

    pub shown1 : 16777216 ≤ l1 → l1 / 256 % 256 ≡ shown_aL ls
    shown1 k = al_here (rest ls) at1 sound1 k ∙ al_later ls h.cell0 f0

    module _ (f1 : l1 < 16777216) where
      at2 : l2 ≡ cell_at (rest (rest ls)) 0
      at2 = h.cell2 ∙ rest_cell ls 1 ∙ rest_cell (rest ls) 0

      back2 : shown_aL (rest (rest ls)) ≡ shown_aL ls
      back2 = al_later (rest ls) at1 f1 ∙ al_later ls h.cell0 f0

      pub shown2 : 16777216 ≤ l2 → l2 / 256 % 256 ≡ shown_aL ls
      shown2 k = al_here (rest (rest ls)) at2 (rest_sound (rest ls) sound1) k ∙ back2

      module _ (f2 : l2 < 16777216) where
        at3 : l3 ≡ cell_at (rest (rest (rest ls))) 0
        at3 = h.cell3 ∙ rest_cell ls 2 ∙ rest_cell (rest ls) 1 ∙ rest_cell (rest (rest ls)) 0

        back3 : shown_aL (rest (rest (rest ls))) ≡ shown_aL ls
        back3 = al_later (rest (rest ls)) at2 f2 ∙ back2

        pub shown3 : 16777216 ≤ l3 → l3 / 256 % 256 ≡ shown_aL ls
        shown3 k = al_here (rest (rest (rest ls))) at3 (rest_sound (rest (rest ls)) (rest_sound (rest ls) sound1)) k ∙ back3

        pub shown_none : l3 < 16777216 → 0 ≡ shown_aL ls
        shown_none f3 = last (rest (rest (rest (rest ls)))) few ∙ al_later (rest (rest (rest ls))) at3 f3 ∙ back3
          where
            few : length (rest (rest (rest (rest ls)))) ≤ 0
            few = rest_length (rest (rest (rest ls))) 0 (rest_length (rest (rest ls)) 1 (rest_length (rest ls) 2 (rest_length ls 3 h.depth)))

            last : (ls : List Opened) → length ls ≤ 0 → 0 ≡ shown_aL ls
            last [] k = refl
            last (o ∷ ls) k = absurd (not-suc-le-zero k)

-- loops are read back from their cells
back_one : (o : Opened) (ws : List ℕ) → is_opened o ≡ true → loops_in (loop_cell o ∷ ws) ≡ o ∷ loops_in ws
unfolding loops_in
back_one (Looping n al step) ws e =
    let b = looping_bounds n al step e in
    let p = parts b in
    pick_no _ _ (ne_eqb (loop_cell (Looping n al step)) 0 (λ z. omega arith)) ∙
    ap (λ (o : Opened). o ∷ loops_in ws)
    (pick_yes _ _ (eq-eqb (loop_cell (Looping n al step) / 16777216) 1 p.kind) ∙ (λ j. Looping (p.count j) (p.start j) (p.stride j)))
back_one (Repeating n) ws e =
    let b = repeating_bounds n e in
    pick_no _ _ (ne_eqb n 0 (λ z. omega arith)) ∙
    ap (λ (o : Opened). o ∷ loops_in ws) (pick_no _ _ (ne_eqb (n / 16777216) 1 (λ z. omega arith)))

-- the cells of the first k places
abbrev pub cells_to : ℕ → List Opened → List ℕ
cells_to zero ls = []
cells_to (suc k) ls = cell_at ls 0 ∷ cells_to k (rest ls)

pub loops_back : (k : ℕ) (ls : List Opened) → length ls ≤ k → are_opened ls ≡ true → loops_in (cells_to k ls) ≡ ls
unfolding loops_in pick
loops_back zero [] h s = refl
loops_back zero (o ∷ ls) h s = absurd (not-suc-le-zero h)
loops_back (suc k) [] h s = refl
loops_back (suc k) (o ∷ ls) h s =
    back_one o (cells_to k ls) (head_sound o ls s) ∙ ap (λ (l : List Opened). o ∷ l) (loops_back k ls (le_of_suc-le-suc h) (tail_sound o ls s))

four_cells : (ls : List Opened) → cell_at ls 0 ∷ cell_at ls 1 ∷ cell_at ls 2 ∷ cell_at ls 3 ∷ [] ≡ cells_to 4 ls
four_cells ls =
    λ j.
    cell_at ls 0 ∷ rest_cell ls 0 j ∷ (rest_cell ls 1 ∙ rest_cell (rest ls) 0) j ∷
    (rest_cell ls 2 ∙ rest_cell (rest ls) 1 ∙ rest_cell (rest (rest ls)) 0) j ∷ []

pub four_back :
    (ls : List Opened) → length ls ≤ 4 → are_opened ls ≡ true →
    loops_of (cell_at ls 0) (cell_at ls 1) (cell_at ls 2) (cell_at ls 3) ≡ ls
four_back ls h s = ap loops_in (four_cells ls) ∙ loops_back 4 ls h s

-- a turn leaves sound loops, at most four
abbrev pub TurnSound : Turn → Type 0
TurnSound (Turns jump ls) = (length ls ≤ 4) × (are_opened ls ≡ true)
TurnSound NoRoom = Unit {0}
TurnSound NoWord = Unit {0}

entry_sound : (looping : Bool) (w : ℕ) → eqb (field 7 0 w) 0 ≡ false → is_opened (entry_of looping w) ≡ true
entry_sound true w e =
    let n : field 7 0 w ≡ 0 → ⊥ = eqb-false (field 7 0 w) 0 e in
    and_intro (le-leb 1 (field 7 0 w) (omega arith))
    (and_intro (le-leb (field 7 0 w) 255 (omega arith))
    (and_intro (le-leb (field 15 8 w) 255 (omega arith)) (le-leb (field 23 16 w) 255 (omega arith))))
entry_sound false w e =
    let n : field 7 0 w ≡ 0 → ⊥ = eqb-false (field 7 0 w) 0 e in
    and_intro (le-leb 1 (field 7 0 w) (omega arith)) (le-leb (field 7 0 w) 255 (omega arith))

module _ (ls : List Opened) (h : length ls ≤ 4) (s : are_opened ls ≡ true) where
  entering_sound : (looping : Bool) (w : ℕ) → TurnSound (entering looping w ls)
  unfolding entering are_opened
  entering_sound looping w =
      by_pick TurnSound (eqb (field 7 0 w) 0) _ _ (λ e. (h, s))
      (λ e. by_pick TurnSound (ltb (length ls) 4) _ _ (λ t. (ltb-true (length ls) 4 t, and_intro (entry_sound looping w e) s)) (λ t. tt))

  pub opening_sound : (looping : Bool) (w : ℕ) → TurnSound (opening looping w ls)
  unfolding opening
  opening_sound looping w = by_pick TurnSound (eqb (field 31 24 w) 0) _ _ (λ f. entering_sound looping w) (λ f. tt)

-- a step that aL allows, by its sign
pub stays_up : (al step : ℕ) → stays al step ≡ true → step < 128 → al + step < 256
unfolding stays
stays_up al step e h = ltb-true (al + step) 256 (sym (pick_yes _ _ (lt-ltb step 128 h)) ∙ e)

pub stays_down : (al step : ℕ) → stays al step ≡ true → 128 ≤ step → 256 ≤ al + step
unfolding stays
stays_down al step e h = leb-true 256 (al + step) (sym (pick_no _ _ (le-ltb step 128 h)) ∙ e)

moved_low : (al step : ℕ) → al ≤ 255 → step ≤ 255 → stays al step ≡ true → moved_to al step ≤ 255
unfolding stays moved_to
moved_low al step h k e = go (tested (ltb step 128))
  where
    go : Tested (ltb step 128) → moved_to al step ≤ 255
    go (holds t) = rw (pick_yes (al + step) (al + step - 256) t) (le_of_suc-le-suc (ltb-true (al + step) 256 (sym (pick_yes _ _ t) ∙ e)))
    go (fails t) = rw (pick_no (al + step) (al + step - 256) t) (omega arith)

less_one : (n : ℕ) → ltb 1 n ≡ true → n ≤ 255 → (1 ≤ n - 1) × (n - 1 ≤ 255)
less_one n t h = let q : 1 < n = ltb-true 1 n t in (omega arith, omega arith)

pub closing_sound : (looping : Bool) (ls : List Opened) → length ls ≤ 4 → are_opened ls ≡ true → TurnSound (closing looping ls)
unfolding are_opened
closing_sound looping [] h s = tt
closing_sound true (Repeating n ∷ ls) h s = tt
closing_sound false (Looping n al step ∷ ls) h s = tt
closing_sound false (Repeating n ∷ ls) h s =
    let b = repeating_bounds n (head_sound (Repeating n) ls s) in
    by_pick TurnSound (ltb 1 n) _ _
    (λ e.
    let q = less_one n e b.few in
    (h, and_intro (and_intro (le-leb 1 (n - 1) q.0) (le-leb (n - 1) 255 q.1)) (tail_sound (Repeating n) ls s)))
    (λ e. (shorter (length ls) h, tail_sound (Repeating n) ls s))
  where
    shorter : (n : ℕ) → suc n ≤ 4 → n ≤ 4
    shorter n h = omega arith
closing_sound true (Looping n al step ∷ ls) h s =
    let b = looping_bounds n al step (head_sound (Looping n al step) ls s) in
    by_pick TurnSound (ltb 1 n) _ _
    (λ e.
    by_pick TurnSound (stays al step) _ _
    (λ f.
    let q = less_one n e b.few in (
      h,
      and_intro
          (and_intro (le-leb 1 (n - 1) q.0)
          (and_intro (le-leb (n - 1) 255 q.1)
          (and_intro (le-leb (moved_to al step) 255 (moved_low al step b.low b.byte f)) (le-leb step 255 b.byte))))
          (tail_sound (Looping n al step) ls s),
    ))
    (λ f. tt))
    (λ e. (shorter (length ls) h, tail_sound (Looping n al step) ls s))
  where
    shorter : (n : ℕ) → suc n ≤ 4 → n ≤ 4
    shorter n h = omega arith

pub turn_of_sound : (op word : ℕ) (ls : List Opened) → length ls ≤ 4 → are_opened ls ≡ true → TurnSound (turn_of op word ls)
unfolding turn_of
turn_of_sound op word ls h s =
    by_pick TurnSound (eqb op 1) _ _ (λ e. opening_sound ls h s true word)
    (λ e.
    by_pick TurnSound (eqb op 3) _ _ (λ f. opening_sound ls h s false word) (λ f. closing_sound (eqb op 2) ls h s))

-- what is told of each loop, from its cell
cell_told : (o : Opened) (told : List ℕ) → is_opened o ≡ true → kind_at (loop_cell o) ∷ loop_cell o % 256 ∷ loop_cell o / 256 % 256 ∷ told ≡ loop_told o ++ told
unfolding kind_at
cell_told (Looping n al step) told e =
    let b = looping_bounds n al step e in
    let p = parts b in
    let kind : kind_at (loop_cell (Looping n al step)) ≡ 1 =
    pick_no _ _ (ne_eqb (loop_cell (Looping n al step)) 0 (λ z. omega arith)) ∙ pick_yes _ _ (le-leb 16777216 (loop_cell (Looping n al step)) p.high) in
    λ j. kind j ∷ p.count j ∷ p.start j ∷ told
cell_told (Repeating n) told e =
    let b = repeating_bounds n e in
    let kind : kind_at n ≡ 3 = pick_no _ _ (ne_eqb n 0 (λ z. omega arith)) ∙ pick_no _ _ (lt-leb 16777216 n (omega arith)) in
    let count : n % 256 ≡ n = omega arith in
    let none : n / 256 % 256 ≡ 0 = omega arith in
    λ j. kind j ∷ count j ∷ none j ∷ told

-- the numbers that a list of cells tells
abbrev pub cells_told : List ℕ → List ℕ
cells_told [] = []
cells_told (c ∷ cs) = kind_at c ∷ c % 256 ∷ c / 256 % 256 ∷ cells_told cs

places_told_lem : (k : ℕ) (ls : List Opened) → are_opened ls ≡ true → cells_told (cells_to k ls) ≡ places_told k ls
unfolding kind_at pick
places_told_lem zero ls s = refl
places_told_lem (suc k) [] s = ap (λ (l : List ℕ). 0 ∷ 0 ∷ 0 ∷ l) (places_told_lem k [] s)
places_told_lem (suc k) (o ∷ ls) s =
    cell_told o (cells_told (cells_to k ls)) (head_sound o ls s) ∙ ap (λ (l : List ℕ). loop_told o ++ l) (places_told_lem k ls (tail_sound o ls s))

-- four cells and the aL shown tell the loops
pub told_of :
    {l0 l1 l2 l3 al : ℕ} (ls : List Opened) → Held ls l0 l1 l2 l3 → al ≡ shown_aL ls →
    al ∷ cells_told (l0 ∷ l1 ∷ l2 ∷ l3 ∷ []) ≡ loops_told ls
told_of ls h e =
    (λ j. e j ∷ cells_told (h.cell0 j ∷ h.cell1 j ∷ h.cell2 j ∷ h.cell3 j ∷ [])) ∙
    ap (λ (cells : List ℕ). shown_aL ls ∷ cells_told cells) (four_cells ls) ∙
    ap (λ (l : List ℕ). shown_aL ls ∷ l) (places_told_lem 4 ls h.sound)
