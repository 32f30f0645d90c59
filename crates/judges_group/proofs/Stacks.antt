-- Four cells of a stack: the things stored are those before the first 0. Assumes nothing.
use mathlib.Core.Path.{◌≡◌, refl, sym, ap, ◌∙◌, subst}
use mathlib.Core.Bool.{Bool, true, false, not, true≢false}
use mathlib.Core.List.{List, [], ◌∷◌}
use Prim.Native.Nat.{ℕ, zero, suc, ◌+◌, ◌*◌, ◌/◌, ◌%◌, ◌≤◌, zero-le, suc-le-suc}
use native.Mathlib.Nat.{not-suc-le-zero, le_of_suc-le-suc}
use native.Mathlib.Omega.{arith}
use lib.Dec.{eqb, leb}
use lib.ListN.{length, get_or}
use borrow.Author.Tests.{leb-true, eqb-true, le-leb, eq-eqb, ne_eqb}
use Rattle.laws.specs.Choice.{◌and◌, pick}
use Rattle.laws.proofs.Choice.{Tested, holds, fails, tested, pick_yes, pick_no, and_intro, and_left, and_right}
use Rattle.loops.specs.Loops.{Opened, Looping, Repeating, loop_cell, loop_at, loops_in, cell_at, is_opened, are_opened, Held, HeldIn}
use Rattle.group.specs.Cells.{returns_in, a_return, are_returns}
use Rattle.judges_group.specs.Judged.{stack_of, returns_fit, loop_fits, loops_fit}

-- what `stack_of` says of four cells, of any number of them
zeros : List ℕ → Bool
zeros [] = true
zeros (c ∷ cs) = eqb c 0 and zeros cs

stack_in : (ℕ → Bool) → List ℕ → Bool
stack_in good [] = true
stack_in good (c ∷ cs) = pick (eqb c 0) (zeros cs) (good c and stack_in good cs)

abbrev four : (ℕ → ℕ) → List ℕ
four cell = cell 0 ∷ cell 1 ∷ cell 2 ∷ cell 3 ∷ []

-- each of a list isn't 0 and good
abbrev kept : (ℕ → Bool) → ℕ → Bool
kept good c = not (eqb c 0) and good c

all_of : (ℕ → Bool) → List ℕ → Bool
all_of f [] = true
all_of f (x ∷ xs) = f x and all_of f xs

zeros_at : (l : List ℕ) → zeros l ≡ true → (k : ℕ) → get_or l k 0 ≡ 0
unfolding zeros
zeros_at [] e k = refl
zeros_at (c ∷ cs) e zero = eqb-true c 0 (and_left _ _ e)
zeros_at (c ∷ cs) e (suc k) = zeros_at cs (and_right _ _ e) k

-- the things stored are found in the cells, are no more than the cells, and each is good
record Top (good : ℕ → Bool) (l : List ℕ) : Type 0 where
  same_cells : (k : ℕ) → get_or (returns_in l) k 0 ≡ get_or l k 0
  short : length (returns_in l) ≤ length l
  each : all_of (kept good) (returns_in l) ≡ true

top : (good : ℕ → Bool) (l : List ℕ) → stack_in good l ≡ true → Top good l
unfolding stack_in returns_in all_of zeros
top good [] e = record { same_cells = λ k. refl; short = zero-le; each = refl }
top good (c ∷ cs) e = go (tested (eqb c 0)) (top good cs)
  where
    go : Tested (eqb c 0) → (stack_in good cs ≡ true → Top good cs) → Top good (c ∷ cs)
    go (holds q) next =
        let none : returns_in (c ∷ cs) ≡ [] = pick_yes [] (c ∷ returns_in cs) q in
        record {
          same_cells = λ k. ap (λ (x : List ℕ). get_or x k 0) none ∙ sym (zeros_at (c ∷ cs) (and_intro q (sym (pick_yes _ _ q) ∙ e)) k);
          short = subst (λ (x : List ℕ). length x ≤ length (c ∷ cs)) (sym none) zero-le;
          each = ap (all_of (kept good)) none;
        }
    go (fails q) next =
        let more : returns_in (c ∷ cs) ≡ c ∷ returns_in cs = pick_no [] (c ∷ returns_in cs) q in
        let f : (good c and stack_in good cs) ≡ true = sym (pick_no _ _ q) ∙ e in
        let t = next (and_right _ _ f) in
        record {
          same_cells = λ k. ap (λ (x : List ℕ). get_or x k 0) more ∙ at t k;
          short = subst (λ (x : List ℕ). length x ≤ length (c ∷ cs)) (sym more) (suc-le-suc t.short);
          each = ap (all_of (kept good)) more ∙ and_intro (and_intro (ap not q) (and_left _ _ f)) t.each;
        }
      where
        at : Top good cs → (k : ℕ) → get_or (c ∷ returns_in cs) k 0 ≡ get_or (c ∷ cs) k 0
        at t zero = refl
        at t (suc k) = t.same_cells k

-- and back: good things, at most as many as there are cells, with 0s after them
padded : ℕ → List ℕ → List ℕ
padded zero xs = []
padded (suc k) [] = 0 ∷ padded k []
padded (suc k) (x ∷ xs) = x ∷ padded k xs

four_padded : (xs : List ℕ) → four (λ k. get_or xs k 0) ≡ padded 4 xs
unfolding padded
four_padded [] = refl
four_padded (a ∷ []) = refl
four_padded (a ∷ (b ∷ [])) = refl
four_padded (a ∷ (b ∷ (c ∷ []))) = refl
four_padded (a ∷ (b ∷ (c ∷ (d ∷ l)))) = refl

zeros_padded : (k : ℕ) → zeros (padded k []) ≡ true
unfolding zeros padded
zeros_padded zero = refl
zeros_padded (suc k) = and_intro refl (zeros_padded k)

stack_padded : (good : ℕ → Bool) (k : ℕ) (xs : List ℕ) → length xs ≤ k → all_of (kept good) xs ≡ true → stack_in good (padded k xs) ≡ true
unfolding stack_in padded all_of
stack_padded good zero [] h e = refl
stack_padded good zero (x ∷ xs) h e = absurd (not-suc-le-zero h)
stack_padded good (suc k) [] h e = pick_yes (zeros (padded k [])) _ refl ∙ zeros_padded k
stack_padded good (suc k) (x ∷ xs) h e =
    let here = and_left (kept good x) _ e in
    pick_no _ _ (not_yes _ (and_left _ _ here)) ∙
    and_intro (and_right (not (eqb x 0)) _ here) (stack_padded good k xs (le_of_suc-le-suc h) (and_right (kept good x) _ e))
  where
    not_yes : (b : Bool) → not b ≡ true → b ≡ false
    not_yes true e = sym e
    not_yes false e = refl

-- one test for another on each of a list
each_so : (f g : ℕ → Bool) → ((c : ℕ) → f c ≡ true → g c ≡ true) → (xs : List ℕ) → all_of f xs ≡ true → all_of g xs ≡ true
unfolding all_of
each_so f g h [] e = refl
each_so f g h (x ∷ xs) e = and_intro (h x (and_left _ _ e)) (each_so f g h xs (and_right (f x) _ e))

not_zero : (c : ℕ) → not (eqb c 0) ≡ true → 1 ≤ c
not_zero zero e = absurd (true≢false (sym e))
not_zero (suc c) e = suc-le-suc zero-le

-- the returns
returns_each : (rs : List ℕ) → are_returns rs ≡ all_of a_return rs
unfolding are_returns all_of
returns_each [] = refl
returns_each (r ∷ rs) = ap (λ (b : Bool). a_return r and b) (returns_each rs)

pub record FourReturns (r0 r1 r2 r3 : ℕ) (rs : List ℕ) : Type 0 where
  pub first : r0 ≡ get_or rs 0 0
  pub second : r1 ≡ get_or rs 1 0
  pub third : r2 ≡ get_or rs 2 0
  pub fourth : r3 ≡ get_or rs 3 0
  pub few : length rs ≤ 4
  pub good : are_returns rs ≡ true

abbrev low_return : ℕ → Bool
low_return r = leb r 512

pub returns_judged :
    (r0 r1 r2 r3 : ℕ) → returns_fit r0 r1 r2 r3 ≡ true → FourReturns r0 r1 r2 r3 (returns_in (r0 ∷ r1 ∷ r2 ∷ r3 ∷ []))
unfolding returns_fit stack_of stack_in zeros
returns_judged r0 r1 r2 r3 e =
    let t = top low_return (r0 ∷ r1 ∷ r2 ∷ r3 ∷ []) e in
    let rs = returns_in (r0 ∷ r1 ∷ r2 ∷ r3 ∷ []) in
    record {
      first = sym (t.same_cells 0);
      second = sym (t.same_cells 1);
      third = sym (t.same_cells 2);
      fourth = sym (t.same_cells 3);
      few = t.short;
      good = returns_each rs ∙ each_so (kept low_return) a_return a_return_lem rs t.each;
    }
  where
    a_return_lem : (c : ℕ) → kept low_return c ≡ true → a_return c ≡ true
    a_return_lem c e = and_intro (le-leb 1 c (not_zero c (and_left _ _ e))) (and_right (not (eqb c 0)) _ e)

pub returns_fit_lem : {r0 r1 r2 r3 : ℕ} (rs : List ℕ) → FourReturns r0 r1 r2 r3 rs → returns_fit r0 r1 r2 r3 ≡ true
unfolding returns_fit stack_of stack_in zeros
returns_fit_lem rs f =
    (λ j. returns_fit (f.first j) (f.second j) (f.third j) (f.fourth j)) ∙
    ap (stack_in low_return) (four_padded rs) ∙
    stack_padded low_return 4 rs f.few (each_so a_return (kept low_return) is_kept rs (sym (returns_each rs) ∙ f.good))
  where
    is_kept : (c : ℕ) → a_return c ≡ true → kept low_return c ≡ true
    is_kept c e =
        let h : 1 ≤ c = leb-true 1 c (and_left _ _ e) in
        and_intro (ap not (ne_eqb c 0 (λ z. omega arith))) (and_right (leb 1 c) _ e)

-- the open loops: each is read from its cell
loops_from : List ℕ → List Opened
loops_from [] = []
loops_from (c ∷ cs) = loop_at c ∷ loops_from cs

loops_from_lem : (l : List ℕ) → loops_in l ≡ loops_from (returns_in l)
unfolding loops_in returns_in loops_from
loops_from_lem [] = refl
loops_from_lem (c ∷ cs) = go (tested (eqb c 0)) (loops_from_lem cs)
  where
    go : Tested (eqb c 0) → loops_in cs ≡ loops_from (returns_in cs) → loops_in (c ∷ cs) ≡ loops_from (returns_in (c ∷ cs))
    go (holds q) rest = pick_yes _ _ q ∙ sym (ap loops_from (pick_yes _ _ q))
    go (fails q) rest = pick_no _ _ q ∙ ap (λ (x : List Opened). loop_at c ∷ x) rest ∙ sym (ap loops_from (pick_no _ _ q))

loops_length : (cs : List ℕ) → length (loops_from cs) ≡ length cs
unfolding loops_from
loops_length [] = refl
loops_length (c ∷ cs) = ap suc (loops_length cs)

-- a good cell is the cell of its loop
record OneLoop (c : ℕ) : Type 0 where
  opened : is_opened (loop_at c) ≡ true
  back : c ≡ loop_cell (loop_at c)

one_loop : (c : ℕ) → kept loop_fits c ≡ true → OneLoop c
unfolding loop_fits
one_loop c e = go (tested (eqb (c / 16777216) 1))
  where
    some : 1 ≤ c
    some = not_zero c (and_left _ _ e)

    fits : pick (eqb (c / 16777216) 1) (not (eqb (c % 256) 0)) (leb c 255) ≡ true
    fits = and_right (not (eqb c 0)) _ e

    byte : (n : ℕ) → n % 256 ≤ 255
    byte n = omega arith

    parts : c / 16777216 ≡ 1 → c ≡ c % 256 + 256 * (c / 256 % 256) + 65536 * (c / 65536 % 256) + 16777216
    parts e = omega arith

    go : Tested (eqb (c / 16777216) 1) → OneLoop c
    go (holds q) =
        let is : loop_at c ≡ Looping (c % 256) (c / 256 % 256) (c / 65536 % 256) = pick_yes _ _ q in
        record {
          opened =
              ap is_opened is ∙
              and_intro (le-leb 1 (c % 256) (not_zero (c % 256) (sym (pick_yes _ _ q) ∙ fits)))
              (and_intro (le-leb (c % 256) 255 (byte c))
              (and_intro (le-leb (c / 256 % 256) 255 (byte (c / 256))) (le-leb (c / 65536 % 256) 255 (byte (c / 65536)))));
          back = parts (eqb-true _ _ q) ∙ sym (ap loop_cell is);
        }
    go (fails q) =
        let is : loop_at c ≡ Repeating c = pick_no _ _ q in
        record { opened = ap is_opened is ∙ and_intro (le-leb 1 c some) (sym (pick_no _ _ q) ∙ fits); back = sym (ap loop_cell is) }

loops_good : (cs : List ℕ) → all_of (kept loop_fits) cs ≡ true → are_opened (loops_from cs) ≡ true
unfolding all_of loops_from are_opened
loops_good [] e = refl
loops_good (c ∷ cs) e = and_intro (one_loop c (and_left (kept loop_fits c) _ e)).opened (loops_good cs (and_right (kept loop_fits c) _ e))

loops_cells : (cs : List ℕ) → all_of (kept loop_fits) cs ≡ true → (k : ℕ) → get_or cs k 0 ≡ cell_at (loops_from cs) k
unfolding all_of loops_from
loops_cells [] e k = refl
loops_cells (c ∷ cs) e zero = (one_loop c (and_left (kept loop_fits c) _ e)).back
loops_cells (c ∷ cs) e (suc k) = loops_cells cs (and_right (kept loop_fits c) _ e) k

pub loops_judged : (l0 l1 l2 l3 : ℕ) → loops_fit l0 l1 l2 l3 ≡ true → HeldIn l0 l1 l2 l3
unfolding loops_fit stack_of stack_in zeros
loops_judged l0 l1 l2 l3 e =
    let l = l0 ∷ l1 ∷ l2 ∷ l3 ∷ [] in
    let t = top loop_fits l e in
    let cell : (k : ℕ) → get_or l k 0 ≡ cell_at (loops_in l) k =
    λ k. sym (t.same_cells k) ∙ loops_cells (returns_in l) t.each k ∙ ap (λ (x : List Opened). cell_at x k) (sym (loops_from_lem l)) in
    record {
      cell0 = cell 0;
      cell1 = cell 1;
      cell2 = cell 2;
      cell3 = cell 3;
      depth = subst (λ (n : ℕ). n ≤ 4) (sym (ap length (loops_from_lem l) ∙ loops_length (returns_in l))) t.short;
      sound = ap are_opened (loops_from_lem l) ∙ loops_good (returns_in l) t.each;
    }

-- and back
cells_from : List Opened → List ℕ
cells_from [] = []
cells_from (o ∷ ls) = loop_cell o ∷ cells_from ls

cells_at : (ls : List Opened) (k : ℕ) → cell_at ls k ≡ get_or (cells_from ls) k 0
unfolding cells_from
cells_at [] k = refl
cells_at (o ∷ ls) zero = refl
cells_at (o ∷ ls) (suc k) = cells_at ls k

cells_length : (ls : List Opened) → length (cells_from ls) ≡ length ls
unfolding cells_from
cells_length [] = refl
cells_length (o ∷ ls) = ap suc (cells_length ls)

opened_kept : (o : Opened) → is_opened o ≡ true → kept loop_fits (loop_cell o) ≡ true
unfolding loop_fits
opened_kept (Looping n al step) e =
    let f = and_right (leb 1 n) _ e in
    let g = and_right (leb n 255) _ f in
    let some : 1 ≤ n = leb-true 1 n (and_left (leb 1 n) _ e) in
    let few : n ≤ 255 = leb-true n 255 (and_left (leb n 255) _ f) in
    let low : al ≤ 255 = leb-true al 255 (and_left (leb al 255) _ g) in
    let byte : step ≤ 255 = leb-true step 255 (and_right (leb al 255) _ g) in
    let c = n + 256 * al + 65536 * step + 16777216 in
    and_intro (ap not (ne_eqb c 0 (λ z. omega arith)))
    (pick_yes _ _ (eq-eqb (c / 16777216) 1 (omega arith)) ∙ ap not (ne_eqb (c % 256) 0 (λ z. omega arith)))
opened_kept (Repeating n) e =
    let some : 1 ≤ n = leb-true 1 n (and_left (leb 1 n) _ e) in
    let few : n ≤ 255 = leb-true n 255 (and_right (leb 1 n) _ e) in
    and_intro (ap not (ne_eqb n 0 (λ z. omega arith)))
    (pick_no _ _ (ne_eqb (n / 16777216) 1 (λ z. omega arith)) ∙ and_right (leb 1 n) _ e)

cells_kept : (ls : List Opened) → are_opened ls ≡ true → all_of (kept loop_fits) (cells_from ls) ≡ true
unfolding all_of cells_from are_opened
cells_kept [] e = refl
cells_kept (o ∷ ls) e = and_intro (opened_kept o (and_left (is_opened o) _ e)) (cells_kept ls (and_right (is_opened o) _ e))

pub loops_fit_lem : {l0 l1 l2 l3 : ℕ} (ls : List Opened) → Held ls l0 l1 l2 l3 → loops_fit l0 l1 l2 l3 ≡ true
unfolding loops_fit stack_of stack_in zeros
loops_fit_lem ls h =
    let cs = cells_from ls in
    (λ j. loops_fit ((h.cell0 ∙ cells_at ls 0) j) ((h.cell1 ∙ cells_at ls 1) j) ((h.cell2 ∙ cells_at ls 2) j) ((h.cell3 ∙ cells_at ls 3) j)) ∙
    ap (stack_in loop_fits) (four_padded cs) ∙
    stack_padded loop_fits 4 cs (subst (λ (n : ℕ). n ≤ 4) (sym (cells_length ls)) h.depth) (cells_kept ls h.sound)
