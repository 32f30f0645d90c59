-- The words of a slot and the return stack, as the code finds them test by test. Assumes nothing.
use mathlib.Core.Path.{◌≡◌, refl, sym, ap, ◌∙◌}
use mathlib.Core.Bool.{Bool, true, false, ◌&&◌, ◌||◌}
use mathlib.Core.List.{List, [], ◌∷◌}
use Prim.Native.Nat.{ℕ, suc, ◌+◌, ◌%◌, ◌<◌, ◌≤◌}
use native.Mathlib.Omega.{arith}
use lib.Dec.{eqb, leb}
use lib.ListN.{length, get_or}
use borrow.Author.Tests.{leb-true, lt-ltb, le-ltb, eq-eqb, ne_eqb}
use Rattle.laws.specs.Choice.{◌and◌, pick}
use Rattle.laws.proofs.Choice.{pick_yes, pick_no, and_left, and_right, and_yes}
use Rattle.loops.specs.Loops.{field}
use Rattle.group.specs.Group.{Way, Goes, Stuck, op_of, allowed, fits_first, plain_second, allowed_loop, popped, pushed, way_of}
use Rattle.group.specs.Cells.{a_return, are_returns}
use Rattle.stepper.specs.Answers.{Stack}

-- the code's `&` and `|` on tests: two, three, four and five of them
pub two_tests : (a b : Bool) → (a && b) ≡ (a and b)
unfolding ◌and◌
two_tests true b = refl
two_tests false b = refl

pub three_tests : (a b c : Bool) → ((a && b) && c) ≡ (a and b and c)
unfolding ◌and◌
three_tests true b c = two_tests b c
three_tests false b c = refl

pub four_tests : (a b c d : Bool) → (((a && b) && c) && d) ≡ (a and b and c and d)
unfolding ◌and◌
four_tests true b c d = three_tests b c d
four_tests false b c d = refl

pub five_tests : (a b c d e : Bool) → ((((a && b) && c) && d) && e) ≡ (a and b and c and d and e)
unfolding ◌and◌
five_tests true b c d e = four_tests b c d e
five_tests false b c d e = refl

pub picked_test : (a b : Bool) → (a || b) ≡ pick a true b
unfolding pick
picked_test true b = refl
picked_test false b = refl

pub and_last : (a : Bool) {b : Bool} → b ≡ true → (a and b) ≡ a
unfolding ◌and◌
and_last true e = e
and_last false e = refl

-- the lowest field needs no division
pub low_field : (first : ℕ) → first % 16 ≡ op_of first
low_field first = omega arith

pub low_op : (first : ℕ) → leb (first % 16) 4 ≡ leb (op_of first) 4
low_op first = ap (λ (n : ℕ). leb n 4) (low_field first)

-- the words of op 0: the first word's other fields, and the second word
and_nested : (a b c : Bool) → ((a and b) and c) ≡ (a and b and c)
unfolding ◌and◌
and_nested true b c = refl
and_nested false b c = refl

pub allowed_parts : (first second : ℕ) → op_of first ≡ 0 → allowed first second ≡ (fits_first first and plain_second second)
unfolding allowed fits_first plain_second
allowed_parts first second e =
    and_yes _ (eq-eqb (op_of first) 0 e) ∙
    sym
    (and_nested (leb (field 7 6 first) 2) _ _ ∙
    ap (λ (b : Bool). leb (field 7 6 first) 2 and b)
    (and_nested (eqb (field 23 21 first) 0) _ _ ∙
    ap (λ (b : Bool). eqb (field 23 21 first) 0 and b)
    (and_nested (leb (field 25 24 first) 2) _ _ ∙
    ap (λ (b : Bool). leb (field 25 24 first) 2 and b) (and_nested (leb (field 27 26 first) 2) _ _))))

-- where the words of a loop are allowed, so is the first one
pub loop_fits_lem : (first second : ℕ) → allowed_loop first second ≡ true → fits_first first ≡ true
unfolding allowed_loop
loop_fits_lem first second e = and_left (fits_first first) _ (and_right (leb (op_of first) 4) _ e)

-- a stored return isn't 0
return_positive : (r : ℕ) (rs : List ℕ) → are_returns (r ∷ rs) ≡ true → 1 ≤ r
unfolding are_returns
return_positive r rs e = leb-true 1 r (and_left (leb 1 r) (leb r 512) (and_left (a_return r) (are_returns rs) e))

-- past its end a list gives 0
past : (l : List ℕ) → length l ≤ 3 → get_or l 3 0 ≡ 0
past [] h = refl
past (a ∷ []) h = refl
past (a ∷ (b ∷ [])) h = refl
past (a ∷ (b ∷ (c ∷ []))) h = refl
past (a ∷ (b ∷ (c ∷ (d ∷ l)))) h = absurd (four (length l) h)
  where
    four : (n : ℕ) → suc (suc (suc (suc n))) ≤ 3 → ⊥
    four n h = omega arith

-- a way that goes on, with its returns in four cells
pub record Went (w : Way) (at r0 r1 r2 r3 : ℕ) : Type 0 where
  pub rest : List ℕ
  pub goes : w ≡ Goes at rest
  pub return0 : r0 ≡ get_or rest 0 0
  pub return1 : r1 ≡ get_or rest 1 0
  pub return2 : r2 ≡ get_or rest 2 0
  pub return3 : r3 ≡ get_or rest 3 0

-- pop: the first cell tells an empty stack
pub pop_empty : (rs : List ℕ) {r0 r1 r2 r3 : ℕ} → Stack rs r0 r1 r2 r3 → r0 ≡ 0 → popped rs ≡ Stuck
pop_empty [] s z = refl
pop_empty (r ∷ rs) {r0} s z =
    let p : 1 ≤ r = return_positive r rs s.slots in
    let q : r0 ≡ r = s.return0 in
    absurd (omega arith)

pub pop_last :
    (rs : List ℕ) {r0 r1 r2 r3 : ℕ} → Stack rs r0 r1 r2 r3 → (r0 ≡ 0 → ⊥) → Went (popped rs) r0 r1 r2 r3 0
pop_last [] s n = absurd (n s.return0)
pop_last (r ∷ rs) s n =
    record {
      rest = rs;
      goes = ap (λ (at : ℕ). Goes at rs) (sym s.return0);
      return0 = s.return1;
      return1 = s.return2;
      return2 = s.return3;
      return3 = sym (past rs (shorter (length rs) s.depth));
    }
  where
    shorter : (n : ℕ) → suc n ≤ 4 → n ≤ 3
    shorter n h = omega arith

-- push: the fourth cell tells a full one
fourth_taken : (rs : List ℕ) → (get_or rs 3 0 ≡ 0 → ⊥) → 4 ≤ length rs
fourth_taken [] n = absurd (n refl)
fourth_taken (a ∷ []) n = absurd (n refl)
fourth_taken (a ∷ (b ∷ [])) n = absurd (n refl)
fourth_taken (a ∷ (b ∷ (c ∷ []))) n = absurd (n refl)
fourth_taken (a ∷ (b ∷ (c ∷ (d ∷ l)))) n = more (length l)
  where
    more : (n : ℕ) → 4 ≤ suc (suc (suc (suc n)))
    more n = omega arith

fourth_free : (rs : List ℕ) → are_returns rs ≡ true → get_or rs 3 0 ≡ 0 → length rs < 4
unfolding are_returns
fourth_free [] e z = omega arith
fourth_free (a ∷ []) e z = omega arith
fourth_free (a ∷ (b ∷ [])) e z = omega arith
fourth_free (a ∷ (b ∷ (c ∷ []))) e z = omega arith
fourth_free (a ∷ (b ∷ (c ∷ (d ∷ l)))) e z =
    let f = and_right (a_return a) (are_returns (b ∷ (c ∷ (d ∷ l)))) e in
    let g = and_right (a_return b) (are_returns (c ∷ (d ∷ l))) f in
    let k = and_right (a_return c) (are_returns (d ∷ l)) g in
    let p : 1 ≤ d = return_positive d l k in
    let q : d ≡ 0 = z in
    absurd (omega arith)

module _ (position address : ℕ) (rs : List ℕ) {r0 r1 r2 r3 : ℕ} (s : Stack rs r0 r1 r2 r3) where
  pub push_full : (r3 ≡ 0 → ⊥) → pushed position address rs ≡ Stuck
  push_full n = pick_no _ _ (le-ltb (length rs) 4 (fourth_taken rs (λ z. n (s.return3 ∙ z))))

  pub push_last : r3 ≡ 0 → Went (pushed position address rs) address (position + 1) r0 r1 r2
  push_last z =
      record {
        rest = (position + 1) ∷ rs;
        goes = pick_yes _ _ (lt-ltb (length rs) 4 (fourth_free rs s.slots (sym s.return3 ∙ z)));
        return0 = refl;
        return1 = s.return0;
        return2 = s.return1;
        return3 = s.return2;
      }

-- the cells as they stand
pub same_returns : (at : ℕ) (rs : List ℕ) {r0 r1 r2 r3 : ℕ} → Stack rs r0 r1 r2 r3 → Went (Goes at rs) at r0 r1 r2 r3
same_returns at rs s =
    record { rest = rs; goes = refl; return0 = s.return0; return1 = s.return1; return2 = s.return2; return3 = s.return3 }

-- the way, by the decision and the operation
module _ (op position address : ℕ) {jump : Bool} (rs : List ℕ) where
  pub way_pop : jump ≡ true → op ≡ 1 → popped rs ≡ way_of op jump position address rs
  unfolding way_of
  way_pop j e = sym (pick_yes _ _ j ∙ pick_yes _ _ (eq-eqb op 1 e))

  pub way_push : jump ≡ true → op ≡ 2 → pushed position address rs ≡ way_of op jump position address rs
  unfolding way_of
  way_push j e = sym (pick_yes _ _ j ∙ pick_no _ _ (ne_eqb op 1 (λ z. omega arith)) ∙ pick_yes _ _ (eq-eqb op 2 e))

  pub way_address : jump ≡ true → (op ≡ 1 → ⊥) → (op ≡ 2 → ⊥) → Goes address rs ≡ way_of op jump position address rs
  unfolding way_of
  way_address j n1 n2 = sym (pick_yes _ _ j ∙ pick_no _ _ (ne_eqb op 1 n1) ∙ pick_no _ _ (ne_eqb op 2 n2))

  pub way_on : jump ≡ false → Goes (position + 1) rs ≡ way_of op jump position address rs
  unfolding way_of
  way_on j = sym (pick_no _ _ j)
