-- Laws of the table of commands: each header is made of its line's operation and number of parameters, a header is found
-- exactly where it stands in the table, and the line of a header is its operation less 7. Assumes nothing.
use mathlib.Core.Path.{◌≡◌, refl, sym, ap, ◌∙◌}
use mathlib.Core.Bool.{Bool, true}
use mathlib.Core.List.{List, [], ◌∷◌}
use Prim.Native.Nat.{ℕ, ◌+◌, ◌-◌, ◌*◌, ◌/◌, ◌%◌, ◌^◌, ◌<◌, ◌≤◌}
use native.Mathlib.Omega.{arith}
use lib.Dec.{eqb, leb, ltb}
use lib.ListN.{get_or-eq_default}
use borrow.Author.Tests.{eqb-true, leb-true, ltb-true, lt-ltb, le-ltb}
use Rattle.laws.specs.Below.{every}
use Rattle.laws.specs.Choice.{◌and◌, pick, place_of}
use Rattle.laws.proofs.Below.{every_at}
use Rattle.laws.proofs.Choice.{Tested, holds, fails, tested, pick_yes, pick_no, place_found, and_left, and_right}
use Rattle.laws.proofs.Table.{NoneOf, named_or, otherwise}
use Rattle.refusal.specs.Told.{gives, refuses}
use Rattle.command.specs.Table.{headers, counts, header_of, count_of, line_with}

-- what a header says of its line, computed at each line: parameters minus one in bits 29:16, the operation in 15:8, and
-- no header before it is the same
header_right : ℕ → Bool
header_right l = eqb (header_of l) (3 * 2 ^ 30 + (count_of l - 1) * 2 ^ 16 + (l + 7) * 2 ^ 8) and eqb (place_of (header_of l) headers) l
    and leb 1 (count_of l) and leb (count_of l) 4

all_right : (l : ℕ) → l < 21 → header_right l ≡ true
unfolding header_right header_of count_of place_of pick every ◌and◌
all_right = every_at 21 header_right refl

-- "A header is 3 in bits 31:30, parameters minus one in 29:16, operation in 15:8, zero in 7:0"
pub header_rule : (l : ℕ) → l < 21 → header_of l ≡ 3 * 2 ^ 30 + (count_of l - 1) * 2 ^ 16 + (l + 7) * 2 ^ 8
unfolding header_right
header_rule l h = eqb-true _ _ (and_left _ _ (all_right l h))

pub place_of_line : (l : ℕ) → l < 21 → place_of (header_of l) headers ≡ l
unfolding header_right
place_of_line l h = eqb-true _ _ (and_left _ _ (and_right _ _ (all_right l h)))

pub count_least : (l : ℕ) → l < 21 → 1 ≤ count_of l
unfolding header_right
count_least l h = leb-true _ _ (and_left _ _ (and_right _ _ (and_right _ _ (all_right l h))))

pub count_most : (l : ℕ) → l < 21 → count_of l ≤ 4
unfolding header_right
count_most l h = leb-true _ _ (and_right _ _ (and_right _ _ (and_right _ _ (all_right l h))))

-- every line's number of parameters is bits 29:16 of its header plus one
pub count_in_header : (l : ℕ) → l < 21 → count_of l ≡ header_of l / 2 ^ 16 % 2 ^ 14 + 1
count_in_header l h = omega (arith, header_rule l h, count_least l h, count_most l h)

pub operation_in_header : (l : ℕ) → l < 21 → header_of l / 256 % 256 ≡ l + 7
operation_in_header l h = omega (arith, header_rule l h, count_least l h, count_most l h)

-- past the table there are no parameters
pub count_past : (l : ℕ) → 20 < l → count_of l ≡ 0
unfolding count_of
count_past l h = get_or-eq_default counts 0 {n = l} (omega arith)

-- a line that isn't named here has one parameter
one_parameter : ℕ → Bool
one_parameter l = eqb (count_of l) 1

pub one_parameter_lem : (l : ℕ) → l < 21 → NoneOf Unit (0 ∷ 3 ∷ 4 ∷ 5 ∷ 6 ∷ 7 ∷ 8 ∷ 9 ∷ []) l → count_of l ≡ 1
unfolding one_parameter count_of every named_or place_of pick ◌and◌
one_parameter_lem l h r = eqb-true (count_of l) 1 (otherwise one_parameter (0 ∷ 3 ∷ 4 ∷ 5 ∷ 6 ∷ 7 ∷ 8 ∷ 9 ∷ []) 21 refl l h r)

-- a line of the table that is none of the lines before the last is the last
is_last : ℕ → Bool
is_last l = eqb l 20

abbrev pub before_last : List ℕ
before_last = 0 ∷ 1 ∷ 2 ∷ 3 ∷ 4 ∷ 5 ∷ 6 ∷ 7 ∷ 8 ∷ 9 ∷ 10 ∷ 11 ∷ 12 ∷ 13 ∷ 14 ∷ 15 ∷ 16 ∷ 17 ∷ 18 ∷ 19 ∷ []

pub last_line : (l : ℕ) → l < 21 → NoneOf Unit before_last l → l ≡ 20
unfolding is_last every named_or place_of pick ◌and◌
last_line l h r = eqb-true l 20 (otherwise is_last before_last 21 refl l h r)

module _ (w : ℕ) where
  -- a header that stands in the table is found, at its line
  pub found : (l : ℕ) → l < 21 → header_of l ≡ w → line_with w ≡ gives (l ∷ [])
  unfolding line_with
  found l h e =
      let p : place_of w headers ≡ l = sym (ap (λ (x : ℕ). place_of x headers) e) ∙ place_of_line l h in
      rw p (pick_yes _ _ (lt-ltb l 21 h))

  -- a header that stands in no line is refused
  pub absent : (place_of w headers < 21 → ⊥) → line_with w ≡ refuses 2
  unfolding line_with
  absent n = pick_no _ _ (le-ltb (place_of w headers) 21 (omega arith))

  -- what is found stands in the table
  pub listed : place_of w headers < 21 → header_of (place_of w headers) ≡ w
  unfolding header_of
  listed h = place_found w headers h

  -- the line of a header is its operation less 7
  pub line_of_operation : place_of w headers < 21 → place_of w headers + 7 ≡ w / 256 % 256
  line_of_operation h = sym (operation_in_header (place_of w headers) h) ∙ ap (λ (x : ℕ). x / 256 % 256) (listed h)

  pub absent_low : w / 256 % 256 < 7 → line_with w ≡ refuses 2
  absent_low k = absent (λ h. let e : place_of w headers + 7 ≡ w / 256 % 256 = line_of_operation h in omega arith)

  pub absent_high : 20 < w / 256 % 256 - 7 → line_with w ≡ refuses 2
  absent_high k = absent (λ h. let e : place_of w headers + 7 ≡ w / 256 % 256 = line_of_operation h in omega arith)

  -- no header of another line has this operation
  pub absent_other : (header_of (w / 256 % 256 - 7) ≡ w → ⊥) → line_with w ≡ refuses 2
  absent_other n =
      absent
      (λ h.
      let e : place_of w headers ≡ w / 256 % 256 - 7 = omega (arith, line_of_operation h) in
      n (sym (ap header_of e) ∙ listed h))

-- a header is accepted exactly when it stands in the table, at the line where it stands
pub record Accepted (w l : ℕ) : Type 0 where
  pub line : l < 21
  pub header : header_of l ≡ w

pub accepted_listed : (w l : ℕ) → line_with w ≡ gives (l ∷ []) → Accepted w l
unfolding line_with
accepted_listed w l e = go (tested (ltb (place_of w headers) 21))
  where
    go : Tested (ltb (place_of w headers) 21) → Accepted w l
    go (holds t) =
        let g : gives (place_of w headers ∷ []) ≡ gives (l ∷ []) = sym (pick_yes _ _ t) ∙ e in
        let p : place_of w headers ≡ l = cc in
        let h : place_of w headers < 21 = ltb-true _ _ t in
        record { line = rw p at h; header = rw p at (listed w h) }
    go (fails t) =
        let g : refuses 2 ≡ gives (l ∷ []) = sym (pick_no _ _ t) ∙ e in
        let z : ◌≡◌ {A = ℕ} 0 1 = cc in
        absurd (omega arith)

pub listed_accepted : (w l : ℕ) → Accepted w l → line_with w ≡ gives (l ∷ [])
listed_accepted w l a = found w l a.line a.header

pub refused_absent : (w : ℕ) → line_with w ≡ refuses 2 → (l : ℕ) → Accepted w l → ⊥
refused_absent w e l a =
    let g : refuses 2 ≡ gives (l ∷ []) = sym e ∙ listed_accepted w l a in
    let z : ◌≡◌ {A = ℕ} 0 1 = cc in
    omega arith
