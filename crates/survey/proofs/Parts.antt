-- A row in parts, and rows one after the other: what they write and count together. Assumes nothing.
use mathlib.Core.Path.{◌≡◌, sym, ap, ap₂, ◌∙◌}
use mathlib.Core.Bool.{Bool, false}
use mathlib.Core.List.{List}
use Prim.Native.Nat.{ℕ, ◌+◌, ◌-◌, ◌*◌, ◌/◌, ◌%◌, ◌<◌, ◌≤◌}
use native.Mathlib.Nat.{add-mul, mul-le-mul, mul-le-mul_right}
use native.Mathlib.Omega.{arith}
use lib.Arith.{digits_div, digits_mod}
use Rattle.laws.specs.Below.{sum}
use Rattle.conditions.specs.Asked.{StretchAsked}
use Rattle.conditions.specs.Spans.{span_bit, written}
use Rattle.conditions.proofs.Written.{written_next, counted_next, sum_few, bit_few}
use Rattle.survey.specs.Asked.{PlaceAsked, RowAsked, RowsAsked}
use Rattle.survey.specs.Rows.{number_at, place_of, row_byte, domain_byte}
use Rattle.survey.proofs.Numbers.{row_follows}

-- the front of a row
pub row_front :
    (base stride : ℕ) (tiled : Bool) (x y count first memory room line n : ℕ) →
    RowAsked base stride tiled x y count first memory room line → n ≤ count → RowAsked base stride tiled x y n first memory room line
row_front base stride tiled x y count first memory room line n a h =
    record {
      stride_is = a.stride_is;
      columns = omega (arith, a.columns, h);
      row = a.row;
      low = λ i hi. a.low i (omega (arith, h, hi));
      high = λ i hi. a.high i (omega (arith, h, hi));
      end = a.end;
      bytes = omega (arith, a.bytes, h);
    }

-- a linear row is one run
module _
    (base stride x y count first memory room line : ℕ) (a : RowAsked base stride false x y count first memory room line) (some : 0 < count)
  where
    abbrev e : ℕ
    e = stride / 2

    at_first : number_at base false e (x + 0) y ≡ number_at base false e x y
    at_first = ap (λ (c : ℕ). number_at base false e c y) {x = x + 0} {y = x} (omega arith)

    pub first_place : PlaceAsked base stride false x y first
    first_place =
        record {
          stride_is = a.stride_is;
          column = omega (arith, a.columns, some);
          row = a.row;
          low = omega (arith, at_first, a.low 0 some);
          fits = omega (arith, at_first, a.high 0 some, a.end);
        }

    pub linear_asked : (p n : ℕ) → p ≡ place_of base false e first x y → n ≡ count → StretchAsked p line n memory room
    linear_asked p n ep en =
        record {
          few = omega (arith, en, a.columns, a.stride_is.step);
          numbers =
              omega (
                arith,
                ep,
                en,
                some,
                at_first,
                a.low 0 some,
                row_follows e x y (count - 1),
                a.high (count - 1) (omega (arith, some)),
              );
          bytes = omega (arith, en, a.bytes);
        }

    pub linear_bytes :
        (low top : ℕ) (outside : Bool) (m : List ℕ) (p : ℕ) → p ≡ place_of base false e first x y → (j : ℕ) → j < count →
        span_bit low top outside m (p + 2 * j) ≡ row_byte low top outside m base false e first x y j
    linear_bytes low top outside m p ep j hj =
        ap (span_bit low top outside m) {x = p + 2 * j} {y = place_of base false e first (x + j) y}
        (omega (arith, ep, at_first, a.low 0 some, row_follows e x y j))

-- three parts of a row
module _
    (low top : ℕ) (outside : Bool) (m : List ℕ) (base : ℕ) (tiled : Bool) (e first x y lead n past count : ℕ) (two : past ≡ lead + n)
    (most : past ≤ count)
  where
    abbrev F : ℕ → ℕ
    F = row_byte low top outside m base tiled e first x y

    abbrev from : ℕ → ℕ → ℕ
    from c = row_byte low top outside m base tiled e first (x + c) y

    shifted : (c j : ℕ) → from c j ≡ F (c + j)
    shifted c j = ap (λ (z : ℕ). span_bit low top outside m (place_of base tiled e first z y)) {x = x + c + j} {y = x + (c + j)} (omega arith)

    pub parts_counted :
        (a b c : ℕ) → a ≡ sum lead F → b ≡ sum n (from lead) → c ≡ sum (count - past) (from past) →
        (a + b ≡ sum past F) × (a + b + c ≡ sum count F)
    parts_counted a b c ea eb ec =
        let ab : a + b ≡ sum past F = counted_next F (from lead) lead n past (λ j h. shifted lead j) two a b ea eb in
        (ab, counted_next F (from past) past (count - past) count (λ j h. shifted past j) (omega (arith, most)) (a + b) c ab ec)

    pub parts_written :
        (line l1 l2 : ℕ) (r0 r1 r2 r3 : List ℕ) → r1 ≡ written line F lead r0 → l1 ≡ line + lead → r2 ≡ written l1 (from lead) n r1 →
        l2 ≡ line + past → r3 ≡ written l2 (from past) (count - past) r2 → r3 ≡ written line F count r0
    parts_written line l1 l2 r0 r1 r2 r3 w1 e1 w2 e2 w3 =
        written_next F (from past) past (count - past) count (λ j h. shifted past j) (omega (arith, most)) line l2 r0 r2 r3
        (written_next F (from lead) lead n past (λ j h. shifted lead j) two line l1 r0 r1 r2 w1 e1 w2) e2 w3

-- rows one after the other
module _
    (base stride : ℕ) (tiled : Bool) (x y columns rows first memory room : ℕ)
    (a : RowsAsked base stride tiled x y columns rows first memory room) (some : 0 < columns)
  where
    lines : (j : ℕ) → j < rows → j * columns + columns ≤ rows * columns
    lines j h =
        let next : j + 1 ≤ rows = omega (arith, h) in
        omega (arith, add-mul j 1 columns, mul-le-mul_right columns next)

    pub rows_few : rows * columns ≤ 16777216
    rows_few =
        mul-le-mul {n₂ = 4096} {m₂ = 4096} (omega (arith, a.last)) (omega (arith, a.inside, a.stride_is.step))

    pub rows_row :
        (j line room' : ℕ) → j < rows → line ≡ j * columns → room' ≡ room →
        RowAsked base stride tiled x (y + j) columns first memory room' line
    rows_row j line room' h el er =
        record {
          stride_is = a.stride_is;
          columns = a.inside;
          row = omega (arith, a.last, h);
          low = λ i hi. a.low i j hi h;
          high = λ i hi. a.high i j hi h;
          end = a.end;
          bytes = omega (arith, el, er, a.bytes, lines j h);
        }

    pub next_line : (j line : ℕ) → j < rows → line ≡ j * columns → (line + columns ≡ (j + 1) * columns) × (line + columns ≤ rows * columns)
    next_line j line h el = (omega (arith, el, add-mul j 1 columns), omega (arith, el, lines j h))

    module _ (low top : ℕ) (outside : Bool) (m : List ℕ) where
      abbrev D : ℕ → ℕ
      D = domain_byte low top outside m base tiled (stride / 2) first x y columns

      pub domain_few : (n : ℕ) → sum n D ≤ n
      domain_few n =
          sum_few n D (λ k. bit_few low top outside m (place_of base tiled (stride / 2) first (x + k % columns) (y + k / columns)))

      pub row_bytes :
          (j line i : ℕ) → line ≡ j * columns → i < columns →
          row_byte low top outside m base tiled (stride / 2) first x (y + j) i ≡ D (line + i)
      row_bytes j line i el hi =
          ap₂ (λ (c d : ℕ). span_bit low top outside m (place_of base tiled (stride / 2) first (x + c) (y + d))) (sym column) (sym row)
        where
          here : line + i ≡ j * columns + i
          here = omega (arith, el)

          column : (line + i) % columns ≡ i
          column = ap (λ (k : ℕ). k % columns) here ∙ digits_mod j hi

          row : (line + i) / columns ≡ j
          row = ap (λ (k : ℕ). k / columns) here ∙ digits_div j hi
