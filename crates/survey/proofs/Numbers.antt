-- Where the numbers of a row stand: parts of it, groups of four, runs. Assumes nothing.
use mathlib.Core.Path.{◌≡◌, refl, ap, ◌∙◌, subst}
use mathlib.Core.Bool.{Bool, true, false}
use mathlib.Core.List.{List}
use Prim.Native.Nat.{ℕ, ◌+◌, ◌-◌, ◌*◌, ◌/◌, ◌%◌, ◌<◌, ◌≤◌}
use native.Mathlib.Omega.{arith}
use Rattle.laws.specs.Choice.{pick, place_of}
use Rattle.layout.specs.Sizes.{is_size}
use Rattle.address.specs.Asked.{PairAsked}
use Rattle.address.specs.Offset.{linear_offset, offset_of}
use Rattle.address.specs.Run.{run_unit, run_number}
use Rattle.address.proofs.Runs.{tiled_at}
use Rattle.laws.specs.Below.{sum}
use Rattle.conditions.proofs.Written.{sum_few, bit_few}
use Rattle.conditions.specs.Asked.{StretchAsked}
use Rattle.conditions.specs.Spans.{span_bit}
use Rattle.survey.specs.Asked.{StrideAsked, PlaceAsked, RowAsked}
use Rattle.survey.specs.Rows as rows
use Rattle.survey.specs.Rows.{number_at, row_byte}

pub two_size : is_size 2 ≡ true
unfolding is_size place_of
two_size = refl

-- a pair that the address routines take
pub pair_asked : (stride x y : ℕ) → StrideAsked stride → x < stride / 2 → y < 4096 → PairAsked 2 (stride / 2) x y
pair_asked stride x y s hx hy = record { size = two_size; step = s.step; column = hx; row = hy }

-- the unit of a run of numbers
unit_two : run_unit 2 ≡ 4
unfolding run_unit place_of
unit_two = refl

linear_follows : (e x y j : ℕ) → linear_offset 2 e (x + j) y ≡ linear_offset 2 e x y + j * 2
unfolding linear_offset
linear_follows e x y j = omega arith

-- numbers of a row that follow each other
pub run_follows :
    (tiled : Bool) (e x y j : ℕ) → j < run_number tiled 2 e x → offset_of tiled 2 e (x + j) y ≡ offset_of tiled 2 e x y + j * 2
unfolding offset_of run_number pick
run_follows true e x y j h = tiled_at 2 e x y two_size j h
run_follows false e x y j h = linear_follows e x y j

group_number : (e x : ℕ) → run_number true 2 e x ≡ 4 - x % 4
unfolding run_number pick
group_number e x = ap (λ (g : ℕ). g - x % g) unit_two

row_number : (e x : ℕ) → run_number false 2 e x ≡ e - x
unfolding run_number pick
row_number e x = refl

pub run_some : (tiled : Bool) (e x : ℕ) → x < e → 0 < run_number tiled 2 e x
run_some true e x h = omega (arith, group_number e x)
run_some false e x h = omega (arith, row_number e x, h)

pub group_follows : (e x y j : ℕ) → x % 4 ≡ 0 → j < 4 → offset_of true 2 e (x + j) y ≡ offset_of true 2 e x y + j * 2
group_follows e x y j h hj = run_follows true e x y j (omega (arith, group_number e x, h, hj))

-- group i of a row that begins with a group
pub group_of :
    (base e x y i : ℕ) → x % 4 ≡ 0 → (j : ℕ) → j < 4 →
    number_at base true e (x + 4 * i + j) y ≡ number_at base true e (x + 4 * i) y + j * 2
group_of base e x y i h j hj = omega (arith, group_follows e (x + 4 * i) y j (omega (arith, h)) hj)

pub row_follows : (e x y j : ℕ) → offset_of false 2 e (x + j) y ≡ offset_of false 2 e x y + j * 2
unfolding offset_of pick
row_follows e x y j = linear_follows e x y j

-- a row's bytes add up to no more than their number
pub row_few :
    (low top : ℕ) (outside : Bool) (m : List ℕ) (base : ℕ) (tiled : Bool) (e first x y n : ℕ) →
    sum n (row_byte low top outside m base tiled e first x y) ≤ n
row_few low top outside m base tiled e first x y n =
    sum_few n (row_byte low top outside m base tiled e first x y) (λ j. bit_few low top outside m (rows.place_of base tiled e first (x + j) y))

-- a part of a row
module _
    (base stride : ℕ) (tiled : Bool) (x y count first memory room line : ℕ)
    (a : RowAsked base stride tiled x y count first memory room line)
  where
    abbrev e : ℕ
    e = stride / 2

    abbrev at : ℕ → ℕ
    at c = number_at base tiled e c y

    pub row_part : (i n room' : ℕ) → i + n ≤ count → room' ≡ room → RowAsked base stride tiled (x + i) y n first memory room' (line + i)
    row_part i n room' h same =
        record {
          stride_is = a.stride_is;
          columns = omega (arith, a.columns, h);
          row = a.row;
          low = λ j hj. subst (λ (c : ℕ). first ≤ at c) {x = x + (i + j)} {y = x + i + j} (omega arith) (a.low (i + j) (omega (arith, h, hj)));
          high =
              λ j hj.
              subst (λ (c : ℕ). at c + 2 ≤ first + memory) {x = x + (i + j)} {y = x + i + j} (omega arith) (a.high (i + j) (omega (arith, h, hj)));
          end = a.end;
          bytes = omega (arith, a.bytes, h, same);
        }

    pub place_asked : (i : ℕ) → i < count → PlaceAsked base stride tiled (x + i) y first
    place_asked i h =
        record {
          stride_is = a.stride_is;
          column = omega (arith, a.columns, h);
          row = a.row;
          low = a.low i h;
          fits = omega (arith, a.high i h, a.end);
        }

    -- the number stands whole in memory
    pub whole_number : (i : ℕ) → i < count → rows.place_of base tiled e first (x + i) y + 2 ≤ memory
    whole_number i h = omega (arith, a.high i h, a.low i h)

    -- numbers from number i on that follow each other
    module _ (i n : ℕ) (some : 0 < n) (h : i + n ≤ count) (follow : (j : ℕ) → j < n → at (x + i + j) ≡ at (x + i) + j * 2) where
      last_at : at (x + (i + (n - 1))) ≡ at (x + i) + (n - 1) * 2
      last_at =
          ap at {x = x + (i + (n - 1))} {y = x + i + (n - 1)} (omega arith) ∙ follow (n - 1) (omega (arith, some))

      pub stretch_asked :
          (p at_line_lem room' : ℕ) → p ≡ rows.place_of base tiled e first (x + i) y → at_line_lem ≡ line + i → room' ≡ room →
          StretchAsked p at_line_lem n memory room'
      stretch_asked p at_line_lem room' ep el er =
          record {
            few = omega (arith, h, a.columns, a.stride_is.step);
            numbers =
                omega (
                  arith,
                  ep,
                  last_at,
                  some,
                  a.low i (omega (arith, h, some)),
                  a.high (i + (n - 1)) (omega (arith, h, some)),
                );
            bytes = omega (arith, el, er, h, a.bytes);
          }

      -- their bytes are the row's
      pub same_bytes :
          (low top : ℕ) (outside : Bool) (m : List ℕ) (p : ℕ) → p ≡ rows.place_of base tiled e first (x + i) y → (j : ℕ) → j < n →
          span_bit low top outside m (p + 2 * j) ≡ row_byte low top outside m base tiled e first x y (i + j)
      same_bytes low top outside m p ep j hj =
          ap (span_bit low top outside m) {x = p + 2 * j} {y = rows.place_of base tiled e first (x + (i + j)) y}
          (omega (arith, ep, follow j hj, a.low i (omega (arith, h, some)), ap at {x = x + (i + j)} {y = x + i + j} (omega arith)))
