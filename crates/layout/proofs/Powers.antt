-- The powers of 2 that row steps, strides and rows are multiples of, and cutting down and filling up by them, as the code does it
-- with shifts, or with what the tables say. Assumes nothing.
use mathlib.Core.Path.{◌≡◌, refl, ap, ap₂, ◌∙◌}
use mathlib.Core.Bool.{Bool, true, false}
use Prim.Native.Nat.{ℕ, ◌+◌, ◌-◌, ◌*◌, ◌/◌, ◌%◌, ◌^◌, ◌<◌, ◌≤◌}
use native.Mathlib.Nat.{one-mul, lt_of_le_of_lt, div-mul-le_self, mod-lt, mod-eq_of_lt}
use native.Mathlib.Omega.{arith}
use lib.Pow.{pow-add}
use Rattle.laws.specs.Choice.{pick, place_of}
use Rattle.laws.proofs.Choice.{by_pick}
use Rattle.layout.specs.Sizes.{is_size, width_of, height_of}
use Rattle.layout.specs.Asked.{StrideAsked}
use Rattle.layout.specs.Powers.{power_at, Powers}
use Rattle.layout.specs.Layout.{well_formed, unit_of, row_step, tile_rows, rows_taken}
use Rattle.layout.proofs.Sizes.{by_size}
use Rattle.layout.proofs.Window.{form_size}
use Rattle.layout.proofs.Rows.{bytes_most}

-- the numbers that the code has, by their octal digits: of row steps, tiled and linear; of tiled strides over 32; of tiles' rows
abbrev tiled_steps : ℕ
tiled_steps = 6 * 8 ^ 1 + 5 * 8 ^ 2 + 5 * 8 ^ 4 + 4 * 8 ^ 8 + 4 * 8 ^ 16

abbrev linear_steps : ℕ
linear_steps = 5 * 8 ^ 1 + 4 * 8 ^ 2 + 3 * 8 ^ 4 + 2 * 8 ^ 8 + 1 * 8 ^ 16

abbrev tiled_strides : ℕ
tiled_strides = 1 * 8 ^ 1 + 1 * 8 ^ 2 + 2 * 8 ^ 4 + 2 * 8 ^ 8 + 3 * 8 ^ 16

abbrev tiled_rows : ℕ
tiled_rows = 5 * 8 ^ 1 + 5 * 8 ^ 2 + 4 * 8 ^ 4 + 4 * 8 ^ 8 + 3 * 8 ^ 16

pub step_powers : Powers tiled_steps (unit_of true) × Powers linear_steps (unit_of false)
unfolding unit_of pick width_of place_of
step_powers = (
  record { at = by_size (λ s. 2 ^ power_at tiled_steps s ≡ unit_of true s) refl refl refl refl refl },
  record { at = by_size (λ s. 2 ^ power_at linear_steps s ≡ unit_of false s) refl refl refl refl refl },
)

abbrev stride_units : Bool → ℕ → ℕ
stride_units tiled s = unit_of tiled s * s / 32

pub stride_powers : Powers tiled_strides (stride_units true) × Powers 0 (stride_units false)
unfolding unit_of pick width_of place_of
stride_powers = (
  record { at = by_size (λ s. 2 ^ power_at tiled_strides s ≡ stride_units true s) refl refl refl refl refl },
  record { at = by_size (λ s. 2 ^ power_at 0 s ≡ stride_units false s) refl refl refl refl refl },
)

abbrev row_units : Bool → ℕ → ℕ
row_units tiled s = pick tiled (height_of s) 1

pub row_powers : Powers tiled_rows (row_units true) × Powers 0 (row_units false)
unfolding pick height_of place_of
row_powers = (
  record { at = by_size (λ s. 2 ^ power_at tiled_rows s ≡ row_units true s) refl refl refl refl refl },
  record { at = by_size (λ s. 2 ^ power_at 0 s ≡ row_units false s) refl refl refl refl refl },
)

-- the bytes of a unit of row steps are a multiple of 32
whole_stride : (tiled : Bool) (s : ℕ) → is_size s ≡ true → stride_units tiled s * 32 ≡ unit_of tiled s * s
unfolding unit_of pick width_of place_of
whole_stride true = by_size (λ s. stride_units true s * 32 ≡ unit_of true s * s) refl refl refl refl refl
whole_stride false = by_size (λ s. stride_units false s * 32 ≡ unit_of false s * s) refl refl refl refl refl

-- the powers that the code reads at a size
module _ (tiled : Bool) (s n l : ℕ) (z : is_size s ≡ true) (read : l ≡ power_at n s) where
  eight : 0 < 8
  eight = omega arith

  few : l ≤ 7
  few = omega (arith, read, mod-lt (n / 2 ^ (3 * s)) eight)

  pub stride_read : Powers n (stride_units tiled) → (l + 5 ≤ 12) × (2 ^ (l + 5) ≡ unit_of tiled s * s)
  stride_read p = (
    omega (arith, few),
    pow-add 2 l 5 ∙ ap (λ (k : ℕ). 2 ^ k * 32) read ∙ ap (λ (k : ℕ). k * 32) (p.at s z) ∙ whole_stride tiled s z,
  )

  pub rows_read : Powers n (row_units tiled) → (l ≤ 7) × (2 ^ l ≡ row_units tiled s)
  rows_read p = (few, ap (λ (k : ℕ). 2 ^ k) read ∙ p.at s z)

  pub step_read : Powers n (unit_of tiled) → (l ≤ 7) × (2 ^ l ≡ unit_of tiled s)
  step_read p = (few, ap (λ (k : ℕ). 2 ^ k) read ∙ p.at s z)

-- cutting down by shifts stays in 32 bits
shifted : (n k : ℕ) → n < 2 ^ 32 → n / k * k % 2 ^ 32 ≡ n / k * k
shifted n k h = mod-eq_of_lt (lt_of_le_of_lt (div-mul-le_self n k) h)

pub cut_step : (tiled : Bool) (s p l : ℕ) → p < 2 ^ 32 → 2 ^ l ≡ unit_of tiled s →
    p / 2 ^ l * 2 ^ l % 2 ^ 32 ≡ row_step tiled s p
unfolding row_step
cut_step tiled s p l h e = shifted p (2 ^ l) h ∙ ap (λ (k : ℕ). p / k * k) e

-- the stride
cut : (tiled : Bool) (s p : ℕ) → is_size s ≡ true → p * s / (unit_of tiled s * s) * (unit_of tiled s * s) ≡ row_step tiled s p * s
unfolding row_step unit_of pick width_of place_of
cut true s p =
    by_size (λ s. p * s / (unit_of true s * s) * (unit_of true s * s) ≡ row_step true s p * s)
    (omega arith)
    (omega arith)
    (omega arith)
    (omega arith)
    (omega arith)
    s
cut false s p =
    by_size (λ s. p * s / (unit_of false s * s) * (unit_of false s * s) ≡ row_step false s p * s)
    (omega arith)
    (omega arith)
    (omega arith)
    (omega arith)
    (omega arith)
    s

pub cut_stride : (tiled : Bool) (s p l : ℕ) → is_size s ≡ true → p ≤ 8188 → 2 ^ l ≡ unit_of tiled s * s →
    p * s / 2 ^ l * 2 ^ l % 2 ^ 32 ≡ row_step tiled s p * s
cut_stride tiled s p l z h e =
    shifted (p * s) (2 ^ l) (lt_of_le_of_lt (bytes_most s p z h) (omega arith)) ∙ ap (λ (k : ℕ). p * s / k * k) e ∙ cut tiled s p z

-- a linear row of bytes is a multiple of 32, and its rows are multiples of 1
pub linear_asked : (base pitch s : ℕ) → well_formed base pitch s ≡ true → StrideAsked base pitch s false 5 0
unfolding unit_of pick
linear_asked base pitch s w =
    record {
      form = w;
      stride_few = omega arith;
      stride_unit = by_size (λ s. 32 ≡ 32 / s * s) refl refl refl refl refl s (form_size base pitch s w);
      rows_few = omega arith;
      rows_unit = refl;
    }

-- the height filled up to whole tiles
filled : (tiled : Bool) (s h : ℕ) →
    (h + (pick tiled (height_of s) 1 - 1)) / pick tiled (height_of s) 1 * pick tiled (height_of s) 1 ≡ rows_taken tiled s h
unfolding rows_taken tile_rows pick
filled true s h = refl
filled false s h = omega arith

tile_rows_lem : (s : ℕ) → is_size s ≡ true → (1 ≤ height_of s) × (height_of s ≤ 32)
unfolding height_of place_of
tile_rows_lem =
    by_size (λ s. (1 ≤ height_of s) × (height_of s ≤ 32)) (omega arith) (omega arith) (omega arith) (omega arith) (omega arith)

unit_pos : (tiled : Bool) (s : ℕ) → is_size s ≡ true → 0 < unit_of tiled s
unfolding unit_of pick width_of place_of
unit_pos true =
    by_size (λ s. 0 < unit_of true s) (omega arith) (omega arith) (omega arith) (omega arith) (omega arith)
unit_pos false =
    by_size (λ s. 0 < unit_of false s) (omega arith) (omega arith) (omega arith) (omega arith) (omega arith)

-- the same by the tables' numbers
module _ (tiled : Bool) (s : ℕ) (z : is_size s ≡ true) where
  module _ (p c : ℕ) (e : c ≡ unit_of tiled s) where
    pub some_columns : 0 < c
    some_columns = rw e (unit_pos tiled s z)

    pub table_step : p / c * c ≡ row_step tiled s p
    unfolding row_step
    table_step = ap (λ (k : ℕ). p / k * k) e

  module _ (r : ℕ) (e : r ≡ row_units tiled s) where
    pub rows_bounds : (1 ≤ r) × (r ≤ 32)
    rows_bounds =
        rw e
        (by_pick (λ (n : ℕ). (1 ≤ n) × (n ≤ 32)) tiled (height_of s) 1 (λ _. tile_rows_lem s z) (λ _. (omega arith, omega arith)))

    pub table_rows : (h : ℕ) → (h + (r - 1)) / r * r ≡ rows_taken tiled s h
    table_rows h = ap (λ (k : ℕ). (h + (k - 1)) / k * k) e ∙ filled tiled s h

-- the rows that a window's are a multiple of, and the power of 2 as the code has it
module _ (tiled : Bool) (s l : ℕ) (z : is_size s ≡ true) (e : 2 ^ l ≡ pick tiled (height_of s) 1) where
  abbrev unit : ℕ
  unit = pick tiled (height_of s) 1

  bounds : (1 ≤ unit) × (unit ≤ 32)
  bounds =
      by_pick (λ (n : ℕ). (1 ≤ n) × (n ≤ 32)) tiled (height_of s) 1 (λ _. tile_rows_lem s z) (λ _. (omega arith, omega arith))

  made : 1 * 2 ^ l % 2 ^ 32 ≡ unit
  made = ap (λ (n : ℕ). n % 2 ^ 32) (one-mul (2 ^ l) ∙ e) ∙ mod-eq_of_lt (omega (arith, bounds))

  pub unit_least : 1 ≤ 1 * 2 ^ l % 2 ^ 32
  unit_least = rw made bounds.0

  pub unit_fits : (h : ℕ) → h ≤ 4096 → h + (1 * 2 ^ l % 2 ^ 32 - 1) ≤ 4127
  unit_fits h b = rw made (omega (arith, b, bounds))

  pub filled_rows : (h : ℕ) → h ≤ 4096 → (h + (1 * 2 ^ l % 2 ^ 32 - 1)) / 2 ^ l * 2 ^ l % 2 ^ 32 ≡ rows_taken tiled s h
  filled_rows h b =
      shifted _ (2 ^ l) (lt_of_le_of_lt (unit_fits h b) (omega arith)) ∙
      ap₂ (λ (n k : ℕ). (h + (n - 1)) / k * k) made e ∙
      filled tiled s h
