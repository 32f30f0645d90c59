-- Rows counted in bytes, as the code counts them: the row step, the rows that a window's bytes make up and the window rule
-- over them. Assumes nothing.
use mathlib.Core.Path.{◌≡◌, refl, sym, ap, ap₂, ◌∙◌}
use mathlib.Core.Bool.{Bool, true, false}
use Prim.Native.Nat.{ℕ, ◌+◌, ◌-◌, ◌*◌, ◌/◌, ◌^◌, ◌<◌, ◌≤◌}
use native.Mathlib.Nat.{mul_assoc, mul_left_comm, mul-le-mul, mul-pos, le_of_mul-le-mul_right, lt_of_mul-lt-mul_right}
use native.Mathlib.Omega.{arith}
use borrow.Author.Tests.{leb-true, le-leb, lt-leb}
use Rattle.laws.specs.Choice.{pick, place_of}
use Rattle.laws.proofs.Choice.{pick_yes, pick_no, by_pick, and_intro, and_left, and_right, and_no_left, and_no_right, Tested, tested, holds, fails}
use Rattle.layout.specs.Sizes.{is_size, width_of, height_of}
use Rattle.layout.specs.Layout.{well_formed, row_step, tile_rows, span_of, in_bounds, window_rule, rows_taken, stride_of}
use Rattle.layout.proofs.Sizes.{by_size, tile}
use Rattle.layout.proofs.Window.{form_size, size_most, step_whole, rule_bounds}

-- a well-formed pitch is at most 8,188
pub form_pitch : (base pitch s : ℕ) → well_formed base pitch s ≡ true → pitch ≤ 8188
unfolding well_formed
form_pitch base pitch s e = leb-true _ _ (and_left _ _ (and_right _ _ (and_right _ _ e)))

pub bytes_most : (s n : ℕ) → is_size s ≡ true → n ≤ 8188 → n * s ≤ 8188 * 16
bytes_most s n z h = mul-le-mul h (size_most s z)

-- 4,096 is a whole number of tiles at every size
filled_most : (s h : ℕ) → is_size s ≡ true → h ≤ 4096 → tile_rows s h * height_of s ≤ 4096
unfolding tile_rows height_of place_of
filled_most s h =
    by_size (λ s. h ≤ 4096 → tile_rows s h * height_of s ≤ 4096) (omega arith) (omega arith) (omega arith) (omega arith)
    (omega arith)
    s

pub rows_most : (tiled : Bool) (s h : ℕ) → is_size s ≡ true → h ≤ 4096 → rows_taken tiled s h ≤ 4096
unfolding rows_taken
rows_most tiled s h z k = by_pick (λ (n : ℕ). n ≤ 4096) tiled _ _ (λ e. filled_most s h z k) (λ e. k)

filled_least : (s h : ℕ) → is_size s ≡ true → h ≤ tile_rows s h * height_of s
unfolding tile_rows height_of place_of
filled_least s h =
    by_size (λ s. h ≤ tile_rows s h * height_of s) (omega arith) (omega arith) (omega arith) (omega arith) (omega arith) s

rows_least : (tiled : Bool) (s h : ℕ) → is_size s ≡ true → h ≤ rows_taken tiled s h
unfolding rows_taken
rows_least tiled s h z =
    let k : h ≤ h = omega arith in by_pick (λ (n : ℕ). h ≤ n) tiled _ _ (λ e. filled_least s h z) (λ e. k)

-- rows and bytes of a row make up the span
regroup : (t k a b c : ℕ) → t * k * (a * (b * c)) ≡ t * a * (k * b * c)
regroup t k a b c = simp mul_assoc (ap (λ (n : ℕ). t * n) (mul_left_comm k a (b * c)))

tile_bytes : (s : ℕ) → is_size s ≡ true → height_of s * (width_of s * s) ≡ 2048
unfolding width_of height_of place_of
tile_bytes =
    by_size (λ s. height_of s * (width_of s * s) ≡ 2048) (omega arith) (omega arith) (omega arith) (omega arith) (omega arith)

pub span_by_rows :
    (tiled : Bool) (s pitch h : ℕ) → is_size s ≡ true →
    rows_taken tiled s h * (row_step tiled s pitch * s) ≡ span_of tiled s (row_step tiled s pitch) h
unfolding rows_taken span_of pick
span_by_rows true s pitch h z =
    let e = row_step true s pitch in
    ap (λ (n : ℕ). tile_rows s h * height_of s * (n * s)) (sym (step_whole true s pitch z refl)) ∙
    sym (regroup (tile_rows s h) (e / width_of s) (height_of s) (width_of s) s) ∙
    ap (λ (n : ℕ). tile_rows s h * (e / width_of s) * n) (tile_bytes s z)
span_by_rows false s pitch h z = sym (mul_assoc h (row_step false s pitch) s)

-- a row of bytes is empty just where the row step is 0
some_step : (e s : ℕ) → is_size s ≡ true → (1 ≤ e * s → 1 ≤ e) × (e * s < 1 → e < 1)
some_step e =
    by_size (λ s. (1 ≤ e * s → 1 ≤ e) × (e * s < 1 → e < 1)) (omega arith) (omega arith) (omega arith) (omega arith)
    (omega arith)

-- the window rule, as far as the tests on the way decide it; `r` is the row step in bytes
module _ (base pitch h s : ℕ) (tiled : Bool) (form : well_formed base pitch s ≡ true) where
  abbrev e : ℕ
  e = row_step tiled s pitch

  abbrev rule : Bool
  rule = window_rule base tiled s e h

  size : is_size s ≡ true
  size = form_size base pitch s form

  broken : rule ≡ false → 0 ≡ stride_of base pitch h s tiled
  unfolding stride_of
  broken w = sym (pick_no _ _ w)

  module _ (r : ℕ) (er : r ≡ e * s) where
    pub no_stride : r < 1 → 0 ≡ stride_of base pitch h s tiled
    unfolding window_rule in_bounds
    no_stride k = broken (and_no_left _ (and_no_left _ (lt-leb _ _ ((some_step e s size).1 (rw er at k)))))

    pub long_stride : 4096 * s < r → 0 ≡ stride_of base pitch h s tiled
    unfolding window_rule in_bounds
    long_stride k =
        broken (and_no_left _ (and_no_right _ (and_no_left _ (lt-leb _ _ (lt_of_mul-lt-mul_right s (rw er at k))))))

    pub no_height : h < 1 → 0 ≡ stride_of base pitch h s tiled
    unfolding window_rule in_bounds
    no_height k = broken (and_no_left _ (and_no_right _ (and_no_right _ (and_no_left _ (lt-leb _ _ k)))))

    pub great_height : 4096 < h → 0 ≡ stride_of base pitch h s tiled
    unfolding window_rule in_bounds
    great_height k = broken (and_no_left _ (and_no_right _ (and_no_right _ (and_no_right _ (lt-leb _ _ k)))))

    module _ (least : 1 ≤ r) (most : r ≤ 4096 * s) (low : 1 ≤ h) (high : h ≤ 4096) (n : ℕ) (en : n ≡ rows_taken tiled s h) where
      bounded : in_bounds e h ≡ true
      unfolding in_bounds
      bounded =
          and_intro (le-leb _ _ ((some_step e s size).0 (rw er at least)))
          (and_intro (le-leb _ _ (le_of_mul-le-mul_right (rw er at most) (tile s size).s_pos))
          (and_intro (le-leb _ _ low) (le-leb _ _ high)))

      pub span_most : n * r ≤ 2 ^ 28
      span_most =
          mul-le-mul {n₂ = 4096} {m₂ = 2 ^ 16} (rw en (rows_most tiled s h size high)) (omega (arith, most, size_most s size))

      pub span_least : 0 < n * r
      span_least = mul-pos {m = n} (omega (arith, en, rows_least tiled s h size)) (omega (arith, least))

      is_span : n * r ≡ span_of tiled s e h
      is_span = ap₂ (λ (i k : ℕ). i * k) en er ∙ span_by_rows tiled s pitch h size

      pub kept : base < 2 ^ 32 → n * r - 1 ≤ (2 ^ 32 - 1) - base → r ≡ stride_of base pitch h s tiled
      unfolding window_rule stride_of
      kept b k = er ∙ sym (pick_yes _ _ (and_intro bounded (le-leb (base + span_of tiled s e h) (2 ^ 32) (omega (arith, is_span)))))

      pub too_high_lem : (2 ^ 32 - 1) - base < n * r - 1 → 0 ≡ stride_of base pitch h s tiled
      unfolding window_rule
      too_high_lem k = broken (and_no_right _ (lt-leb (base + span_of tiled s e h) (2 ^ 32) (omega (arith, is_span, span_least))))

  -- what the row shows of the rule
  pub record Ruled (r : ℕ) : Type 0 where
    pub rule : window_rule base tiled s e h ≡ true
    pub stride : r ≡ e * s

  pub ruled : (r : ℕ) → r ≡ stride_of base pitch h s tiled → 1 ≤ r → Ruled r
  unfolding stride_of
  ruled r er k = go (tested rule)
    where
      go : Tested rule → Ruled r
      go (holds w) = record { rule = w; stride = er ∙ pick_yes _ _ w }
      go (fails w) = absurd (omega (arith, k, er ∙ pick_no (e * s) 0 w))

  pub unruled : (r : ℕ) → r ≡ stride_of base pitch h s tiled → r < 1 → rule ≡ false
  unfolding stride_of
  unruled r er k = go (tested rule)
    where
      go : Tested rule → rule ≡ false
      go (holds w) =
          absurd
          (omega (arith, (some_step e s size).1 (rw (er ∙ pick_yes (e * s) 0 w) at k), (rule_bounds base tiled s e h w).step_least))
      go (fails w) = w

  -- rows and row of a window that the rule accepts
  pub window_span :
      (r n : ℕ) → Ruled r → n ≡ rows_taken tiled s h → (n * r ≡ span_of tiled s e h) × (n * r ≤ 2 ^ 28) × (h ≤ 4096)
  window_span r n w en =
      let b = rule_bounds base tiled s e h w.rule in (
        ap₂ (λ (i k : ℕ). i * k) en w.stride ∙ span_by_rows tiled s pitch h size,
        mul-le-mul {n₂ = 4096} {m₂ = 2 ^ 16} (rw en (rows_most tiled s h size b.height_most))
            (rw w.stride (mul-le-mul {n₂ = 4096} {m₂ = 16} b.step_most (size_most s size))),
        b.height_most,
      )
