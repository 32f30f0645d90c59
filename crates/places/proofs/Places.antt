-- The table of places, corrected for x6 and y5, is the bit rule at every pair. Assumes nothing.
use mathlib.Core.Path.{◌≡◌, refl, sym, ap, ap₂, ◌∙◌, subst}
use mathlib.Core.Bool.{Bool, true, false}
use mathlib.Core.List.{List, [], ◌∷◌}
use Prim.Native.Nat.{ℕ, zero, suc, ◌+◌, ◌*◌, ◌/◌, ◌%◌, ◌<◌}
use native.Mathlib.Nat.{add-zero, zero-add, add-suc, suc-add, le_of_suc-le-suc, not-suc-le-zero}
use lib.Dec.{T, eqb, eqb→eq}
use lib.ListN.{length, get_or}
use Rattle.laws.specs.Bits.{bit, xor}
use Rattle.laws.specs.Choice.{pick, place_of}
use Rattle.layout.specs.Sizes.{width_of, height_of}
use Rattle.places.specs.Places.{places_from, places}
use lib.Bits.{bit_xor, xor_block, xor_zero_r}
use lib.Arith.{digits_div, digits_mod}
use native.Mathlib.Omega.{arith}
use native.Mathlib.Nat.{mod-lt}
use Rattle.laws.proofs.Bits.{xor_of, xor_lt}
use Rattle.address.specs.Offset.{block_width, block_height, code_of, inside_of}

from : (n i k : ℕ) → k < n → get_or (places_from i n) k 0 ≡ inside_of 1 ((i + k) % 64) ((i + k) / 64)
unfolding places_from
from zero i k h = absurd (not-suc-le-zero h)
from (suc n) i zero h = ap (λ (j : ℕ). inside_of 1 (j % 64) (j / 64)) (sym (add-zero i))
from (suc n) i (suc k) h =
    from n (suc i) k (le_of_suc-le-suc h) ∙ ap (λ (j : ℕ). inside_of 1 (j % 64) (j / 64)) (suc-add i k ∙ sym (add-suc i k))

pub entry : (k : ℕ) → k < 2048 → get_or places k 0 ≡ inside_of 1 (k % 64) (k / 64)
unfolding places
entry k h = from 2048 0 k h ∙ ap (λ (j : ℕ). inside_of 1 (j % 64) (j / 64)) (zero-add k)

-- the two highest bits of a place turned by an exclusive or
turned :
    (a b c d r : ℕ) → a < 2 → b < 2 → c < 2 → d < 2 → r < 512 →
    bit_xor (1024 * a + 512 * b + r) (c * 1024 + d * 512) ≡ 1024 * xor a c + 512 * xor b d + r
turned a b c d r ha hb hc hd hr =
    ap₂ (λ (m n : ℕ). bit_xor m n) {x = 1024 * a + 512 * b + r} {y = (a * 2 + b) * 512 + r} {u = c * 1024 + d * 512} {v = (c * 2 + d) * 512 + 0}
    (omega arith) (omega arith) ∙
    xor_block 9 (a * 2 + b) (c * 2 + d) r 0 hr (omega arith) ∙
    ap₂ (λ (m n : ℕ). m * 512 + n) (xor_block 1 a c b d hb hd ∙ ap₂ (λ (m n : ℕ). m * 2 + n) (xor_of a c ha hc) (xor_of b d hb hd)) (xor_zero_r r) ∙
    omega arith

-- what the bits of a column and row of a tile are
low_bits : (n : ℕ) → (bit 0 (n % 8) ≡ bit 0 n) × (bit 1 (n % 8) ≡ bit 1 n) × (bit 2 (n % 8) ≡ bit 2 n) × (bit 3 (n % 8) ≡ 0)
low_bits n = (omega arith, omega arith, omega arith, omega arith)

xor_none : (a : ℕ) → a < 2 → xor a 0 ≡ a
unfolding xor
xor_none a h = omega arith

abbrev rest : ℕ → ℕ → ℕ → ℕ → ℕ
rest X Y a b = 32 * (8 * xor (bit 1 Y) (bit 2 X) + 4 * xor (bit 1 X) (bit 2 Y) + 2 * bit 0 Y + bit 0 X) + (a * 8 + b)

whole : (x y : ℕ) → inside_of 1 x y ≡ 1024 * xor (bit 2 (y / 4)) (bit 3 (x / 8)) + 512 * xor (bit 2 (x / 8)) (bit 3 (y / 4)) + rest (x / 8) (y / 4) (y % 4) (x % 8)
unfolding inside_of code_of block_width block_height width_of height_of place_of pick
whole x y = omega arith

corner : (x y : ℕ) → inside_of 1 (x % 64) (y % 32) ≡ 1024 * bit 2 (y / 4) + 512 * bit 2 (x / 8) + rest (x / 8) (y / 4) (y % 4) (x % 8)
corner x y =
    whole (x % 64) (y % 32) ∙
    rw (ex, ey, ex', ey', bx.0, bx.1, bx.2, bx.3, by.0, by.1, by.2, by.3, xor_none (bit 2 (y / 4)) (mod-lt _ (omega arith)), xor_none (bit 2 (x / 8)) (mod-lt _ (omega arith)))
    refl
  where
    ex : x % 64 / 8 ≡ x / 8 % 8
    ex = omega arith

    ey : y % 32 / 4 ≡ y / 4 % 8
    ey = omega arith

    ex' : x % 64 % 8 ≡ x % 8
    ex' = omega arith

    ey' : y % 32 % 4 ≡ y % 4
    ey' = omega arith

    bx : (bit 0 (x / 8 % 8) ≡ bit 0 (x / 8)) × (bit 1 (x / 8 % 8) ≡ bit 1 (x / 8)) × (bit 2 (x / 8 % 8) ≡ bit 2 (x / 8)) × (bit 3 (x / 8 % 8) ≡ 0)
    bx = low_bits (x / 8)

    by : (bit 0 (y / 4 % 8) ≡ bit 0 (y / 4)) × (bit 1 (y / 4 % 8) ≡ bit 1 (y / 4)) × (bit 2 (y / 4 % 8) ≡ bit 2 (y / 4)) × (bit 3 (y / 4 % 8) ≡ 0)
    by = low_bits (y / 4)

rest_lt : (X Y a b : ℕ) → a < 4 → b < 8 → rest X Y a b < 512
rest_lt X Y a b ha hb = omega (arith, xor_lt (bit 1 Y) (bit 2 X), xor_lt (bit 1 X) (bit 2 Y))

pub inside_lt : (x y : ℕ) → inside_of 1 x y < 2048
inside_lt x y =
    let r = rest_lt (x / 8) (y / 4) (y % 4) (x % 8) (mod-lt y (omega arith)) (mod-lt x (omega arith)) in
    let a = xor_lt (bit 2 (y / 4)) (bit 3 (x / 8)) in
    let b = xor_lt (bit 2 (x / 8)) (bit 3 (y / 4)) in
    omega (arith, whole x y, r, a, b)

-- the table's place, corrected for x6 and y5, is the bit rule's
pub corrected :
    (x y k v : ℕ) → k ≡ y % 32 * 64 + x % 64 → v ≡ get_or places k 0 → bit_xor v (x / 64 % 2 * 1024 + y / 32 % 2 * 512) ≡ inside_of 1 x y
corrected x y k v ek ev =
    ap (λ (n : ℕ). bit_xor n (x / 64 % 2 * 1024 + y / 32 % 2 * 512)) (ev ∙ entry k (omega (arith, ek)) ∙ found ∙ corner x y) ∙
    turned (bit 2 (y / 4)) (bit 2 (x / 8)) (x / 64 % 2) (y / 32 % 2) (rest (x / 8) (y / 4) (y % 4) (x % 8)) (mod-lt _ (omega arith)) (mod-lt _ (omega arith))
    (mod-lt _ (omega arith)) (mod-lt _ (omega arith)) (rest_lt (x / 8) (y / 4) (y % 4) (x % 8) (mod-lt y (omega arith)) (mod-lt x (omega arith))) ∙
    ap₂ (λ (m n : ℕ). 1024 * xor (bit 2 (y / 4)) m + 512 * xor (bit 2 (x / 8)) n + rest (x / 8) (y / 4) (y % 4) (x % 8)) x6 y5 ∙
    sym (whole x y)
  where
    found : inside_of 1 (k % 64) (k / 64) ≡ inside_of 1 (x % 64) (y % 32)
    found = ap₂ (λ (m n : ℕ). inside_of 1 m n) {x = k % 64} {y = x % 64} {u = k / 64} {v = y % 32} (omega (arith, ek)) (omega (arith, ek))

    x6 : x / 64 % 2 ≡ bit 3 (x / 8)
    x6 = omega arith

    y5 : y / 32 % 2 ≡ bit 3 (y / 4)
    y5 = omega arith
