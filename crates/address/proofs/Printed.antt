-- The tables as they are printed are the definitions used, at each size. Assumes nothing.
use Rattle.std.proofs.Common.{◌≡◌, ℕ, ◌+◌, ◌-◌, ◌*◌, ◌/◌, ◌%◌, ◌^◌, ◌<◌, false, sym, refl, ap, ◌∙◌, mod-eq_of_lt, mul_assoc, add-mul, div-add-mod', mul-one, div-one, arith}
use native.Mathlib.Nat.{div-add-mod, div-div-eq-div-mul, mod-one}
use Rattle.laws.specs.Bits.{bit, xor}
use Rattle.laws.specs.Choice.{place_of, pick}
use Rattle.layout.specs.Layout.{unit_of, row_step}
use Rattle.layout.specs.Sizes.{width_of, height_of}
use Rattle.address.specs.Offset.{block_width, block_height, code_of, inside_of, linear_offset}
use Rattle.address.specs.Printed.{from_bits, line1, line2, line4, line8, line16, slice, slices}
use Rattle.address.proofs.Blocks.{low}

-- the low bits of a number
mod8 : (x : ℕ) → x % 8 ≡ 4 * bit 2 x + 2 * bit 1 x + bit 0 x
mod8 x = same (8 * (x / 8)) (x % 8) (4 * bit 2 x) (2 * bit 1 x) (bit 0 x) x (div-add-mod x 8) (low x)
  where
    same : (q r a b c x : ℕ) → q + r ≡ x → q + a + b + c ≡ x → r ≡ a + b + c
    same q r a b c x e f = omega arith

mod4 : (x : ℕ) → x % 4 ≡ 2 * bit 1 x + bit 0 x
mod4 x = omega arith

mod2 : (x : ℕ) → x % 2 ≡ bit 0 x
mod2 x = omega arith

-- bits 10 to 5, and what the rest of a line comes to
above :
    (a b c d e f r t : ℕ) → r ≡ t →
    32 * (32 * a + 16 * b + 8 * c + 4 * d + 2 * e + f) + r ≡
    a * 1024 + (b * 512 + (c * 256 + (d * 128 + (e * 64 + (f * 32 + t)))))
above a b c d e f r t h = omega arith

-- document 01's table of the bits inside a tile, line by line
pub inside1 : (x y : ℕ) → inside_of 1 x y ≡ from_bits (line1 x y)
unfolding inside_of block_width block_height width_of height_of place_of pick code_of
inside1 x y = simp (div-div-eq-div-mul, mod8, mod4) (above _ _ _ _ _ _ _ _ (rest (bit 1 y) (bit 0 y) (bit 2 x) (bit 1 x) (bit 0 x)))
  where
    rest : (a b c d e : ℕ) → ((2 * a + b) * 8 + (4 * c + 2 * d + e)) * 1 ≡ a * 16 + (b * 8 + (c * 4 + (d * 2 + (e * 1 + 0))))
    rest a b c d e = omega arith

pub inside2 : (x y : ℕ) → inside_of 2 x y ≡ from_bits (line2 x y)
unfolding inside_of block_width block_height width_of height_of place_of pick code_of
inside2 x y = simp (div-div-eq-div-mul, mod4) (above _ _ _ _ _ _ _ _ (rest (bit 1 y) (bit 0 y) (bit 1 x) (bit 0 x)))
  where
    rest : (a b c d : ℕ) → ((2 * a + b) * 4 + (2 * c + d)) * 2 ≡ a * 16 + (b * 8 + (c * 4 + (d * 2 + 0)))
    rest a b c d = omega arith

pub inside4 : (x y : ℕ) → inside_of 4 x y ≡ from_bits (line4 x y)
unfolding inside_of block_width block_height width_of height_of place_of pick code_of
inside4 x y = simp (div-div-eq-div-mul, mod4) (above _ _ _ _ _ _ _ _ (rest (bit 0 y) (bit 1 x) (bit 0 x) (y % 2) (mod2 y)))
  where
    rest : (a b c m : ℕ) → m ≡ a → (m * 4 + (2 * b + c)) * 4 ≡ a * 16 + (b * 8 + (c * 4 + 0))
    rest a b c m h = omega arith

pub inside8 : (x y : ℕ) → inside_of 8 x y ≡ from_bits (line8 x y)
unfolding inside_of block_width block_height width_of height_of place_of pick code_of
inside8 x y = simp div-div-eq-div-mul (above _ _ _ _ _ _ _ _ (rest (bit 0 y) (bit 0 x) (y % 2) (x % 2) (mod2 y) (mod2 x)))
  where
    rest : (a b m n : ℕ) → m ≡ a → n ≡ b → (m * 2 + n) * 8 ≡ a * 16 + (b * 8 + 0)
    rest a b m n h k = omega arith

pub inside16 : (x y : ℕ) → inside_of 16 x y ≡ from_bits (line16 x y)
unfolding inside_of block_width block_height width_of height_of place_of pick code_of
inside16 x y = simp div-div-eq-div-mul (above _ _ _ _ _ _ _ _ (rest (bit 0 x) (y % 1) (x % 2) (mod-one y) (mod2 x)))
  where
    rest : (a m n : ℕ) → m ≡ 0 → n ≡ a → (m * 2 + n) * 16 ≡ a * 16 + 0
    rest a m n h k = omega arith

-- a linear address by whole units of 32 bytes: u elements of s bytes
units :
    (u s base pitch x y : ℕ) → u * s ≡ 32 → base % 2048 ≡ 0 →
    32 * (y * (pitch / u) + x / u + base / 32) + x % u * s ≡ base + linear_offset s (pitch / u * u) x y
unfolding linear_offset
units u s base pitch x y h b =
    sum (y * (pitch / u)) (x / u) (x % u * s) ((y * (pitch / u * u) + x) * s) (split (pitch / u))
  where
    split : (n : ℕ) → (y * (n * u) + x) * s ≡ y * n * 32 + (x / u * 32 + x % u * s)
    split n =
        ap (λ (z : ℕ). (y * (n * u) + z) * s) (sym (div-add-mod' x u)) ∙
        simp (add-mul, mul_assoc) (rw h refl)

    sum : (p q r t : ℕ) → t ≡ p * 32 + (q * 32 + r) → 32 * (p + q + base / 32) + r ≡ base + t
    sum p q r t e = omega arith

-- what the slices are cut from: a window's base and pitch, and a pair that fits twelve bits each
pub record Fields (base pitch x y : ℕ) : Type 0 where
  pub base_bits : base < 2 ^ 32
  pub base_low : base % 2048 ≡ 0
  pub pitch_bits : pitch < 2 ^ 14
  pub x_bits : x < 2 ^ 12
  pub y_bits : y < 2 ^ 12

module _ (base pitch x y : ℕ) (f : Fields base pitch x y) where
  cut :
      (u s a b c d e : ℕ) → u * s ≡ 32 → a ≡ y → b ≡ pitch / u → c ≡ x / u → d ≡ base / 32 → e ≡ x % u →
      32 * (a * b + c + d) + e * s ≡ base + linear_offset s (pitch / u * u) x y
  cut u s a b c d e h ea eb ec ed ee = rw (ea, eb, ec, ed, ee) (units u s base pitch x y h f.base_low)

  pub linear1 : slices 5 1 base pitch x y ≡ base + linear_offset 1 (row_step false 1 pitch) x y
  unfolding row_step unit_of pick
  linear1 = cut 32 1 _ _ _ _ _ refl (omega arith) (omega arith) (omega arith) (omega arith) (omega arith)

  pub linear2 : slices 4 2 base pitch x y ≡ base + linear_offset 2 (row_step false 2 pitch) x y
  unfolding row_step unit_of pick
  linear2 = cut 16 2 _ _ _ _ _ refl (omega arith) (omega arith) (omega arith) (omega arith) (omega arith)

  pub linear4 : slices 3 4 base pitch x y ≡ base + linear_offset 4 (row_step false 4 pitch) x y
  unfolding row_step unit_of pick
  linear4 = cut 8 4 _ _ _ _ _ refl (omega arith) (omega arith) (omega arith) (omega arith) (omega arith)

  pub linear8 : slices 2 8 base pitch x y ≡ base + linear_offset 8 (row_step false 8 pitch) x y
  unfolding row_step unit_of pick
  linear8 = cut 4 8 _ _ _ _ _ refl (omega arith) (omega arith) (omega arith) (omega arith) (omega arith)

  pub linear16 : slices 1 16 base pitch x y ≡ base + linear_offset 16 (row_step false 16 pitch) x y
  unfolding row_step unit_of pick
  linear16 = cut 2 16 _ _ _ _ _ refl (omega arith) (omega arith) (omega arith) (omega arith) (omega arith)
