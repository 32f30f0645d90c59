-- The code of a block inside its tile, bits 10 to 5 of the place, has an inverse: the way back finds the block's column and
-- row from the tile's and the code. No size is in it. Assumes nothing.
use Rattle.std.proofs.Common.{◌≡◌, ℕ, ◌+◌, ◌*◌, ◌/◌, ◌%◌, ◌<◌, sym, refl, ap, ◌∙◌, ap₂, div-one, arith}
use native.Mathlib.Nat.{div-add-mod, div-div-eq-div-mul}
use lib.Bits.{bit_xor, xor_block}
use Rattle.laws.specs.Bits.{bit, xor}
use Rattle.laws.proofs.Bits.{bit_zero, xor_lt, xor_back, xor_of}
use Rattle.address.specs.Offset.{code_of, high_x, high_y, block_x, block_y}

-- a number of six bits, and its bits
record Six (n a b c d e f : ℕ) : Type 0 where
  bit5 : bit 5 n ≡ a
  bit4 : bit 4 n ≡ b
  bit3 : bit 3 n ≡ c
  bit2 : bit 2 n ≡ d
  bit1 : bit 1 n ≡ e
  bit0 : bit 0 n ≡ f

six :
    (a b c d e f : ℕ) → a < 2 → b < 2 → c < 2 → d < 2 → e < 2 → f < 2 →
    Six (32 * a + 16 * b + 8 * c + 4 * d + 2 * e + f) a b c d e f
six a b c d e f ha hb hc hd he hf = omega arith

-- a number by its quotient by 8 and its three low bits
record Eights (x n a b c : ℕ) : Type 0 where
  pub quotient : x / 8 ≡ n
  pub bit3 : bit 3 x ≡ bit 0 n
  pub bit2 : bit 2 x ≡ a
  pub bit1 : bit 1 x ≡ b
  pub bit0 : bit 0 x ≡ c

eights : (n a b c : ℕ) → a < 2 → b < 2 → c < 2 → Eights (8 * n + 4 * a + 2 * b + c) n a b c
eights n a b c ha hb hc = omega arith

-- a number is its three low bits and eight times the rest
pub low : (x : ℕ) → 8 * (x / 8) + 4 * bit 2 x + 2 * bit 1 x + bit 0 x ≡ x
low x = join (x / 1) (x / 2) (x / 4) (x / 8) (halved 1 x) (halved 2 x) (halved 4 x) ∙ div-one x
  where
    halved : (d n : ℕ) → 2 * (n / (d * 2)) + n / d % 2 ≡ n / d
    halved d n = rw (← (div-div-eq-div-mul n d 2)) (div-add-mod (n / d) 2)

    join :
        (x x2 x4 x8 : ℕ) → 2 * x2 + x % 2 ≡ x → 2 * x4 + x2 % 2 ≡ x2 → 2 * x8 + x4 % 2 ≡ x4 →
        8 * x8 + 4 * (x4 % 2) + 2 * (x2 % 2) + x % 2 ≡ x
    join x x2 x4 x8 e0 e1 e2 = sum x x2 x4 x8 (x % 2) (x2 % 2) (x4 % 2) e0 e1 e2
      where
        sum :
            (x x2 x4 x8 b0 b1 b2 : ℕ) → 2 * x2 + b0 ≡ x → 2 * x4 + b1 ≡ x2 → 2 * x8 + b2 ≡ x4 →
            8 * x8 + 4 * b2 + 2 * b1 + b0 ≡ x
        sum x x2 x4 x8 b0 b1 b2 e0 e1 e2 = omega arith

-- a number of six bits is their sum
whole : (n : ℕ) → n < 64 → 32 * bit 5 n + 16 * bit 4 n + 8 * bit 3 n + 4 * bit 2 n + 2 * bit 1 n + bit 0 n ≡ n
whole n h =
    sum (n / 8) (n / 8 / 8) (bit 5 n) (bit 4 n) (bit 3 n) (bit 2 n) (bit 1 n) (bit 0 n) (omega arith) (above (low (n / 8))) (low n)
  where
    above :
        8 * (n / 8 / 8) + 4 * bit 2 (n / 8) + 2 * bit 1 (n / 8) + bit 0 (n / 8) ≡ n / 8 →
        8 * (n / 8 / 8) + 4 * bit 5 n + 2 * bit 4 n + bit 3 n ≡ n / 8
    above e =
        rw (div-div-eq-div-mul n 8 4, div-div-eq-div-mul n 8 2, div-div-eq-div-mul n 8 1) at e

    sum :
        (m o a b c d e f : ℕ) → o ≡ 0 → 8 * o + 4 * a + 2 * b + c ≡ m → 8 * m + 4 * d + 2 * e + f ≡ n →
        32 * a + 16 * b + 8 * c + 4 * d + 2 * e + f ≡ n
    sum m o a b c d e f z p q = omega arith

high : (x : ℕ) → bit 0 (x / 8) ≡ bit 3 x
high x = omega arith

pub code_lt : (X Y : ℕ) → code_of X Y < 64
unfolding code_of
code_lt X Y =
    omega (
      arith,
      xor_lt (bit 2 Y) (bit 3 X),
      xor_lt (bit 2 X) (bit 3 Y),
      xor_lt (bit 1 Y) (bit 2 X),
      xor_lt (bit 1 X) (bit 2 Y),
    )

module _ (X Y : ℕ) where
  code_bits :
      Six (code_of X Y) (xor (bit 2 Y) (bit 3 X)) (xor (bit 2 X) (bit 3 Y)) (xor (bit 1 Y) (bit 2 X)) (xor (bit 1 X) (bit 2 Y))
      (bit 0 Y) (bit 0 X)
  unfolding code_of
  code_bits =
      six _ _ _ _ _ _ (xor_lt (bit 2 Y) (bit 3 X)) (xor_lt (bit 2 X) (bit 3 Y)) (xor_lt (bit 1 Y) (bit 2 X))
      (xor_lt (bit 1 X) (bit 2 Y)) (omega arith) (omega arith)

  high_x_lem : high_x (Y / 8) (code_of X Y) ≡ bit 2 X
  unfolding high_x
  high_x_lem = ap₂ xor code_bits.bit4 (high Y) ∙ xor_back (bit 2 X) (bit 3 Y) (omega arith)

  high_y_lem : high_y (X / 8) (code_of X Y) ≡ bit 2 Y
  unfolding high_y
  high_y_lem = ap₂ xor code_bits.bit5 (high X) ∙ xor_back (bit 2 Y) (bit 3 X) (omega arith)

  -- the code leads back to the block's column and row
  pub block_x_lem : block_x (X / 8) (Y / 8) (code_of X Y) ≡ X
  unfolding block_x
  block_x_lem =
      rw (high_x_lem, high_y_lem, code_bits.bit2, code_bits.bit0, xor_back (bit 1 X) (bit 2 Y) (omega arith)) (low X)

  pub block_y_lem : block_y (X / 8) (Y / 8) (code_of X Y) ≡ Y
  unfolding block_y
  block_y_lem =
      rw (high_x_lem, high_y_lem, code_bits.bit3, code_bits.bit1, xor_back (bit 1 Y) (bit 2 X) (omega arith)) (low Y)

module _ (column row c : ℕ) where
  columns :
      Eights (block_x column row c) column (high_x row c) (xor (bit 2 c) (high_y column c)) (bit 0 c)
  unfolding block_x high_x
  columns = eights column _ _ _ (xor_lt _ _) (xor_lt _ _) (omega arith)

  rows : Eights (block_y column row c) row (high_y column c) (xor (bit 3 c) (high_x row c)) (bit 1 c)
  unfolding block_y high_y
  rows = eights row _ _ _ (xor_lt _ _) (xor_lt _ _) (omega arith)

  -- the block that the way back finds lies in the tile
  pub block_column : block_x column row c / 8 ≡ column
  block_column = columns.quotient

  pub block_row : block_y column row c / 8 ≡ row
  block_row = rows.quotient

  high_x_back : xor (high_x row c) (bit 0 row) ≡ bit 4 c
  unfolding high_x
  high_x_back = xor_back (bit 4 c) (bit 0 row) (omega arith)

  high_y_back : xor (high_y column c) (bit 0 column) ≡ bit 5 c
  unfolding high_y
  high_y_back = xor_back (bit 5 c) (bit 0 column) (omega arith)

  -- and has the code that it was found by
  pub block_code : c < 64 → code_of (block_x column row c) (block_y column row c) ≡ c
  unfolding code_of
  block_code h =
      rw (columns.bit3, columns.bit2, columns.bit1, columns.bit0, rows.bit3, rows.bit2, rows.bit1, rows.bit0)
      (rw (high_x_back, high_y_back, xor_back (bit 3 c) (high_x row c) (omega arith), xor_back (bit 2 c) (high_y column c) (omega arith))
      (whole c h))

-- numbers of six bits, each with its bits, go through an exclusive or bit by bit
digit : (m n a b : ℕ) → a < 2 → b < 2 → bit_xor (m * 2 + a) (n * 2 + b) ≡ bit_xor m n * 2 + xor a b
digit m n a b ha hb = xor_block 1 m n a b ha hb ∙ ap (λ (k : ℕ). bit_xor m n * 2 + k) (xor_of a b ha hb)

-- a number by its bits, the highest first
abbrev six_of : ℕ → ℕ → ℕ → ℕ → ℕ → ℕ → ℕ
six_of a b c d e f = ((((a * 2 + b) * 2 + c) * 2 + d) * 2 + e) * 2 + f

digits :
    (a b c d e f a' b' c' d' e' f' : ℕ) → a < 2 → b < 2 → c < 2 → d < 2 → e < 2 → f < 2 → a' < 2 → b' < 2 → c' < 2 →
    d' < 2 → e' < 2 → f' < 2 →
    bit_xor (six_of a b c d e f) (six_of a' b' c' d' e' f') ≡
    six_of (xor a a') (xor b b') (xor c c') (xor d d') (xor e e') (xor f f')
digits a b c d e f a' b' c' d' e' f' ha hb hc hd he hf ha' hb' hc' hd' he' hf' =
    digit _ _ f f' hf hf' ∙
    ap (λ (n : ℕ). n * 2 + xor f f')
    (digit _ _ e e' he he' ∙
    ap (λ (n : ℕ). n * 2 + xor e e')
    (digit _ _ d d' hd hd' ∙
    ap (λ (n : ℕ). n * 2 + xor d d')
    (digit _ _ c c' hc hc' ∙
    ap (λ (n : ℕ). n * 2 + xor c c') (digit a a' b b' hb hb' ∙ ap (λ (n : ℕ). n * 2 + xor b b') (xor_of a a' ha ha')))))

-- two bits at once
two_bits : (n : ℕ) → n % 4 ≡ n / 2 % 2 * 2 + n % 2
two_bits n = omega arith

flipped : (a b : ℕ) → xor a b ≡ xor b a
unfolding xor
flipped a b = omega arith

left_alone : (a : ℕ) → a < 2 → xor a 0 ≡ a
unfolding xor
left_alone a h = omega arith

-- what the column and the row put in
by_column : (X : ℕ) → X / 4 % 4 * 16 + X / 2 % 4 * 4 + X % 2 ≡ six_of (bit 3 X) (bit 2 X) (bit 2 X) (bit 1 X) 0 (X % 2)
by_column X =
    sum (X / 4 % 4) (X / 2 % 4) (bit 3 X) (bit 2 X) (bit 1 X) (X % 2)
    (two_bits (X / 4) ∙ ap (λ (n : ℕ). n % 2 * 2 + X / 4 % 2) (div-div-eq-div-mul X 4 2))
    (two_bits (X / 2) ∙ ap (λ (n : ℕ). n % 2 * 2 + X / 2 % 2) (div-div-eq-div-mul X 2 2))
  where
    sum :
        (p q a b c d : ℕ) → p ≡ a * 2 + b → q ≡ b * 2 + c → p * 16 + q * 4 + d ≡ six_of a b b c 0 d
    sum p q a b c d e f = omega arith

by_row :
    (Y : ℕ) → Y / 8 % 2 * 16 + Y / 4 % 2 * 36 + Y / 2 % 2 * 8 + Y % 2 * 2 ≡ six_of (bit 2 Y) (bit 3 Y) (bit 1 Y) (bit 2 Y) (Y % 2) 0
by_row Y = sum (bit 3 Y) (bit 2 Y) (bit 1 Y) (Y % 2)
  where
    sum : (a b c d : ℕ) → a * 16 + b * 36 + c * 8 + d * 2 ≡ six_of b a c b d 0
    sum a b c d = omega arith

-- the code as the code reckons it
pub code_of_lem :
    (X Y : ℕ) → bit_xor (Y / 8 % 2 * 16 + Y / 4 % 2 * 36 + Y / 2 % 2 * 8 + Y % 2 * 2) (X / 4 % 4 * 16 + X / 2 % 4 * 4 + X % 2) ≡ code_of X Y
unfolding code_of
code_of_lem X Y =
    ap₂ bit_xor (by_row Y) (by_column X) ∙
    digits _ _ _ _ _ _ _ _ _ _ _ _ (omega arith) (omega arith) (omega arith) (omega arith) (omega arith) (omega arith)
    (omega arith) (omega arith) (omega arith) (omega arith) (omega arith) (omega arith) ∙
    join _ _ _ _ _ _ _ _ _ _ (flipped (bit 3 Y) (bit 2 X)) (flipped (bit 2 Y) (bit 1 X))
    (left_alone (Y % 2) (omega arith) ∙ sym (bit_zero Y))
    (flipped 0 (X % 2) ∙ left_alone (X % 2) (omega arith) ∙ sym (bit_zero X))
  where
    join :
        (a b b' c d d' e e' f f' : ℕ) → b ≡ b' → d ≡ d' → e ≡ e' → f ≡ f' →
        six_of a b c d e f ≡ 32 * a + 16 * b' + 8 * c + 4 * d' + 2 * e' + f'
    join a b b' c d d' e e' f f' eb ed ee ef = omega arith

module _ (column row code a b : ℕ) (ea : a ≡ xor (bit 4 code) (row % 2)) (eb : b ≡ xor (bit 5 code) (column % 2)) where
  is_high_x : a ≡ high_x row code
  unfolding high_x
  is_high_x = rw (bit_zero row) ea

  is_high_y : b ≡ high_y column code
  unfolding high_y
  is_high_y = rw (bit_zero column) eb

  pub block_x_of : (d : ℕ) → d ≡ xor (bit 2 code) b → 8 * column + 4 * a + 2 * d + code % 2 ≡ block_x column row code
  unfolding block_x
  block_x_of d ed = rw (ed, is_high_x, is_high_y, bit_zero code)

  pub block_y_of : (d : ℕ) → d ≡ xor (bit 3 code) a → 8 * row + 4 * b + 2 * d + code / 2 % 2 ≡ block_y column row code
  unfolding block_y
  block_y_of d ed = rw (ed, is_high_x, is_high_y)
