-- What the code reckons on the way from a pair to an offset and back: every sum fits 32 bits, and the result is the
-- definition's. The size is open, with p and q the width and height of its blocks. Assumes nothing.
use Rattle.std.proofs.Common.{◌≡◌, ℕ, ◌+◌, ◌-◌, ◌*◌, ◌/◌, ◌%◌, ◌^◌, ◌<◌, ◌≤◌, Bool, true, false, sym, refl, ap, ◌∙◌, subst, subst₂, mod-lt, mul_assoc, mul_comm, div-lt_iff_lt-mul, add-mul, mul-le-mul, mul-pos, div-add-mod', div-le_self, arith}
use native.Mathlib.Nat.{mod-le, div-div-eq-div-mul}
use native.Mathlib.Nat.{add-mul-div_right}
use lib.Arith.{digits_lt, digits_mod}
use lib.Bits.{bit_and, and_mask}
use Rattle.layout.specs.Sizes.{is_size, width_of, height_of}
use Rattle.laws.specs.Choice.{place_of}
use Rattle.layout.proofs.Sizes.{Tile, by_size}
use Rattle.address.specs.Asked.{BlockAsked, PairAsked, StepAsked}
use Rattle.address.specs.Offset.{
  block_width,
  block_height,
  code_of,
  inside_of,
  tiled_offset,
  linear_offset,
  linear_x,
  linear_y,
  block_x,
  block_y,
  tiled_x,
  tiled_y,
}
use Rattle.address.proofs.Blocks.{block_column, block_row}
use Rattle.address.proofs.Offsets.{blocks}

-- the parts of an offset
pub record Sums (p q s e x y : ℕ) : Type 0 where
  pub rows : y / (q * 8) * (e / (p * 8)) ≤ 2 ^ 17
  pub column : x / (p * 8) ≤ 256
  pub row_part : y % q * p ≤ 32
  pub element : y % q * p + x % p < 32
  pub bytes : (y % q * p + x % p) * s < 32

-- the parts of the way back: the tile, then the pair, with X and Y the block's column and row
pub record TileSums (p e o : ℕ) : Type 0 where
  pub columns : 0 < e / (p * 8)
  pub column : o / 2048 % (e / (p * 8)) < 2 ^ 21
  pub row : o / 2048 / (e / (p * 8)) < 2 ^ 21

pub record BackSums (p q s o X Y : ℕ) : Type 0 where
  pub x : X * p ≤ 2 ^ 27
  pub y : Y * q ≤ 2 ^ 26
  pub x_rest : o % 32 / s % p < 8
  pub y_rest : o % 32 / s / p < 32

module _ (p q s e : ℕ) (a : BlockAsked p q s e) where
  tile : Tile s p q
  tile = subst₂ (Tile s) (sym a.width) (sym a.height) (blocks s a.size)

  -- fewer than n units of 8·d in what is below n·8·d
  quotient_lt : (n d m : ℕ) → 0 < d → m < n * (d * 8) → m / (d * 8) < n
  quotient_lt n d m k h = (div-lt_iff_lt-mul {k = d * 8} (omega arith)).1 h

  pub sums : (x y : ℕ) → PairAsked s e x y → Sums p q s e x y
  sums x y b =
      record {
        rows =
            mul-le-mul {n₂ = 512} {m₂ = 256} (omega (arith, quotient_lt 512 q y a.q_least (omega arith)))
            (omega (arith, quotient_lt 257 p e (omega arith) (omega arith)));
        column = omega (arith, quotient_lt 257 p x (omega arith) (omega arith));
        row_part = mul-le-mul {n₂ = 4} {m₂ = 8} (omega (arith, mod-lt y a.q_least)) a.p_most;
        element =
            omega (arith, digits_lt {c = p} (mod-lt y a.q_least) (mod-lt x tile.p_pos), mul-le-mul a.q_most a.p_most);
        bytes = omega (arith, in_block (y % q) (x % p) (mod-lt y a.q_least) (mod-lt x tile.p_pos));
      }
    where
      in_block : (r k : ℕ) → r < q → k < p → (r * p + k) * s + 0 < 32
      in_block r k hr hk =
          subst (λ (n : ℕ). (r * p + k) * s + 0 < n) tile.block (digits_lt (digits_lt hr hk) a.s_least)

  pub offset_of_lem :
      (x y c : ℕ) → c ≡ code_of (x / p) (y / q) →
      2048 * (y / (q * 8) * (e / (p * 8)) + x / (p * 8)) + (32 * c + (y % q * p + x % p) * s) ≡ tiled_offset s e x y
  unfolding tiled_offset inside_of
  offset_of_lem x y c ec = rw (ec, tile.width, tile.height, ← a.width, ← a.height)

  module _ (o : ℕ) (ho : o < 2 ^ 32) (tiles : 0 < e / width_of s) where
    abbrev column : ℕ
    column = o / 2048 % (e / (p * 8))

    abbrev row : ℕ
    row = o / 2048 / (e / (p * 8))

    pub tile_sums : TileSums p e o
    tile_sums =
        record {
          columns = rw tile.width at tiles;
          column = omega (arith, mod-le (o / 2048) (e / (p * 8)));
          row = omega (arith, div-le_self (o / 2048) (e / (p * 8)));
        }

    module _ (X Y : ℕ) (eX : X ≡ block_x column row (o / 32 % 64)) (eY : Y ≡ block_y column row (o / 32 % 64)) where
      pub back_sums : BackSums p q s o X Y
      back_sums =
          record {
            x = mul-le-mul {n₂ = 2 ^ 24} {m₂ = 8}
                (eighth X column (ap (λ (n : ℕ). n / 8) eX ∙ block_column column row (o / 32 % 64)) tile_sums.column) a.p_most;
            y = mul-le-mul {n₂ = 2 ^ 24} {m₂ = 4} (eighth Y row (ap (λ (n : ℕ). n / 8) eY ∙ block_row column row (o / 32 % 64)) tile_sums.row) a.q_most;
            x_rest = omega (arith, mod-lt (o % 32 / s) tile.p_pos);
            y_rest = omega (arith, div-le_self (o % 32 / s) p, div-le_self (o % 32) s);
          }
        where
          eighth : (n m : ℕ) → n / 8 ≡ m → m < 2 ^ 21 → n ≤ 2 ^ 24
          eighth n m h k = omega arith

      pub x_of_lem : X * p + o % 32 / s % p ≡ tiled_x s e o
      unfolding tiled_x
      x_of_lem = rw (eX, tile.width, ← a.width)

      pub y_of : Y * q + o % 32 / s / p ≡ tiled_y s e o
      unfolding tiled_y
      y_of = rw (eY, tile.width, ← a.width, ← a.height)

p_two : (s : ℕ) → is_size s ≡ true → 2 ≤ block_width s
unfolding block_width width_of place_of
p_two = by_size (λ s. 2 ≤ block_width s) (omega arith) (omega arith) (omega arith) (omega arith) (omega arith)

-- a size's blocks, as an arm of a `match` on the size hands them over: s is the size, n the arm's number
block_asked : (s e : ℕ) → is_size s ≡ true → e ≤ 4096 → BlockAsked (block_width s) (block_height s) s e
block_asked s e z h =
    record {
      size = z;
      width = refl;
      height = refl;
      step = h;
      p_least = p_two s z;
      p_most = (blocks s z).p_most;
      q_least = (blocks s z).q_pos;
      q_most = (blocks s z).q_most;
      s_least = (blocks s z).s_pos;
      s_most = (blocks s z).s_most;
    }

-- `r` is the row step in bytes
pub pair_arm :
    {s x y n : ℕ} (r : ℕ) → s ≡ n → PairAsked s (r / s) x y →
    BlockAsked (block_width n) (block_height n) n (r / n) × PairAsked n (r / n) x y
pair_arm {s} {x} {y} {n} r k a =
    let b : PairAsked n (r / n) x y = subst (λ (m : ℕ). PairAsked m (r / m) x y) k a in
    (block_asked n (r / n) b.size b.step, b)

pub step_arm :
    {s n : ℕ} (r : ℕ) → s ≡ n → StepAsked true s (r / s) →
    BlockAsked (block_width n) (block_height n) n (r / n) × (0 < r / n / width_of n)
step_arm {s} {n} r k a =
    let b : StepAsked true n (r / n) = subst (λ (m : ℕ). StepAsked true m (r / m)) k a in
    (block_asked n (r / n) b.size b.step, b.tiles refl)

-- the parts of a linear offset, with `r` the row step in bytes
pub record LinearSums (s r x y : ℕ) : Type 0 where
  pub rows : y * r ≤ 2 ^ 28
  pub bytes : x * s ≤ 2 ^ 16
  pub offset : y * r + x * s ≡ linear_offset s (r / s) x y

pub linear_sums : {s x y : ℕ} (r : ℕ) → PairAsked s (r / s) x y → r / s * s ≡ r → LinearSums s r x y
unfolding linear_offset
linear_sums {s} {x} {y} r a whole =
    record {
      rows = mul-le-mul {n₂ = 4096} {m₂ = 2 ^ 16} (omega (arith, a.row))
          (rw whole at (mul-le-mul {n₂ = 4096} {m₂ = 16} a.step (blocks s a.size).s_most));
      bytes = mul-le-mul {n₂ = 4096} {m₂ = 16} (omega (arith, a.column, a.step)) (blocks s a.size).s_most;
      offset =
          ap (λ (n : ℕ). y * n + x * s) (sym whole) ∙ ap (λ (n : ℕ). n + x * s) (sym (mul_assoc y (r / s) s)) ∙
          sym (add-mul (y * (r / s)) x s);
    }

-- the way back in linear rows
pub row_pos : (s r : ℕ) → 0 < s → 0 < r / s → r / s * s ≡ r → 0 < r
row_pos s r pos least whole = rw whole at (mul-pos least pos)

module _ (s r o : ℕ) (pos : 0 < s) (least : 0 < r / s) (whole : r / s * s ≡ r) where
  pub linear_y_lem : o / r ≡ linear_y s (r / s) o
  unfolding linear_y
  linear_y_lem =
      sym (div-div-eq-div-mul o s (r / s) ∙ ap (λ (n : ℕ). o / n) (mul_comm s (r / s) ∙ whole))

  pub linear_x_lem : o % r / s ≡ linear_x s (r / s) o
  unfolding linear_x
  linear_x_lem = sym (ap (λ (n : ℕ). n % (r / s)) elements ∙ digits_mod (o / r) below)
    where
      below : o % r / s < r / s
      below = (div-lt_iff_lt-mul pos).1 (rw whole (mod-lt o (row_pos s r pos least whole)))

      elements : o / s ≡ o / r * (r / s) + o % r / s
      elements = ap (λ (n : ℕ). n / s) split ∙ add-mul-div_right (o % r) (o / r * (r / s)) pos ∙ omega arith
        where
          split : o ≡ o % r + o / r * (r / s) * s
          split = omega (arith, mul_assoc (o / r) (r / s) s ∙ ap (λ (n : ℕ). o / r * n) whole, div-add-mod' o r)

-- a size is a power of two, so its bits less 1 mask the place in an element
pub masked_place : (s o : ℕ) → is_size s ≡ true → bit_and o (s - 1) ≡ o % s
masked_place s o =
    by_size (λ s. bit_and o (s - 1) ≡ o % s) (and_mask o 0) (and_mask o 1) (and_mask o 2) (and_mask o 3) (and_mask o 4) s
