-- Where the elements of a block stand: the parts that are moved by blocks are the elements' bytes. Assumes nothing.
use mathlib.Core.Path.{◌≡◌, refl, sym, ap, ap₂, ◌∙◌, subst}
use mathlib.Core.Bool.{Bool, true, false}
use mathlib.Core.List.{List, [], ◌∷◌, ◌++◌}
use Prim.Native.Nat.{ℕ, zero, suc, ◌+◌, ◌-◌, ◌*◌, ◌/◌, ◌%◌, ◌<◌, ◌≤◌, ◌^◌}
use native.Mathlib.Nat.{add-mul, mul-add, mul_comm, mul_assoc}
use native.Mathlib.Omega.{arith}
use lib.ListN.{length}
use Rattle.laws.specs.Choice.{pick, place_of}
use Rattle.layout.specs.Sizes.{is_size, width_of, height_of}
use Rattle.layout.proofs.Sizes.{by_size}
use Rattle.address.specs.Offset.{block_width, block_height, code_of, inside_of, tiled_offset, offset_of}
use Rattle.rectangles.specs.Moves.{moved, turned, memory_of, room_of, row_moves, block_place, element_place}
use Rattle.rectangles.proofs.RowMoves.{row_add, row_long}
use Rattle.rectangles.proofs.Stretches.{one_stretch}

-- where the row of tiles with the row `y` begins, and in it the row's part of each block; `n` is the bytes of a block's row
abbrev pub row_start : ℕ → ℕ → ℕ → ℕ → ℕ
row_start at columns n y = at + (2048 * (y * n / 32 / 8 * columns) + y * n % 32)

abbrev Stands : ℕ → Type 0
Stands s =
    (e at X j y : ℕ) → j < block_width s →
    at + tiled_offset s e (block_width s * X + j) y ≡
    block_place (row_start at (e / width_of s) (block_width s * s) y) (y * (block_width s * s) / 32) X + j * s

stands1 : Stands 1
unfolding block_width block_height width_of height_of place_of pick tiled_offset inside_of
stands1 e at X j y h =
    (λ (i : 𝕀). at + (2048 * (rows i * (e / 64) + tiles i) + (32 * code_of (block i) (row i) + (y % 4 * 8 + inside i) * 1))) ∙
    sums (y * 8 / 32 / 8 * (e / 64)) (X / 8) (code_of X (y * 8 / 32)) (y % 4) (y * 8 % 32) line
  where
    rows : y / 32 ≡ y * 8 / 32 / 8
    rows = omega arith

    row : y / 4 ≡ y * 8 / 32
    row = omega arith

    line : y % 4 * 8 ≡ y * 8 % 32
    line = omega arith

    tiles : (8 * X + j) / 64 ≡ X / 8
    tiles = omega arith

    block : (8 * X + j) / 8 ≡ X
    block = omega arith

    inside : (8 * X + j) % 8 ≡ j
    inside = omega arith

    sums :
        (D B K R L : ℕ) → R * 8 ≡ L →
        at + (2048 * (D + B) + (32 * K + (R * 8 + j) * 1)) ≡ at + (2048 * D + L) + (2048 * B + 32 * K) + j * 1
    sums D B K R L same = omega arith

stands2 : Stands 2
unfolding block_width block_height width_of height_of place_of pick tiled_offset inside_of
stands2 e at X j y h =
    (λ (i : 𝕀). at + (2048 * (rows i * (e / 32) + tiles i) + (32 * code_of (block i) (row i) + (y % 4 * 4 + inside i) * 2))) ∙
    sums (y * 8 / 32 / 8 * (e / 32)) (X / 8) (code_of X (y * 8 / 32)) (y % 4) (y * 8 % 32) line
  where
    rows : y / 32 ≡ y * 8 / 32 / 8
    rows = omega arith

    row : y / 4 ≡ y * 8 / 32
    row = omega arith

    line : y % 4 * 8 ≡ y * 8 % 32
    line = omega arith

    tiles : (4 * X + j) / 32 ≡ X / 8
    tiles = omega arith

    block : (4 * X + j) / 4 ≡ X
    block = omega arith

    inside : (4 * X + j) % 4 ≡ j
    inside = omega arith

    sums :
        (D B K R L : ℕ) → R * 8 ≡ L →
        at + (2048 * (D + B) + (32 * K + (R * 4 + j) * 2)) ≡ at + (2048 * D + L) + (2048 * B + 32 * K) + j * 2
    sums D B K R L same = omega arith

stands4 : Stands 4
unfolding block_width block_height width_of height_of place_of pick tiled_offset inside_of
stands4 e at X j y h =
    (λ (i : 𝕀). at + (2048 * (rows i * (e / 32) + tiles i) + (32 * code_of (block i) (row i) + (y % 2 * 4 + inside i) * 4))) ∙
    sums (y * 16 / 32 / 8 * (e / 32)) (X / 8) (code_of X (y * 16 / 32)) (y % 2) (y * 16 % 32) line
  where
    rows : y / 16 ≡ y * 16 / 32 / 8
    rows = omega arith

    row : y / 2 ≡ y * 16 / 32
    row = omega arith

    line : y % 2 * 16 ≡ y * 16 % 32
    line = omega arith

    tiles : (4 * X + j) / 32 ≡ X / 8
    tiles = omega arith

    block : (4 * X + j) / 4 ≡ X
    block = omega arith

    inside : (4 * X + j) % 4 ≡ j
    inside = omega arith

    sums :
        (D B K R L : ℕ) → R * 16 ≡ L →
        at + (2048 * (D + B) + (32 * K + (R * 4 + j) * 4)) ≡ at + (2048 * D + L) + (2048 * B + 32 * K) + j * 4
    sums D B K R L same = omega arith

stands8 : Stands 8
unfolding block_width block_height width_of height_of place_of pick tiled_offset inside_of
stands8 e at X j y h =
    (λ (i : 𝕀). at + (2048 * (rows i * (e / 16) + tiles i) + (32 * code_of (block i) (row i) + (y % 2 * 2 + inside i) * 8))) ∙
    sums (y * 16 / 32 / 8 * (e / 16)) (X / 8) (code_of X (y * 16 / 32)) (y % 2) (y * 16 % 32) line
  where
    rows : y / 16 ≡ y * 16 / 32 / 8
    rows = omega arith

    row : y / 2 ≡ y * 16 / 32
    row = omega arith

    line : y % 2 * 16 ≡ y * 16 % 32
    line = omega arith

    tiles : (2 * X + j) / 16 ≡ X / 8
    tiles = omega arith

    block : (2 * X + j) / 2 ≡ X
    block = omega arith

    inside : (2 * X + j) % 2 ≡ j
    inside = omega arith

    sums :
        (D B K R L : ℕ) → R * 16 ≡ L →
        at + (2048 * (D + B) + (32 * K + (R * 2 + j) * 8)) ≡ at + (2048 * D + L) + (2048 * B + 32 * K) + j * 8
    sums D B K R L same = omega arith

stands16 : Stands 16
unfolding block_width block_height width_of height_of place_of pick tiled_offset inside_of
stands16 e at X j y h =
    (λ (i : 𝕀). at + (2048 * (rows i * (e / 16) + tiles i) + (32 * code_of (block i) (row i) + (y % 1 * 2 + inside i) * 16))) ∙
    sums (y * 32 / 32 / 8 * (e / 16)) (X / 8) (code_of X (y * 32 / 32)) (y % 1) (y * 32 % 32) line
  where
    rows : y / 8 ≡ y * 32 / 32 / 8
    rows = omega arith

    row : y / 1 ≡ y * 32 / 32
    row = omega arith

    line : y % 1 * 32 ≡ y * 32 % 32
    line = omega arith

    tiles : (2 * X + j) / 16 ≡ X / 8
    tiles = omega arith

    block : (2 * X + j) / 2 ≡ X
    block = omega arith

    inside : (2 * X + j) % 2 ≡ j
    inside = omega arith

    sums :
        (D B K R L : ℕ) → R * 32 ≡ L →
        at + (2048 * (D + B) + (32 * K + (R * 2 + j) * 16)) ≡ at + (2048 * D + L) + (2048 * B + 32 * K) + j * 16
    sums D B K R L same = omega arith

stands : (s : ℕ) → is_size s ≡ true → Stands s
stands = by_size Stands stands1 stands2 stands4 stands8 stands16

module _ (out : Bool) (s e at y : ℕ) (size : is_size s ≡ true) (source m : List ℕ) where
  abbrev p : ℕ
  p = block_width s

  abbrev n : ℕ
  n = block_width s * s

  abbrev BP : ℕ → ℕ
  BP = block_place (row_start at (e / width_of s) (block_width s * s) y) (y * (block_width s * s) / 32)

  abbrev P : ℕ → ℕ
  P = element_place true s e at y

  pub element_in : (X j : ℕ) → j < p → P (p * X + j) ≡ BP X + j * s
  unfolding offset_of pick
  element_in X j h = stands s size e at X j y h

  begins : (X : ℕ) → 0 < p → P (p * X) ≡ BP X
  begins X some =
      ap P {x = p * X} {y = p * X + 0} (omega arith) ∙ element_in X 0 some ∙ omega arith

  follows : (X : ℕ) → (j : ℕ) → j < p → P (p * X + j) ≡ P (p * X) + j * s
  follows X j h = element_in X j h ∙ ap (λ (q : ℕ). q + j * s) (sym (begins X (omega (arith, h))))

  pub blocks_elements :
      (X line b : ℕ) → 0 < p → ((k : ℕ) → k < b → BP (X + k) + n ≤ memory_of out (length source) (length m)) →
      line + b * n ≤ room_of out (length source) (length m) →
      moved (row_moves out BP n X line b) source m ≡ moved (row_moves out P s (p * X) line (p * b)) source m
  blocks_elements X line zero some fits room =
      ap (λ (q : ℕ). moved (row_moves out P s (p * X) line q) source m) {x = 0} {y = p * 0} (omega arith)
  blocks_elements X line (suc b) some fits room =
      ap (λ (q : ℕ). moved (row_moves out BP n X line q) source m) {x = suc b} {y = b + 1} (omega arith) ∙
      row_add out BP n source X line b 1 (X + b) (line + b * n) m refl refl ∙
      ap₂ (λ (a c : ℕ). moved (turned out a c n ∷ []) source before) {x = BP (X + b + 0)} {y = P (p * (X + b))} {u = line + b * n + 0 * n} {v = line + b * n}
      (ap BP {x = X + b + 0} {y = X + b} (omega arith) ∙ sym (begins (X + b) some)) (omega arith) ∙
      sym
      (one_stretch out P s (p * (X + b)) (line + b * n) source before p (follows (X + b))
      (subst (λ (q : ℕ). P (p * (X + b)) + n ≤ memory_of out (length source) q) (sym long)
      (subst (λ (q : ℕ). q + n ≤ memory_of out (length source) (length m)) (sym (begins (X + b) some)) (fits b (omega arith))))
      (subst (λ (q : ℕ). line + b * n + n ≤ room_of out (length source) q) (sym long) (omega (arith, room, all)))) ∙
      ap (λ (l : List ℕ). moved (row_moves out P s (p * (X + b)) (line + b * n) p) source l)
      (blocks_elements X line b some (λ k h. fits k (omega (arith, h))) (omega (arith, room, all))) ∙
      sym
      (row_add out P s source (p * X) line (p * b) p (p * (X + b)) (line + b * n) m (mul-add p X b)
      (ap (λ (q : ℕ). line + q) lines)) ∙
      ap (λ (q : ℕ). moved (row_moves out P s (p * X) line q) source m) whole
    where
      before : List ℕ
      before = moved (row_moves out BP n X line b) source m

      all : suc b * n ≡ b * n + n
      all = ap (λ (q : ℕ). q * n) {x = suc b} {y = b + 1} (omega arith) ∙ add-mul b 1 n ∙ omega arith

      long : length before ≡ length m
      long = row_long out BP n X line source m b (λ k h. fits k (omega (arith, h))) (omega (arith, room, all))

      lines : b * n ≡ p * b * s
      lines = sym (mul_assoc b p s) ∙ ap (λ (q : ℕ). q * s) (mul_comm b p)

      whole : p * b + p ≡ p * suc b
      whole = sym (ap (λ (q : ℕ). p * q) {x = suc b} {y = b + 1} (omega arith) ∙ mul-add p b 1 ∙ omega arith)
