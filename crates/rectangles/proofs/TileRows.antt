-- A tile's row of blocks: where its eight parts stand, and tiles one after the other. Assumes nothing.
use mathlib.Core.Path.{◌≡◌, refl, sym, ap, ap₂, ◌∙◌, subst}
use mathlib.Core.Bool.{Bool}
use mathlib.Core.List.{List, [], ◌∷◌, ◌++◌}
use Prim.Native.Nat.{ℕ, zero, suc, ◌+◌, ◌-◌, ◌*◌, ◌/◌, ◌%◌, ◌<◌, ◌≤◌, ◌^◌}
use native.Mathlib.Nat.{add-mul}
use native.Mathlib.Omega.{arith}
use lib.ListN.{length}
use Rattle.laws.specs.Bits.{bit, xor}
use Rattle.laws.proofs.Bits.{bit_zero}
use Rattle.address.specs.Offset.{code_of}
use Rattle.rectangles.specs.Moves.{Move, moved, turned, memory_of, room_of, eight_of, EightAsked, along, row_move, row_moves, block_place, TilesAsked}
use Rattle.rectangles.proofs.Moves.{moved_both}

record Bits (t a b c X : ℕ) : Type 0 where
  quotient : X / 8 ≡ t
  bit3 : bit 3 X ≡ t % 2
  bit2 : bit 2 X ≡ a
  bit1 : bit 1 X ≡ b
  bit0 : bit 0 X ≡ c

bits : (t a b c : ℕ) → a < 2 → b < 2 → c < 2 → Bits t a b c (8 * t + (4 * a + 2 * b + c))
bits t a b c ha hb hc = omega arith

-- a code's place by the bits, all of them variables
parity : (y t : ℕ) → (y + t % 2) % 2 ≡ (y + t) % 2
parity y t = omega arith

regrouped :
    (start t p y0 A B C c : ℕ) →
    start + (2048 * t + 32 * (32 * p + 16 * A + 8 * B + 4 * C + 2 * y0 + c)) ≡
    start + (2048 * t + (p * 1024 + y0 * 64)) + (512 * A + 256 * B + 128 * C + 32 * c)
regrouped start t p y0 A B C c = omega arith

-- what the bits of the row come to, by the pair
first_pair : (y1 y2 y3 c : ℕ) → y1 < 2 → y2 < 2 → y3 < 2 →
    512 * ((0 + y3) % 2) + 256 * ((y1 + 0) % 2) + 128 * ((0 + y2) % 2) + 32 * c ≡ y3 * 512 + y1 * 256 + y2 * 128 + 32 * c
first_pair y1 y2 y3 c h1 h2 h3 = omega arith

second_pair : (y1 y2 y3 c : ℕ) → y1 < 2 → y2 < 2 → y3 < 2 →
    512 * ((0 + y3) % 2) + 256 * ((y1 + 0) % 2) + 128 * ((1 + y2) % 2) + 32 * c ≡ y3 * 512 + y1 * 256 + (128 - y2 * 128) + 32 * c
second_pair y1 y2 y3 c h1 h2 h3 = omega arith

flip_left : (y : ℕ) → y < 2 → (1 + y) % 2 ≡ 1 - y
flip_left y h = omega arith

flip_right : (y : ℕ) → y < 2 → (y + 1) % 2 ≡ 1 - y
flip_right y h = omega arith

third_pair : (y1 y2 y3 c : ℕ) → y1 < 2 → y2 < 2 → y3 < 2 →
    512 * ((1 + y3) % 2) + 256 * ((y1 + 1) % 2) + 128 * ((0 + y2) % 2) + 32 * c ≡ 768 - (y3 * 512 + y1 * 256) + y2 * 128 + 32 * c
third_pair y1 y2 y3 c h1 h2 h3 = omega (arith, flip_left y3 h3, flip_right y1 h1)

fourth_pair : (y1 y2 y3 c : ℕ) → y1 < 2 → y2 < 2 → y3 < 2 →
    512 * ((1 + y3) % 2) + 256 * ((y1 + 1) % 2) + 128 * ((1 + y2) % 2) + 32 * c ≡ 768 - (y3 * 512 + y1 * 256) + (128 - y2 * 128) + 32 * c
fourth_pair y1 y2 y3 c h1 h2 h3 = omega (arith, flip_left y3 h3, flip_right y1 h1, flip_left y2 h2)

bit_most : (n : ℕ) → n % 2 < 2
bit_most n = omega arith

-- the place of a block of a tile, by what the code of tile_row reckons
module _ (start row t : ℕ) where
  abbrev y0 : ℕ
  y0 = row % 2

  abbrev y1 : ℕ
  y1 = row / 2 % 2

  abbrev y2 : ℕ
  y2 = row / 4 % 2

  abbrev y3 : ℕ
  y3 = row / 8 % 2

  abbrev at : ℕ
  at = start + (2048 * t + ((y2 + t) % 2 * 1024 + y0 * 64))

  abbrev swapped : ℕ
  swapped = y3 * 512 + y1 * 256

  abbrev turned' : ℕ
  turned' = y2 * 128

  abbrev values : ℕ → ℕ → ℕ → ℕ
  values a b c = 512 * ((a + y3) % 2) + 256 * ((y1 + a) % 2) + 128 * ((b + y2) % 2) + 32 * c

  placed : (a b c : ℕ) → a < 2 → b < 2 → c < 2 → block_place start row (8 * t + (4 * a + 2 * b + c)) ≡ at + values a b c
  unfolding code_of xor
  placed a b c ha hb hc =
      by_bits (8 * t + (4 * a + 2 * b + c)) (bits t a b c ha hb hc) ∙
      ap (λ (p : ℕ). start + (2048 * t + 32 * (32 * p + 16 * ((a + y3) % 2) + 8 * ((y1 + a) % 2) + 4 * ((b + y2) % 2) + 2 * y0 + c))) (parity y2 t) ∙
      regrouped start t ((y2 + t) % 2) y0 ((a + y3) % 2) ((y1 + a) % 2) ((b + y2) % 2) c
    where
      by_bits :
          (X : ℕ) → Bits t a b c X →
          start +
          (2048 * (X / 8) + 32 * (32 * ((bit 2 row + bit 3 X) % 2) + 16 * ((bit 2 X + bit 3 row) % 2) + 8 * ((bit 1 row + bit 2 X) % 2) + 4 * ((bit 1 X + bit 2 row) % 2) + 2 * bit 0 row + bit 0 X))
          ≡
          start + (2048 * t + 32 * (32 * ((y2 + t % 2) % 2) + 16 * ((a + y3) % 2) + 8 * ((y1 + a) % 2) + 4 * ((b + y2) % 2) + 2 * y0 + c))
      by_bits X v =
          λ (i : 𝕀).
          start + (2048 * v.quotient i + 32 * (32 * ((y2 + v.bit3 i) % 2) + 16 * ((v.bit2 i + y3) % 2) + 8 * ((y1 + v.bit2 i) % 2) + 4 * ((v.bit1 i + y2) % 2) + 2 * bit_zero row i + v.bit0 i))

  abbrev pub place_a : ℕ
  place_a = at + (swapped + turned')

  abbrev pub place_b : ℕ
  place_b = at + (swapped + (128 - turned'))

  abbrev pub place_c : ℕ
  place_c = at + (768 - swapped + turned')

  abbrev pub place_d : ℕ
  place_d = at + (768 - swapped + (128 - turned'))

  regroup : (m n c : ℕ) → at + (m + n + c) ≡ at + (m + n) + c
  regroup m n c = omega arith

  block :
      (k a b c : ℕ) → k ≡ 4 * a + 2 * b + c → a < 2 → b < 2 → c < 2 → block_place start row (8 * t + k) ≡ at + values a b c
  block k a b c e ha hb hc = ap (λ (q : ℕ). block_place start row (8 * t + q)) e ∙ placed a b c ha hb hc

  low : y1 < 2
  low = bit_most (row / 2)

  middle : y2 < 2
  middle = bit_most (row / 4)

  high : y3 < 2
  high = bit_most (row / 8)

  pub at0 : block_place start row (8 * t + 0) ≡ place_a
  at0 =
      block 0 0 0 0 refl (omega arith) (omega arith) (omega arith) ∙ ap (λ (q : ℕ). at + q) (first_pair y1 y2 y3 0 low middle high) ∙
      regroup swapped turned' 0 ∙ omega arith

  pub at1 : block_place start row (8 * t + 1) ≡ place_a + 32
  at1 =
      block 1 0 0 1 refl (omega arith) (omega arith) (omega arith) ∙ ap (λ (q : ℕ). at + q) (first_pair y1 y2 y3 1 low middle high) ∙
      regroup swapped turned' 32

  pub at2 : block_place start row (8 * t + 2) ≡ place_b
  at2 =
      block 2 0 1 0 refl (omega arith) (omega arith) (omega arith) ∙ ap (λ (q : ℕ). at + q) (second_pair y1 y2 y3 0 low middle high) ∙
      regroup swapped (128 - turned') 0 ∙ omega arith

  pub at3 : block_place start row (8 * t + 3) ≡ place_b + 32
  at3 =
      block 3 0 1 1 refl (omega arith) (omega arith) (omega arith) ∙ ap (λ (q : ℕ). at + q) (second_pair y1 y2 y3 1 low middle high) ∙
      regroup swapped (128 - turned') 32

  pub at4 : block_place start row (8 * t + 4) ≡ place_c
  at4 =
      block 4 1 0 0 refl (omega arith) (omega arith) (omega arith) ∙ ap (λ (q : ℕ). at + q) (third_pair y1 y2 y3 0 low middle high) ∙
      regroup (768 - swapped) turned' 0 ∙ omega arith

  pub at5 : block_place start row (8 * t + 5) ≡ place_c + 32
  at5 =
      block 5 1 0 1 refl (omega arith) (omega arith) (omega arith) ∙ ap (λ (q : ℕ). at + q) (third_pair y1 y2 y3 1 low middle high) ∙
      regroup (768 - swapped) turned' 32

  pub at6 : block_place start row (8 * t + 6) ≡ place_d
  at6 =
      block 6 1 1 0 refl (omega arith) (omega arith) (omega arith) ∙ ap (λ (q : ℕ). at + q) (fourth_pair y1 y2 y3 0 low middle high) ∙
      regroup (768 - swapped) (128 - turned') 0 ∙ omega arith

  pub at7 : block_place start row (8 * t + 7) ≡ place_d + 32
  at7 =
      block 7 1 1 1 refl (omega arith) (omega arith) (omega arith) ∙ ap (λ (q : ℕ). at + q) (fourth_pair y1 y2 y3 1 low middle high) ∙
      regroup (768 - swapped) (128 - turned') 32

  -- the eight parts of a tile's row are those of its blocks, in their order
  pub eight_blocks :
      (out : Bool) (n line : ℕ) (source m : List ℕ) →
      moved (eight_of out n place_a place_b place_c place_d line) source m ≡ moved (row_moves out (block_place start row) n (8 * t) line 8) source m
  eight_blocks out n line source m =
      λ (i : 𝕀).
      moved
      (turned out (sym at0 i) (l0 i) n ∷ turned out (sym at1 i) (l1 i) n ∷ turned out (sym at2 i) (line + 2 * n) n ∷
      turned out (sym at3 i) (line + 3 * n) n ∷ turned out (sym at4 i) (l4 i) n ∷ turned out (sym at5 i) (l5 i) n ∷
      turned out (sym at6 i) (l6 i) n ∷ turned out (sym at7 i) (l7 i) n ∷ [])
      source m
    where
      l0 : line ≡ line + 0 * n
      l0 = omega arith

      l1 : line + n ≡ line + 1 * n
      l1 = omega arith

      l4 : line + 4 * n ≡ line + 4 * n
      l4 = refl

      l5 : line + 4 * n + n ≡ line + 5 * n
      l5 = omega arith

      l6 : line + 4 * n + 2 * n ≡ line + 6 * n
      l6 = omega arith

      l7 : line + 4 * n + 3 * n ≡ line + 7 * n
      l7 = omega arith

  -- what the call of the eight parts asks for
  module _ (out : Bool) (n line source target : ℕ) (asked : TilesAsked out n start row t 1 line source target) where
    fits : (k p : ℕ) → k < 8 → block_place start row (8 * t + k) ≡ p → p + n ≤ memory_of out source target
    fits k p h e = subst (λ (q : ℕ). q + n ≤ memory_of out source target) e (asked.places k (omega (arith, h)))

    pub eight_asked : EightAsked out n place_a place_b place_c place_d line source target
    eight_asked =
        record {
          few = asked.few;
          memory_most = asked.memory_most;
          room_most = asked.room_most;
          a_fits = fits 1 (place_a + 32) (omega arith) at1;
          b_fits = fits 3 (place_b + 32) (omega arith) at3;
          c_fits = fits 5 (place_c + 32) (omega arith) at5;
          d_fits = fits 7 (place_d + 32) (omega arith) at7;
          line_fits = asked.line_fits;
        }

    pub at_most : (start ≤ 2 ^ 32) × (t ≤ 4096)
    at_most = (omega (arith, asked.places 0 (omega arith), asked.memory_most), omega (arith, asked.tiles_most))
