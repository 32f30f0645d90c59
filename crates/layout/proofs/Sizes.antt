-- What the five sizes share, proved once: a fact of each size goes by `by_size`, and what every tile has is the record
-- `Tile`. Assumes nothing.
use mathlib.Core.Path.{◌≡◌, refl, sym, ◌∙◌, subst}
use mathlib.Core.Bool.{Bool, true, false}
use Prim.Native.Nat.{ℕ, zero, suc, ◌+◌, ◌*◌, ◌/◌, ◌^◌, ◌<◌, ◌≤◌}
use native.Mathlib.Omega.{arith}
use lib.Dec.{eqb}
use lib.ListN.{get_or}
use borrow.Author.Tests.{ltb-true, eqb-true, ne_eqb}
use Rattle.laws.specs.Below.{every}
use Rattle.laws.specs.Bits.{bit}
use Rattle.laws.specs.Choice.{◌and◌, pick, place_of}
use Rattle.laws.proofs.Below.{every_at}
use Rattle.laws.proofs.Choice.{place_found, pick_yes, pick_no, Tested, tested, holds, fails}
use Rattle.layout.specs.Sizes.{sizes, is_size, width_of, height_of}

-- what holds of each of the five sizes holds of every size
pub by_size {ℓ} : (P : ℕ → Type ℓ) → P 1 → P 2 → P 4 → P 8 → P 16 → (s : ℕ) → is_size s ≡ true → P s
unfolding is_size
by_size P p1 p2 p4 p8 p16 s e = go (place_of s sizes) (ltb-true _ _ e) (place_found s sizes (ltb-true _ _ e))
  where
    go : (k : ℕ) → k < 5 → get_or sizes k 0 ≡ s → P s
    go zero h q = subst P q p1
    go (suc zero) h q = subst P q p2
    go (suc (suc zero)) h q = subst P q p4
    go (suc (suc (suc zero))) h q = subst P q p8
    go (suc (suc (suc (suc zero)))) h q = subst P q p16
    go (suc (suc (suc (suc (suc k))))) h q = absurd (no_more k h)
      where
        no_more : (k : ℕ) → suc (suc (suc (suc (suc k)))) < 5 → ⊥
        no_more k h = omega arith

-- what is none of the five has no line in the table
pub no_size :
    (s : ℕ) → (s ≡ 1 → ⊥) → (s ≡ 2 → ⊥) → (s ≡ 4 → ⊥) → (s ≡ 8 → ⊥) → (s ≡ 16 → ⊥) → place_of s sizes ≡ 5
unfolding place_of
no_size s n1 n2 n4 n8 n16 = simp (ne_eqb s 1 n1, ne_eqb s 2 n2, ne_eqb s 4 n4, ne_eqb s 8 n8, ne_eqb s 16 n16)

-- A tile is 8 by 8 blocks of 32 bytes; a block is p elements wide and q high.
pub record Tile (s p q : ℕ) : Type 0 where
  pub width : width_of s ≡ p * 8
  pub height : height_of s ≡ q * 8
  pub block : q * p * s ≡ 32
  pub p_pos : 0 < p
  pub q_pos : 0 < q
  pub s_pos : 0 < s
  pub p_most : p ≤ 8
  pub q_most : q ≤ 4
  pub s_most : s ≤ 16

pub tile : (s : ℕ) → is_size s ≡ true → Tile s (width_of s / 8) (height_of s / 8)
unfolding width_of height_of place_of
tile =
    by_size (λ s. Tile s (width_of s / 8) (height_of s / 8)) (omega arith) (omega arith) (omega arith) (omega arith) (omega arith)

-- a size that is none of the other four is 16
pub sixteen : (s : ℕ) → is_size s ≡ true → (s ≡ 1 → ⊥) → (s ≡ 2 → ⊥) → (s ≡ 4 → ⊥) → (s ≡ 8 → ⊥) → s ≡ 16
sixteen =
    by_size (λ s. (s ≡ 1 → ⊥) → (s ≡ 2 → ⊥) → (s ≡ 4 → ⊥) → (s ≡ 8 → ⊥) → s ≡ 16)
    (λ n1 n2 n4 n8. absurd (n1 refl))
    (λ n1 n2 n4 n8. absurd (n2 refl))
    (λ n1 n2 n4 n8. absurd (n4 refl))
    (λ n1 n2 n4 n8. absurd (n8 refl))
    (λ n1 n2 n4 n8. refl)

-- the sizes as the bits of one number
abbrev size_bits : ℕ
size_bits = 2 ^ 1 + 2 ^ 2 + 2 ^ 4 + 2 ^ 8 + 2 ^ 16

bit_right : ℕ → Bool
bit_right s = pick (is_size s) (eqb (bit s size_bits) 1) (eqb (bit s size_bits) 0)

bits_right : (s : ℕ) → s < 17 → bit_right s ≡ true
unfolding bit_right is_size place_of every pick ◌and◌
bits_right = every_at 17 bit_right refl

pub size_bit : (s : ℕ) → s ≤ 16 → eqb (bit s size_bits) 1 ≡ is_size s
unfolding bit_right
size_bit s h = go (tested (is_size s)) (bits_right s (omega arith))
  where
    go : Tested (is_size s) → bit_right s ≡ true → eqb (bit s size_bits) 1 ≡ is_size s
    go (holds z) e = sym (pick_yes _ _ z) ∙ e ∙ sym z
    go (fails z) e =
        let none : bit s size_bits ≡ 0 = eqb-true (bit s size_bits) 0 (sym (pick_no _ _ z) ∙ e) in
        ne_eqb (bit s size_bits) 1 (λ one. zero_one (sym none ∙ one)) ∙ sym z
      where
        zero_one : ◌≡◌ {A = ℕ} 0 1 → ⊥
        zero_one q = omega arith

pub past_sizes : (s : ℕ) → 16 < s → false ≡ is_size s
past_sizes s h = go (tested (is_size s))
  where
    go : Tested (is_size s) → false ≡ is_size s
    go (holds z) =
        absurd
        (omega (arith, by_size (λ s. s ≤ 16) (omega arith) (omega arith) (omega arith) (omega arith) (omega arith) s z))
    go (fails z) = sym z
