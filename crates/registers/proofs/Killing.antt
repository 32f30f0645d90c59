-- The kill test of one register, and of a list of them: the mask that the loop makes from the last processor down. Assumes nothing.
use mathlib.Core.Path.{◌≡◌, refl, sym, ap, ap₂, ◌∙◌}
use mathlib.Core.Bool.{Bool, true, false, ◌&&◌, ◌||◌}
use mathlib.Core.List.{List}
use Prim.Native.Nat.{ℕ, suc, ◌+◌, ◌-◌, ◌*◌, ◌/◌, ◌%◌, ◌<◌, ◌≤◌}
use native.Mathlib.Nat.{lt_of_lt_of_le}
use native.Mathlib.Omega.{arith}
use lib.Dec.{eqb}
use lib.Ieee.{Float}
use lib.Pow.{pow_mono}
use Rattle.std.specs.Int.{from_bool}
use Rattle.laws.specs.Choice.{◌and◌}
use Rattle.laws.specs.Below.{some}
use Rattle.laws.specs.Masks.{◌or◌, digit, on, pack}
use Rattle.laws.proofs.Masks.{on_zero, pack_same, pack_lt}
use Rattle.registers.specs.declared.Masked.{Masked}
use Rattle.registers.specs.Registers.{less_than_zero, killed_by, masked_at, kill_mask}

-- the code's `&` and `|` on tests
pub both_tests : (a b : Bool) → (a && b) ≡ (a and b)
unfolding ◌and◌
both_tests true b = refl
both_tests false b = refl

either_test : (a b : Bool) → (a || b) ≡ (a or b)
unfolding ◌or◌
either_test true b = refl
either_test false b = refl

or_none : (a : Bool) → a ≡ (a or false)
unfolding ◌or◌
or_none true = refl
or_none false = refl

-- a register kills where one of its four channels does, each under its bit
pub four_channels :
    (r : Masked) {h0 h1 h2 h3 : Bool} →
    h0 ≡ (eqb (r.mask % 2) 1 and less_than_zero r.c0) → h1 ≡ (eqb (r.mask / 2 % 2) 1 and less_than_zero r.c1) →
    h2 ≡ (eqb (r.mask / 4 % 2) 1 and less_than_zero r.c2) → h3 ≡ (eqb (r.mask / 8 % 2) 1 and less_than_zero r.c3) →
    (h0 || (h1 || (h2 || h3))) ≡ killed_by r
unfolding killed_by some on
four_channels r {h0} {h1} {h2} {h3} e0 e1 e2 e3 =
    either_test h0 (h1 || (h2 || h3)) ∙
    ap₂ ◌or◌ (e0 ∙ ap (λ (t : Bool). t and less_than_zero r.c0) (sym (on_zero r.mask)))
    (either_test h1 (h2 || h3) ∙ ap₂ ◌or◌ e1 (either_test h2 h3 ∙ ap₂ ◌or◌ e2 (e3 ∙ or_none _)))

-- a test as a bit
pub bit_digit : {bit : ℕ} (hit : Bool) → bit ≡ from_bool hit → bit ≡ digit hit
unfolding digit
bit_digit true e = e
bit_digit false e = e

-- the mask of processors i to n - 1, moved down by i
unfoldable pub killed_from : ℕ → ℕ → List Float → ℕ → ℕ
killed_from i n l mask = pack (n - i) (λ j. killed_by (masked_at l (i + j) mask))

module _ (l : List Float) (mask n : ℕ) where
  -- beyond the last processor there is none
  pub from_none : 0 ≡ killed_from n n l mask
  unfolding killed_from pack
  from_none = ap (λ (k : ℕ). pack k (λ j. killed_by (masked_at l (n + j) mask))) (none n)
    where
      none : (n : ℕ) → 0 ≡ n - n
      none n = omega arith

  -- the mask has room for a bit more
  pub from_room : (i : ℕ) → 0 < i → n ≤ 32 → killed_from i n l mask < 0x80000000
  unfolding killed_from
  from_room i h k =
      lt_of_lt_of_le (pack_lt (n - i) (λ j. killed_by (masked_at l (i + j) mask))) (pow_mono (few h k))
    where
      few : 0 < i → n ≤ 32 → n - i ≤ 31
      few h k = omega arith

  -- one processor more, below
  pub from_more :
      {i found bit : ℕ} {hit : Bool} → 0 < i → i ≤ n → found ≡ killed_from i n l mask → bit ≡ digit hit →
      hit ≡ killed_by (masked_at l (i - 1) mask) → found * 2 + bit ≡ killed_from (i - 1) n l mask
  unfolding killed_from pack
  from_more {i} {found} {bit} {hit} h k e b t =
      ap₂ (λ (x y : ℕ). x * 2 + y) e (b ∙ ap digit t) ∙ turn (killed_from i n l mask) (digit (killed_by (masked_at l (i - 1) mask))) ∙
      sym
      (ap (λ (m : ℕ). pack m (λ j. killed_by (masked_at l (i - 1 + j) mask))) (more h k) ∙
      ap₂ (λ (b : Bool) (m : ℕ). digit b + m * 2) (ap (λ (m : ℕ). killed_by (masked_at l m mask)) (here h))
      (pack_same (n - i) _ _ (λ j q. ap (λ (m : ℕ). killed_by (masked_at l m mask)) (next h j))))
    where
      turn : (a b : ℕ) → a * 2 + b ≡ b + a * 2
      turn a b = omega arith

      more : 0 < i → i ≤ n → n - (i - 1) ≡ suc (n - i)
      more h k = omega arith

      here : 0 < i → i - 1 + 0 ≡ i - 1
      here h = omega arith

      next : 0 < i → (j : ℕ) → i - 1 + suc j ≡ i + j
      next h j = omega arith

  -- from the first processor on, it is the whole mask
  pub from_all : {i : ℕ} → i ≡ 0 → killed_from i n l mask ≡ kill_mask n l mask
  unfolding killed_from
  from_all {i} e =
      ap (λ (m : ℕ). killed_from m n l mask) e ∙ ap (λ (m : ℕ). pack m (λ j. killed_by (masked_at l (0 + j) mask))) (whole n) ∙
      pack_same n _ _ (λ j q. ap (λ (m : ℕ). killed_by (masked_at l m mask)) (zero_on j))
    where
      whole : (n : ℕ) → n - 0 ≡ n
      whole n = omega arith

      zero_on : (j : ℕ) → 0 + j ≡ j
      zero_on j = omega arith
