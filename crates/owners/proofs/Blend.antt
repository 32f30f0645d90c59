-- Laws of a blend of two masks. Assumes nothing.
use mathlib.Core.Path.{◌≡◌, refl, ap, ap₂, ◌∙◌}
use mathlib.Core.Bool.{Bool, true, false}
use Prim.Native.Nat.{ℕ, zero, suc, ◌+◌, ◌*◌, ◌/◌, ◌%◌, ◌^◌, ◌<◌}
use native.Mathlib.Nat.{pow-suc}
use native.Mathlib.Omega.{arith}
use Rattle.laws.specs.Choice.{pick}
use Rattle.laws.proofs.Choice.{pick_yes, by_pick}
use Rattle.owners.specs.Owners.{blend, mask_by, owns_output}

nibble_lt : (t : Bool) (a b : ℕ) → pick t (a % 16) (b % 16) < 16
nibble_lt t a b = by_pick (λ (n : ℕ). n < 16) t (a % 16) (b % 16) (λ e. omega arith) (λ e. omega arith)

-- the lowest four bits of a blend, and the rest
module _ (n : ℕ) (f : ℕ → Bool) (a b : ℕ) where
  pub blend_low : blend (suc n) f a b % 16 ≡ pick (f zero) (a % 16) (b % 16)
  unfolding blend
  blend_low = omega (arith, nibble_lt (f zero) a b)

  pub blend_high : blend (suc n) f a b / 16 ≡ blend n (λ k. f (suc k)) (a / 16) (b / 16)
  unfolding blend
  blend_high = omega (arith, nibble_lt (f zero) a b)

-- of a blend, the bits of one's own are those of the first mask
pub blend_own : (n : ℕ) (f : ℕ → Bool) (a b c : ℕ) → blend n f (blend n f a b) c ≡ blend n f a c
unfolding blend pick
blend_own zero f a b c = refl
blend_own (suc n) f a b c =
    ap₂ (λ (x y : ℕ). x + 16 * y) (ap (λ (x : ℕ). pick (f zero) x (c % 16)) (blend_low n f a b) ∙ low (f zero))
    (ap (λ (x : ℕ). blend n (λ k. f (suc k)) x (c / 16)) (blend_high n f a b) ∙ blend_own n (λ k. f (suc k)) (a / 16) (b / 16) (c / 16))
  where
    low : (t : Bool) → pick t (pick t (a % 16) (b % 16)) (c % 16) ≡ pick t (a % 16) (c % 16)
    low true = refl
    low false = refl

-- and those of others the second's
pub blend_rest : (n : ℕ) (f : ℕ → Bool) (a b c : ℕ) → blend n f c (blend n f a b) ≡ blend n f c b
unfolding blend pick
blend_rest zero f a b c = refl
blend_rest (suc n) f a b c =
    ap₂ (λ (x y : ℕ). x + 16 * y) (ap (pick (f zero) (c % 16)) (blend_low n f a b) ∙ low (f zero))
    (ap (blend n (λ k. f (suc k)) (c / 16)) (blend_high n f a b) ∙ blend_rest n (λ k. f (suc k)) (a / 16) (b / 16) (c / 16))
  where
    low : (t : Bool) → pick t (c % 16) (pick t (a % 16) (b % 16)) ≡ pick t (c % 16) (b % 16)
    low true = refl
    low false = refl

-- who owns none of them sees nothing of what was blended in
pub blend_other :
    (n : ℕ) (f g : ℕ → Bool) (a b c : ℕ) → ((k : ℕ) → f k ≡ true → g k ≡ false) →
    blend n g (blend n f a b) c ≡ blend n g b c
unfolding blend pick
blend_other zero f g a b c h = refl
blend_other (suc n) f g a b c h =
    ap₂ (λ (x y : ℕ). x + 16 * y) (ap (λ (x : ℕ). pick (g zero) x (c % 16)) (blend_low n f a b) ∙ low (f zero) (g zero) (h zero))
    (ap (λ (x : ℕ). blend n (λ k. g (suc k)) x (c / 16)) (blend_high n f a b) ∙
    blend_other n (λ k. f (suc k)) (λ k. g (suc k)) (a / 16) (b / 16) (c / 16) (λ k. h (suc k)))
  where
    low : (t u : Bool) → (t ≡ true → u ≡ false) → pick u (pick t (a % 16) (b % 16)) (c % 16) ≡ pick u (b % 16) (c % 16)
    low false u k = refl
    low true false k = refl
    low true true k = cc (k refl)

pub blend_lt : (n : ℕ) (f : ℕ → Bool) (a b : ℕ) → blend n f a b < 16 ^ n
unfolding blend
blend_lt zero f a b = omega arith
blend_lt (suc n) f a b = omega (arith, nibble_lt (f zero) a b, blend_lt n (λ k. f (suc k)) (a / 16) (b / 16), pow-suc 16 n)

-- so a mask of which a party sets its own outputs' bits has 16
pub mask_lt : (mine new old : ℕ) → mask_by mine new old < 2 ^ 16
mask_lt mine new old = omega (arith, blend_lt 4 (owns_output mine) new old)

-- who owns all sees all
pub blend_all : (n : ℕ) (f : ℕ → Bool) (a b : ℕ) → ((k : ℕ) → k < n → f k ≡ true) → a < 16 ^ n → blend n f a b ≡ a
unfolding blend
blend_all zero f a b h k = omega arith
blend_all (suc n) f a b h k =
    let x : pick (f zero) (a % 16) (b % 16) ≡ a % 16 = pick_yes (a % 16) (b % 16) (h zero (omega arith)) in
    let y : blend n (λ k. f (suc k)) (a / 16) (b / 16) ≡ a / 16 = blend_all n (λ k. f (suc k)) (a / 16) (b / 16) (λ k p. h (suc k) (omega arith)) (omega (arith, pow-suc 16 n)) in
    omega arith
