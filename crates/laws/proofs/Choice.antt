-- Laws of a choice, of `and`, and of the place of a number in a list. Assumes nothing.
use mathlib.Core.Path.{◌≡◌, refl, sym, subst}
use mathlib.Core.Bool.{Bool, true, false}
use mathlib.Core.List.{List, [], ◌∷◌}
use Prim.Native.Nat.{ℕ, suc, ◌<◌}
use native.Mathlib.Nat.{le_of_suc-le-suc, not-suc-le-zero}
use lib.Dec.{eqb}
use lib.ListN.{length, get_or}
use borrow.Author.Tests.{eqb-true}
use Rattle.laws.specs.Choice.{◌and◌, pick, place_of}

module _ {ℓ} {A : Type ℓ} where
  pub pick_yes : {t : Bool} (a b : A) → t ≡ true → pick t a b ≡ a
  unfolding pick
  pick_yes {t} a b e = subst (λ (u : Bool). pick u a b ≡ a) (sym e) refl

  pub pick_no : {t : Bool} (a b : A) → t ≡ false → pick t a b ≡ b
  unfolding pick
  pick_no {t} a b e = subst (λ (u : Bool). pick u a b ≡ b) (sym e) refl

  -- what holds of both values, each where the test says so, holds of the choice
  pub by_pick {ℓ'} : (P : A → Type ℓ') (t : Bool) (a b : A) → (t ≡ true → P a) → (t ≡ false → P b) → P (pick t a b)
  unfolding pick
  by_pick P true a b y n = y refl
  by_pick P false a b y n = n refl

  -- a choice between a value and itself
  pub pick_same : (t : Bool) (a : A) → pick t a a ≡ a
  unfolding pick
  pick_same true a = refl
  pick_same false a = refl

-- a test holds or doesn't
pub data Tested (t : Bool) : Type 0 where
  holds : t ≡ true → Tested t
  fails : t ≡ false → Tested t

pub tested : (t : Bool) → Tested t
tested true = holds refl
tested false = fails refl

pub and_intro : {a b : Bool} → a ≡ true → b ≡ true → (a and b) ≡ true
unfolding ◌and◌
and_intro {a} {b} p q = subst (λ (t : Bool). (t and b) ≡ true) (sym p) q

-- where the first holds, the second decides
pub and_yes : {a : Bool} (b : Bool) → a ≡ true → (a and b) ≡ b
unfolding ◌and◌
and_yes {a} b p = subst (λ (t : Bool). (t and b) ≡ b) (sym p) refl

pub and_left : (a b : Bool) → (a and b) ≡ true → a ≡ true
unfolding ◌and◌
and_left true b e = refl
and_left false b e = e

pub and_right : (a b : Bool) → (a and b) ≡ true → b ≡ true
unfolding ◌and◌
and_right true b e = e
and_right false b e = cc

pub and_no_left : {a : Bool} (b : Bool) → a ≡ false → (a and b) ≡ false
unfolding ◌and◌
and_no_left {a} b p = subst (λ (t : Bool). (t and b) ≡ false) (sym p) refl

pub and_no_right : (a : Bool) {b : Bool} → b ≡ false → (a and b) ≡ false
unfolding ◌and◌
and_no_right true q = q
and_no_right false q = refl

-- where a number has a place in a list, it stands there
pub place_found : (v : ℕ) (l : List ℕ) → place_of v l < length l → get_or l (place_of v l) 0 ≡ v
unfolding place_of
place_found v [] h = absurd (not-suc-le-zero h)
place_found v (x ∷ xs) h = go (place_found v xs) (tested (eqb v x)) h
  where
    go :
        (place_of v xs < length xs → get_or xs (place_of v xs) 0 ≡ v) → Tested (eqb v x) →
        pick (eqb v x) 0 (suc (place_of v xs)) < suc (length xs) → get_or (x ∷ xs) (pick (eqb v x) 0 (suc (place_of v xs))) 0 ≡ v
    go r (holds e) k = rw (pick_yes 0 (suc (place_of v xs)) e) (sym (eqb-true v x e))
    go r (fails e) k =
        rw (pick_no 0 (suc (place_of v xs)) e) (r (le_of_suc-le-suc (rw (pick_no 0 (suc (place_of v xs)) e) at k)))
