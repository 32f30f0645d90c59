-- A search through a list, line by line: the first line that holds the number is its place. Assumes nothing.
use mathlib.Core.Path.{◌≡◌, refl, sym, ap, ◌∙◌, subst}
use mathlib.Core.List.{List, [], ◌∷◌}
use Prim.Native.Nat.{ℕ, zero, suc, ◌<◌, zero-le, suc-le-suc}
use native.Mathlib.Nat.{not-suc-le-zero, le_of_suc-le-suc}
use native.Mathlib.Omega.{arith}
use lib.Dec.{eqb}
use lib.ListN.{length, get_or}
use borrow.Author.Tests.{eqb-true, eqb-false, eq-eqb, ne_eqb}
use Rattle.laws.specs.Choice.{place_of}
use Rattle.laws.proofs.Choice.{Tested, tested, holds, fails, pick_yes, pick_no}

-- no line before line `k` holds `v`
abbrev pub NotBefore : ℕ → List ℕ → ℕ → Type 0
NotBefore v l k = (j : ℕ) → j < k → get_or l j 0 ≡ v → ⊥

pub not_yet : (v : ℕ) (l : List ℕ) → NotBefore v l 0
not_yet v l j h = absurd (not-suc-le-zero h)

-- one line more
pub not_here : (v : ℕ) (l : List ℕ) (k : ℕ) → NotBefore v l k → (get_or l k 0 ≡ v → ⊥) → NotBefore v l (suc k)
not_here v l k none other j h e = go (tested (eqb j k))
  where
    go : Tested (eqb j k) → ⊥
    go (holds same) = other (subst (λ (i : ℕ). get_or l i 0 ≡ v) (eqb-true j k same) e)
    go (fails apart) = none j (let isnt : j ≡ k → ⊥ = eqb-false j k apart in omega arith) e

module _ (v : ℕ) where
  pub found_at : (l : List ℕ) (k : ℕ) → k < length l → NotBefore v l k → get_or l k 0 ≡ v → place_of v l ≡ k
  unfolding place_of
  found_at [] k h none e = absurd (not-suc-le-zero h)
  found_at (x ∷ xs) zero h none e = pick_yes 0 _ (eq-eqb v x (sym e))
  found_at (x ∷ xs) (suc k) h none e =
      pick_no 0 _ (ne_eqb v x (λ same. none zero (suc-le-suc zero-le) (sym same))) ∙
      ap suc (found_at xs k (le_of_suc-le-suc h) (λ j i. none (suc j) (suc-le-suc i)) e)

  pub nowhere : (l : List ℕ) → NotBefore v l (length l) → place_of v l ≡ length l
  unfolding place_of
  nowhere [] none = refl
  nowhere (x ∷ xs) none =
      pick_no 0 _ (ne_eqb v x (λ same. none zero (suc-le-suc zero-le) (sym same))) ∙
      ap suc (nowhere xs (λ j i. none (suc j) (suc-le-suc i)))
