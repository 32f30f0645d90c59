-- Laws of what a party sees of inputs and outputs. Assumes nothing.
use mathlib.Core.Path.{◌≡◌, refl, sym, ap, ap₂, ◌∙◌, subst}
use mathlib.Core.Bool.{Bool, true, false}
use mathlib.Core.List.{List, [], ◌∷◌}
use Prim.Native.Nat.{ℕ, zero, suc, ◌+◌, ◌<◌}
use native.Mathlib.Nat.{add-zero}
use native.Mathlib.Omega.{arith}
use lib.ListN.{length, set}
use Rattle.laws.specs.Choice.{pick}
use Rattle.laws.specs.Masks.{on}
use Rattle.laws.proofs.Choice.{pick_yes, pick_no}
use Rattle.laws.proofs.Table.{each, ◌&◌}
use Rattle.owners.specs.Owners.{everything}
use Rattle.state.specs.State.{Buffer, unset}
use Rattle.state.specs.Seen.{seen_from, seen_outputs}

pick_twice {ℓ} : {A : Type ℓ} (t : Bool) (a b : A) → pick t (pick t a b) b ≡ pick t a b
unfolding pick
pick_twice true a b = refl
pick_twice false a b = refl

-- one sees of what one sees all of it
pub seen_twice : (m k : ℕ) (l : List Buffer) → seen_from m k (seen_from m k l) ≡ seen_from m k l
unfolding seen_from
seen_twice m k [] = refl
seen_twice m k (b ∷ bs) = ap₂ ◌∷◌ (pick_twice (on k m) b unset) (seen_twice m (suc k) bs)

next : (k n : ℕ) → k + suc n ≡ suc k + n
next k n = omega arith

-- one's own buffer, set before or after one looks
pub seen_own : (m k n : ℕ) (l : List Buffer) (b : Buffer) → on (k + n) m ≡ true → seen_from m k (set l n b) ≡ set (seen_from m k l) n b
unfolding seen_from
seen_own m k n [] b e = refl
seen_own m k zero (c ∷ cs) b e = ap (λ (x : Buffer). x ∷ seen_from m (suc k) cs) (pick_yes b unset (rw (add-zero k) at e))
seen_own m k (suc n) (c ∷ cs) b e =
    ap (λ (x : List Buffer). pick (on k m) c unset ∷ x)
    (seen_own m (suc k) n cs b (subst (λ (j : ℕ). on j m ≡ true) (next k n) e))

-- another's
pub seen_other : (m k n : ℕ) (l : List Buffer) (b : Buffer) → on (k + n) m ≡ false → seen_from m k (set l n b) ≡ seen_from m k l
unfolding seen_from
seen_other m k n [] b e = refl
seen_other m k zero (c ∷ cs) b e =
    ap (λ (x : Buffer). x ∷ seen_from m (suc k) cs)
    (pick_no b unset (rw (add-zero k) at e) ∙ sym (pick_no c unset (rw (add-zero k) at e)))
seen_other m k (suc n) (c ∷ cs) b e =
    ap (λ (x : List Buffer). pick (on k m) c unset ∷ x)
    (seen_other m (suc k) n cs b (subst (λ (j : ℕ). on j m ≡ false) (next k n) e))

pub seen_length : (m k : ℕ) (l : List Buffer) → length (seen_from m k l) ≡ length l
unfolding seen_from
seen_length m k [] = refl
seen_length m k (b ∷ bs) = ap suc (seen_length m (suc k) bs)

seen_whole : (m k : ℕ) (l : List Buffer) → ((j : ℕ) → j < length l → on (k + j) m ≡ true) → seen_from m k l ≡ l
unfolding seen_from
seen_whole m k [] h = refl
seen_whole m k (b ∷ bs) h =
    ap₂ ◌∷◌ (pick_yes b unset (rw (add-zero k) at (h zero (omega arith))))
    (seen_whole m (suc k) bs (λ j p. subst (λ (i : ℕ). on i m ≡ true) (next k j) (h (suc j) (omega arith))))

-- who owns everything sees all outputs
pub seen_all : (l : List Buffer) → length l ≡ 4 → seen_outputs everything l ≡ l
unfolding on
seen_all l e =
    seen_whole everything 16 l
    (λ j h. each (λ n. on (16 + n) everything ≡ true) 4 (tt & refl & refl & refl & refl) j (omega (arith, e, h)))
