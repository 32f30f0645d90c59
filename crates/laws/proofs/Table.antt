-- Facts of a table, line by line: a statement proved at each line by itself holds at every line; and what holds of every line
-- that a list doesn't name. Assumes nothing.
use mathlib.Core.Path.{◌≡◌, refl, sym, ap, ◌∙◌, subst}
use mathlib.Core.Bool.{Bool, true, false}
use mathlib.Core.List.{List, [], ◌∷◌}
use Prim.Native.Nat.{ℕ, zero, suc, ◌<◌}
use native.Mathlib.Nat.{not-suc-le-zero, le_of_suc-le-suc}
use native.Mathlib.Omega.{arith}
use lib.Dec.{eqb, ltb}
use lib.ListN.{length, get_or}
use borrow.Author.Tests.{eqb-true, eqb-false, ne_eqb, le-ltb}
use Rattle.laws.specs.Choice.{pick, place_of}
use Rattle.laws.specs.Below.{every}
use Rattle.laws.proofs.Choice.{Tested, holds, fails, tested, pick_no}
use Rattle.laws.proofs.Below.{every_at}

-- the statement holds at each number below `n`: a pair for each number, the last number outermost
abbrev pub EachBelow {ℓ} : (ℕ → Type ℓ) → ℕ → Type ℓ
EachBelow P zero = Unit
EachBelow P (suc n) = EachBelow P n × P n

infixl 20 ◌&◌
-- one line more
pub ◌&◌ {ℓ} : {A B : Type ℓ} → A → B → A × B
a & b = (a, b)

pub each {ℓ} : (P : ℕ → Type ℓ) (n : ℕ) → EachBelow P n → (k : ℕ) → k < n → P k
each P zero ps k h = absurd (not-suc-le-zero h)
each P (suc n) ps k h = go (tested (eqb n k)) (each P n ps.0 k)
  where
    go : Tested (eqb n k) → (k < n → P k) → P k
    go (holds e) r = subst P (eqb-true n k e) ps.1
    go (fails e) r = r (let ne : n ≡ k → ⊥ = eqb-false n k e in omega arith)

-- `x` is none of the numbers, with `N` besides: what is known in the last arm of a `match` on a number
abbrev pub NoneOf : Type 0 → List ℕ → ℕ → Type 0
NoneOf N [] x = N
NoneOf N (k ∷ ks) x = NoneOf (N × (x ≡ k → ⊥)) ks x

none_before : (N : Type 0) (ks : List ℕ) (x : ℕ) → NoneOf N ks x → N
none_before N [] x r = r
none_before N (k ∷ ks) x r = (none_before (N × (x ≡ k → ⊥)) ks x r).0

none_placed : (ks : List ℕ) (N : Type 0) (x : ℕ) → NoneOf N ks x → place_of x ks ≡ length ks
unfolding place_of
none_placed [] N x r = refl
none_placed (k ∷ ks) N x r =
    pick_no 0 (suc (place_of x ks)) (ne_eqb x k (none_before (N × (x ≡ k → ⊥)) ks x r).1) ∙
    ap suc (none_placed ks (N × (x ≡ k → ⊥)) x r)

-- so it isn't the number at any place of the list
pub none_at :
    (ks : List ℕ) (N : Type 0) (x i : ℕ) → NoneOf N ks x → i < length ks → x ≡ get_or ks i 0 → ⊥
none_at [] N x i r h e = not-suc-le-zero h
none_at (k ∷ ks) N x zero r h e = (none_before (N × (x ≡ k → ⊥)) ks x r).1 e
none_at (k ∷ ks) N x (suc i) r h e = none_at ks (N × (x ≡ k → ⊥)) x i r (le_of_suc-le-suc h) e

-- the number is in the list, or the test holds of it
unfoldable pub named_or : List ℕ → (ℕ → Bool) → ℕ → Bool
named_or ks f x = pick (ltb (place_of x ks) (length ks)) true (f x)

-- a test that holds at each number that the list doesn't name
pub otherwise :
    (f : ℕ → Bool) (ks : List ℕ) (n : ℕ) → every n (named_or ks f) ≡ true →
    (x : ℕ) → x < n → NoneOf Unit ks x → f x ≡ true
unfolding named_or
otherwise f ks n e x h r =
    let out : ltb (place_of x ks) (length ks) ≡ false =
    le-ltb (place_of x ks) (length ks) (let q : place_of x ks ≡ length ks = none_placed ks Unit x r in omega arith)
    in
    sym (pick_no true (f x) out) ∙ every_at n (named_or ks f) e x h
