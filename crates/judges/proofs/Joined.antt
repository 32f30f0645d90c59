-- Tests that are joined, one by one or in a loop. Assumes nothing.
use mathlib.Core.Path.{◌≡◌, refl, ap, ap₂, ◌∙◌}
use mathlib.Core.Bool.{Bool, true, false, ◌&&◌}
use Prim.Native.Nat.{ℕ, zero, suc, ◌+◌}
use native.Mathlib.Omega.{arith}
use Rattle.laws.specs.Choice.{◌and◌}
use Rattle.laws.specs.Below.{every}

-- a call that joins two tests, by what each of them is
pub joined : {r a b a' b' : Bool} → r ≡ (a and b) → a ≡ a' → b ≡ b' → r ≡ (a' and b')
joined e f g = e ∙ ap₂ ◌and◌ f g

-- two tests joined by `&` are both
pub both_is : (a b : Bool) → (a && b) ≡ (a and b)
unfolding ◌and◌
both_is true b = refl
both_is false b = refl

-- the same, by what each of them is
pub together : {a b a' b' : Bool} → a ≡ a' → b ≡ b' → (a && b) ≡ (a' and b')
together {a} {b} f g = joined (both_is a b) f g

and_true : (a : Bool) → a ≡ (a and true)
unfolding ◌and◌
and_true true = refl
and_true false = refl

and_assoc : (a b c : Bool) → ((a and b) and c) ≡ (a and (b and c))
unfolding ◌and◌
and_assoc true b c = refl
and_assoc false b c = refl

next : (k : ℕ) (f : ℕ → Bool) → (every k f and f k) ≡ every (suc k) f
unfolding every ◌and◌
next zero f = and_true (f zero)
next (suc k) f =
    and_assoc (f zero) (every k (λ i. f (suc i))) (f (suc k)) ∙ ap (λ (b : Bool). f zero and b) (next k (λ i. f (suc i)))

-- one turn of a loop: the tests so far, and the next
pub one_more : (k : ℕ) (f : ℕ → Bool) → (every k f and f k) ≡ every (k + 1) f
one_more k f = next k f ∙ ap (λ (m : ℕ). every m f) (omega arith)

-- none is tested yet
pub none_yet : (f : ℕ → Bool) → true ≡ every 0 f
unfolding every
none_yet f = refl

-- after the last turn all are
pub all_tested : {good : Bool} (f : ℕ → Bool) {k n : ℕ} → good ≡ every k f → k ≡ n → good ≡ every n f
all_tested f g e = g ∙ ap (λ (m : ℕ). every m f) e
