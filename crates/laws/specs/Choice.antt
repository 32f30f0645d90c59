-- A choice by a test, and the place of a number in a list: what the definitions of every crate are made of.
-- Assumes nothing.
use Rattle.std.specs.Prelude.{Bool, true, false, List, [], ◌∷◌, ℕ, suc, eqb}

infixr 35 ◌and◌
-- both tests hold
unfoldable pub ◌and◌ : Bool → Bool → Bool
true and b = b
false and b = false

-- the first value where the test holds, the second where it doesn't
unfoldable pub pick {ℓ} : {A : Type ℓ} → Bool → A → A → A
pick true a b = a
pick false a b = b

-- the place of the first entry that is `v`, counted from 0; the list's length where there is none
unfoldable pub place_of : ℕ → List ℕ → ℕ
unfolding pick
place_of v [] = 0
place_of v (x ∷ xs) = pick (eqb v x) 0 (suc (place_of v xs))
