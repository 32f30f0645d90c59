-- The conditions, one law a number. Assumes nothing.
use Rattle.std.proofs.Common.{◌≡◌, ℕ, zero, suc, Bool, false, sym, refl, ap, ◌∙◌}
use Rattle.conditions.specs.Conditions.{passes}

-- the conditions, one law a number
pub by_number :
    (test k v b : ℕ) {r : Bool} → test ≡ k → r ≡ passes k v b → r ≡ passes test v b
by_number test k v b same h = h ∙ ap (λ (n : ℕ). passes n v b) (sym same)

pub past_tests :
    (test v b : ℕ) → (test ≡ 0 → ⊥) → (test ≡ 1 → ⊥) → (test ≡ 2 → ⊥) → (test ≡ 3 → ⊥) → (test ≡ 4 → ⊥) → (test ≡ 5 → ⊥) →
    (test ≡ 6 → ⊥) → (test ≡ 7 → ⊥) → false ≡ passes test v b
unfolding passes
past_tests zero v b n0 n1 n2 n3 n4 n5 n6 n7 = absurd (n0 refl)
past_tests (suc zero) v b n0 n1 n2 n3 n4 n5 n6 n7 = absurd (n1 refl)
past_tests (suc (suc zero)) v b n0 n1 n2 n3 n4 n5 n6 n7 = absurd (n2 refl)
past_tests (suc (suc (suc zero))) v b n0 n1 n2 n3 n4 n5 n6 n7 = absurd (n3 refl)
past_tests (suc (suc (suc (suc zero)))) v b n0 n1 n2 n3 n4 n5 n6 n7 = absurd (n4 refl)
past_tests (suc (suc (suc (suc (suc zero))))) v b n0 n1 n2 n3 n4 n5 n6 n7 = absurd (n5 refl)
past_tests (suc (suc (suc (suc (suc (suc zero)))))) v b n0 n1 n2 n3 n4 n5 n6 n7 = absurd (n6 refl)
past_tests (suc (suc (suc (suc (suc (suc (suc zero))))))) v b n0 n1 n2 n3 n4 n5 n6 n7 = absurd (n7 refl)
past_tests (suc (suc (suc (suc (suc (suc (suc (suc k)))))))) v b n0 n1 n2 n3 n4 n5 n6 n7 = refl
