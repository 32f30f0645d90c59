-- Rooms for a number a day: what stands at each place, and the room with one day more. Assumes nothing.
use mathlib.Core.Path.{◌≡◌, refl, sym, ap, ap₂, ◌∙◌}
use mathlib.Core.List.{List, ◌∷◌}
use Prim.Native.Nat.{ℕ, zero, suc, ◌+◌, ◌<◌, ◌≤◌}
use native.Mathlib.Nat.{le_of_suc-le-suc, not-suc-le-zero}
use native.Mathlib.Omega.{arith}
use lib.Dec.{ltb}
use lib.ListN.{length, get_or, set, replicate}
use borrow.Author.Tests.{lt-ltb, le-ltb, ltb-true, ltb-false}
use Rattle.laws.specs.Choice.{pick}
use Rattle.laws.proofs.Choice.{pick_yes, pick_no, Tested, tested, holds, fails}
use Rattle.score.specs.Score.{numbers_of, room_for}

numbers_same : (n : ℕ) (f g : ℕ → ℕ) → ((k : ℕ) → f k ≡ g k) → numbers_of n f ≡ numbers_of n g
unfolding numbers_of
numbers_same zero f g h = refl
numbers_same (suc n) f g h = ap₂ (λ (x : ℕ) (xs : List ℕ). x ∷ xs) (h zero) (numbers_same n _ _ (λ k. h (suc k)))

numbers_length : (n : ℕ) (f : ℕ → ℕ) → length (numbers_of n f) ≡ n
unfolding numbers_of
numbers_length zero f = refl
numbers_length (suc n) f = ap suc (numbers_length n (λ k. f (suc k)))

numbers_at : (n : ℕ) (f : ℕ → ℕ) (k : ℕ) → k < n → get_or (numbers_of n f) k 0 ≡ f k
unfolding numbers_of
numbers_at zero f k h = absurd (not-suc-le-zero h)
numbers_at (suc n) f zero h = refl
numbers_at (suc n) f (suc k) h = numbers_at n (λ j. f (suc j)) k (le_of_suc-le-suc h)

-- one number is stored where the functions differ
numbers_set :
    (n : ℕ) (f g : ℕ → ℕ) (k : ℕ) → k < n → ((j : ℕ) → (j ≡ k → ⊥) → f j ≡ g j) → set (numbers_of n f) k (g k) ≡ numbers_of n g
unfolding numbers_of
numbers_set zero f g k h same = absurd (not-suc-le-zero h)
numbers_set (suc n) f g zero h same =
    ap (λ (xs : List ℕ). g zero ∷ xs) (numbers_same n _ _ (λ j. same (suc j) (λ e. omega arith)))
numbers_set (suc n) f g (suc k) h same =
    ap₂ (λ (x : ℕ) (xs : List ℕ). x ∷ xs) (same zero (λ e. omega arith))
    (numbers_set n (λ j. f (suc j)) (λ j. g (suc j)) k (le_of_suc-le-suc h) (λ j ne. same (suc j) (λ e. ne (omega arith))))

module _ (f : ℕ → ℕ) where
  pub room_length : (n : ℕ) → length (room_for n f) ≡ 31
  unfolding room_for
  room_length n = numbers_length 31 (λ k. pick (ltb k n) (f k) 0)

  -- a day of the lease, and a place past its last day
  pub room_day : (n k : ℕ) → k < 31 → k < n → get_or (room_for n f) k 0 ≡ f k
  unfolding room_for
  room_day n k h le = numbers_at 31 (λ j. pick (ltb j n) (f j) 0) k h ∙ pick_yes _ _ (lt-ltb k n le)

  pub room_past : (n k : ℕ) → k < 31 → n ≤ k → get_or (room_for n f) k 0 ≡ 0
  unfolding room_for
  room_past n k h le = numbers_at 31 (λ j. pick (ltb j n) (f j) 0) k h ∙ pick_no _ _ (le-ltb k n le)

  pub room_empty : replicate 31 0 ≡ room_for 0 f
  unfolding room_for numbers_of pick
  room_empty = refl

  pub room_more : (k : ℕ) → k < 31 → set (room_for k f) k (f k) ≡ room_for (k + 1) f
  unfolding room_for
  room_more k h =
      ap (set (numbers_of 31 (λ j. pick (ltb j k) (f j) 0)) k) (sym (pick_yes (f k) 0 (lt-ltb k (k + 1) (omega arith)))) ∙
      numbers_set 31 (λ j. pick (ltb j k) (f j) 0) (λ j. pick (ltb j (k + 1)) (f j) 0) k h same
    where
      same : (j : ℕ) → (j ≡ k → ⊥) → pick (ltb j k) (f j) 0 ≡ pick (ltb j (k + 1)) (f j) 0
      same j ne = ap (λ t. pick t (f j) 0) (go (tested (ltb j k)))
        where
          go : Tested (ltb j k) → ltb j k ≡ ltb j (k + 1)
          go (holds e) = e ∙ sym (lt-ltb j (k + 1) (omega (arith, ltb-true j k e)))
          go (fails e) = e ∙ sym (le-ltb j (k + 1) (omega (arith, ltb-false j k e)))
