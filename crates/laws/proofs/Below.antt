-- Laws of tests and sums over all numbers below a number. Assumes nothing.
use mathlib.Core.Path.{◌≡◌, refl, ap, ap₂}
use mathlib.Core.Bool.{Bool, true, false, not}
use Prim.Native.Nat.{ℕ, zero, suc, ◌+◌, ◌<◌, ◌≤◌, zero-le, suc-le-suc}
use native.Mathlib.Nat.{not-suc-le-zero, le_of_suc-le-suc}
use native.Mathlib.Omega.{arith}
use Rattle.laws.specs.Choice.{◌and◌, pick}
use Rattle.laws.specs.Masks.{◌or◌, digit}
use Rattle.laws.specs.Below.{some, every, sum, count, least}
use Rattle.laws.proofs.Choice.{Tested, holds, fails, tested, pick_yes, pick_no, and_intro, and_left, and_right}

pub some_same : (k : ℕ) (f g : ℕ → Bool) → ((i : ℕ) → i < k → f i ≡ g i) → some k f ≡ some k g
unfolding some
some_same zero f g h = refl
some_same (suc k) f g h =
    ap₂ ◌or◌ (h zero (suc-le-suc zero-le))
    (some_same k (λ i. f (suc i)) (λ i. g (suc i)) (λ i p. h (suc i) (suc-le-suc p)))

pub every_same : (k : ℕ) (f g : ℕ → Bool) → ((i : ℕ) → i < k → f i ≡ g i) → every k f ≡ every k g
unfolding every
every_same zero f g h = refl
every_same (suc k) f g h =
    ap₂ ◌and◌ (h zero (suc-le-suc zero-le))
    (every_same k (λ i. f (suc i)) (λ i. g (suc i)) (λ i p. h (suc i) (suc-le-suc p)))

-- a test that holds at every place below `k` holds at each
pub every_at : (k : ℕ) (f : ℕ → Bool) → every k f ≡ true → (i : ℕ) → i < k → f i ≡ true
unfolding every
every_at zero f e i h = absurd (not-suc-le-zero h)
every_at (suc k) f e zero h = and_left (f zero) (every k (λ j. f (suc j))) e
every_at (suc k) f e (suc i) h =
    every_at k (λ j. f (suc j)) (and_right (f zero) (every k (λ j. f (suc j))) e) i (le_of_suc-le-suc h)

-- and one that holds at each holds at every place
pub every_of : (k : ℕ) (f : ℕ → Bool) → ((i : ℕ) → i < k → f i ≡ true) → every k f ≡ true
unfolding every
every_of zero f h = refl
every_of (suc k) f h =
    and_intro (h zero (suc-le-suc zero-le)) (every_of k (λ i. f (suc i)) (λ i p. h (suc i) (suc-le-suc p)))

or_no : (a b : Bool) → (a or b) ≡ false → (a ≡ false) × (b ≡ false)
unfolding ◌or◌
or_no true b e = (e, cc)
or_no false b e = (refl, e)

-- a test that holds at no place below `k` fails at each
pub none_at : (k : ℕ) (f : ℕ → Bool) → some k f ≡ false → (i : ℕ) → i < k → f i ≡ false
unfolding some
none_at zero f e i h = absurd (not-suc-le-zero h)
none_at (suc k) f e zero h = (or_no (f zero) (some k (λ j. f (suc j))) e).0
none_at (suc k) f e (suc i) h =
    none_at k (λ j. f (suc j)) (or_no (f zero) (some k (λ j. f (suc j))) e).1 i (le_of_suc-le-suc h)

or_left : {a : Bool} (b : Bool) → a ≡ true → (a or b) ≡ true
unfolding ◌or◌
or_left b e = rw e refl

or_right : (a : Bool) {b : Bool} → b ≡ true → (a or b) ≡ true
unfolding ◌or◌
or_right true e = refl
or_right false e = e

-- a test that holds at one place holds at some
pub some_at : (k : ℕ) (f : ℕ → Bool) (i : ℕ) → i < k → f i ≡ true → some k f ≡ true
unfolding some
some_at zero f i h e = absurd (not-suc-le-zero h)
some_at (suc k) f zero h e = or_left (some k (λ j. f (suc j))) e
some_at (suc k) f (suc i) h e = or_right (f zero) (some_at k (λ j. f (suc j)) i (le_of_suc-le-suc h) e)

-- every test holds exactly when none fails
pub every_none : (k : ℕ) (f : ℕ → Bool) → every k f ≡ not (some k (λ i. not (f i)))
unfolding every some ◌and◌ ◌or◌
every_none zero f = refl
every_none (suc k) f = go (f zero) (every k (λ i. f (suc i))) (some k (λ i. not (f (suc i)))) (every_none k (λ i. f (suc i)))
  where
    go : (b x y : Bool) → x ≡ not y → (b and x) ≡ not (not b or y)
    go true x y h = h
    go false x y h = refl

-- the same values below `k` have the same sum
pub sum_same : (k : ℕ) (f g : ℕ → ℕ) → ((i : ℕ) → i < k → f i ≡ g i) → sum k f ≡ sum k g
unfolding sum
sum_same zero f g h = refl
sum_same (suc k) f g h =
    ap₂ ◌+◌ (h zero (suc-le-suc zero-le)) (sum_same k (λ i. f (suc i)) (λ i. g (suc i)) (λ i p. h (suc i) (suc-le-suc p)))

-- a sum grows by its last value
pub sum_last : (k : ℕ) (f : ℕ → ℕ) → sum (suc k) f ≡ sum k f + f k
unfolding sum
sum_last zero f = omega arith
sum_last (suc k) f = omega (arith, sum_last k (λ i. f (suc i)))

pub count_same : (k : ℕ) (f g : ℕ → Bool) → ((i : ℕ) → i < k → f i ≡ g i) → count k f ≡ count k g
unfolding count
count_same k f g h = sum_same k (λ i. digit (f i)) (λ i. digit (g i)) (λ i p. ap digit (h i p))

-- a test that holds at no place below `k` is counted 0 times
pub count_none : (k : ℕ) (f : ℕ → Bool) → ((i : ℕ) → i < k → f i ≡ false) → count k f ≡ 0
unfolding count sum digit
count_none zero f h = refl
count_none (suc k) f h =
    ap₂ (λ (b : Bool) (n : ℕ). digit b + n) (h zero (suc-le-suc zero-le))
    (count_none k (λ i. f (suc i)) (λ i p. h (suc i) (suc-le-suc p)))

-- a count is at most the number of places
pub count_bounded : (k : ℕ) (f : ℕ → Bool) → count k f ≤ k
unfolding count sum digit
count_bounded zero f = omega arith
count_bounded (suc k) f = go (f zero) (count_bounded k (λ i. f (suc i)))
  where
    go : (b : Bool) {n : ℕ} → n ≤ k → digit b + n ≤ suc k
    go true h = omega arith
    go false h = omega arith

-- the least place: either the first, or one more than the least of the rest
pub least_here : (k : ℕ) (f : ℕ → Bool) → f zero ≡ true → least (suc k) f ≡ 0
unfolding least
least_here k f e = pick_yes _ _ e

pub least_later : (k : ℕ) (f : ℕ → Bool) → f zero ≡ false → least (suc k) f ≡ suc (least k (λ i. f (suc i)))
unfolding least
least_later k f e = pick_no _ _ e

pub least_same : (k : ℕ) (f g : ℕ → Bool) → ((i : ℕ) → i < k → f i ≡ g i) → least k f ≡ least k g
unfolding least
least_same zero f g h = refl
least_same (suc k) f g h =
    ap₂ (λ (b : Bool) (n : ℕ). pick b 0 (suc n)) (h zero (suc-le-suc zero-le))
    (least_same k (λ i. f (suc i)) (λ i. g (suc i)) (λ i p. h (suc i) (suc-le-suc p)))

-- the least place is one at which the test holds, and before it the test fails
pub least_at : (k : ℕ) (f : ℕ → Bool) → least k f < k → f (least k f) ≡ true
unfolding least
least_at zero f h = absurd (not-suc-le-zero h)
least_at (suc k) f h = go (least_at k (λ i. f (suc i))) (tested (f zero)) h
  where
    go :
        (least k (λ i. f (suc i)) < k → f (suc (least k (λ i. f (suc i)))) ≡ true) → Tested (f zero) →
        pick (f zero) 0 (suc (least k (λ i. f (suc i)))) < suc k →
        f (pick (f zero) 0 (suc (least k (λ i. f (suc i))))) ≡ true
    go r (holds e) q = rw (pick_yes 0 (suc (least k (λ i. f (suc i)))) e) e
    go r (fails e) q =
        rw (pick_no 0 (suc (least k (λ i. f (suc i)))) e)
        (r (le_of_suc-le-suc (rw (pick_no 0 (suc (least k (λ i. f (suc i)))) e) at q)))

pub least_before : (k : ℕ) (f : ℕ → Bool) (i : ℕ) → i < least k f → f i ≡ false
unfolding least
least_before zero f i h = absurd (not-suc-le-zero h)
least_before (suc k) f zero h = go (tested (f zero)) h
  where
    go : Tested (f zero) → zero < pick (f zero) 0 (suc (least k (λ i. f (suc i)))) → f zero ≡ false
    go (holds e) q = absurd (not-suc-le-zero (rw (pick_yes 0 (suc (least k (λ i. f (suc i)))) e) at q))
    go (fails e) q = e
least_before (suc k) f (suc i) h = go (least_before k (λ j. f (suc j)) i) (tested (f zero)) h
  where
    go :
        (i < least k (λ j. f (suc j)) → f (suc i) ≡ false) → Tested (f zero) →
        suc i < pick (f zero) 0 (suc (least k (λ j. f (suc j)))) → f (suc i) ≡ false
    go r (holds e) q = absurd (not-suc-le-zero (rw (pick_yes 0 (suc (least k (λ j. f (suc j)))) e) at q))
    go r (fails e) q = r (le_of_suc-le-suc (rw (pick_no 0 (suc (least k (λ j. f (suc j)))) e) at q))
