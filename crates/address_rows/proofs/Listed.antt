-- Lists of a function's values, grown at the end. Assumes nothing.
use mathlib.Core.Path.{◌≡◌, refl, sym, ap, ap₂, ◌∙◌, subst}
use mathlib.Core.List.{List, [], ◌∷◌, ◌++◌, append_assoc}
use Prim.Native.Nat.{ℕ, zero, suc, ◌+◌, ◌-◌, ◌*◌, ◌<◌, ◌≤◌, ◌^◌}
use native.Mathlib.Nat.{mul-le-mul_right}
use native.Mathlib.Omega.{arith}
use lib.ListN.{length, take, drop, set, get_or, length-append, length-drop}
use lib.Seq.{drop-cons, set-append_seam, drop-length, take-append_seam, drop-append-add, drop-drop}
use Rattle.address_rows.specs.Rows.{listed}

pub listed_length : (f : ℕ → ℕ) (i n : ℕ) → length (listed f i n) ≡ n
listed_length f i zero = refl
listed_length f i (suc n) = ap suc (listed_length f (suc i) n)

pub listed_both : (f : ℕ → ℕ) (i n m : ℕ) → listed f i (n + m) ≡ listed f i n ++ listed f (i + n) m
listed_both f i zero m = ap₂ (λ (a b : ℕ). listed f a b) {x = i} {y = i + 0} {u = 0 + m} {v = m} (omega arith) (omega arith)
listed_both f i (suc n) m =
    ap (listed f i) {x = suc n + m} {y = suc (n + m)} (omega arith) ∙
    ap (λ (q : List ℕ). f i ∷ q)
    (listed_both f (suc i) n m ∙
    ap (λ (a : ℕ). listed f (suc i) n ++ listed f a m) {x = suc i + n} {y = i + suc n} (omega arith))

pub listed_same : (f g : ℕ → ℕ) (i j n : ℕ) → ((k : ℕ) → k < n → f (i + k) ≡ g (j + k)) → listed f i n ≡ listed g j n
listed_same f g i j zero same = refl
listed_same f g i j (suc n) same =
    ap₂ (λ (a : ℕ) (q : List ℕ). a ∷ q)
    (ap f {x = i} {y = i + 0} (omega arith) ∙ same 0 (omega arith) ∙ ap g {x = j + 0} {y = j} (omega arith))
    (listed_same f g (suc i) (suc j) n
    (λ k hk.
    ap f {x = suc i + k} {y = i + suc k} (omega arith) ∙ same (suc k) (omega (arith, hk)) ∙ ap g {x = j + suc k} {y = suc j + k} (omega arith)))

-- one value more
pub listed_set :
    (f : ℕ → ℕ) (n v : ℕ) (l room : List ℕ) → room ≡ listed f 0 n ++ drop n l → n < length l → v ≡ f n →
    set room n v ≡ listed f 0 (n + 1) ++ drop (n + 1) l
listed_set f n v l room e h ev =
    ap₂ (λ (q : List ℕ) (a : ℕ). set q a v)
    (e ∙ ap (λ (q : List ℕ). listed f 0 n ++ q) (drop-cons l n 0 h)) (sym (listed_length f 0 n)) ∙
    set-append_seam (listed f 0 n) (get_or l n 0) (drop (suc n) l) v ∙
    ap₂ (λ (a b : ℕ). listed f 0 n ++ a ∷ drop b l) {u = suc n} {v = n + 1} (ev ∙ ap f {x = n} {y = 0 + n} (omega arith)) (omega arith) ∙
    sym (append_assoc (listed f 0 n) (f (0 + n) ∷ []) (drop (n + 1) l)) ∙
    ap (λ (q : List ℕ). q ++ drop (n + 1) l) (sym (listed_both f 0 n 1))

-- all of them
pub listed_all : (f : ℕ → ℕ) (n : ℕ) (l room : List ℕ) → room ≡ listed f 0 n ++ drop n l → n ≤ length l → length l ≤ n → room ≡ listed f 0 (length l)
listed_all f n l room e a b =
    let n_is : n ≡ length l = omega (arith, a, b) in
    e ∙ ap (λ (k : ℕ). listed f 0 k ++ drop k l) n_is ∙ ap (λ (q : List ℕ). listed f 0 (length l) ++ q) (drop-length l) ∙
    mathlib.Core.List.append-nil (listed f 0 (length l))

-- a place of the list below its length, times the size
pub below_end : (at n size j : ℕ) → j < n → at + n * size ≤ 2 ^ 32 → 0 < size → at + j * size < 2 ^ 32
below_end at n size j h most some =
    let up : (j + 1) * size ≤ n * size = mul-le-mul_right size (let q : j + 1 ≤ n = omega (arith, h) in q) in
    let e = native.Mathlib.Nat.add-mul j 1 size in
    omega (arith, up, e, most, some)
