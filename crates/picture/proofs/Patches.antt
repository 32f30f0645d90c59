-- Parts of a list replaced one after the other, byte by byte. Assumes nothing.
use mathlib.Core.Path.{◌≡◌, refl, sym, ap, ◌∙◌, subst}
use mathlib.Core.Bool.{Bool, true, false}
use mathlib.Core.Logic.{◌⊎◌, inl, inr}
use mathlib.Core.List.Memᴰ
use mathlib.Core.List.{List, [], ◌∷◌, ◌++◌, Memᴰ}
use mathlib.Core.List.{Permᴰ}
use Prim.Native.Nat.{ℕ, ◌+◌, ◌-◌, ◌<◌, ◌≤◌}
use native.Mathlib.Omega.{arith}
use lib.Dec.{leb, ltb}
use lib.ListN.{length, take, drop, get_or, get_or-append}
use lib.Seq.{length-take-le, get_or-take, get_or-drop, get_or-append-add, ext_get_or}
use borrow.Author.Tests.{ltb-true, ltb-false, leb-true, leb-false}
use Rattle.laws.proofs.Choice.{Tested, tested, holds, fails}
use Rattle.memory.specs.Elements.{overwritten}
use Rattle.memory.proofs.Overwritten.{length_overwritten}

module _ (a : ℕ) (g m : List ℕ) (h : a + length g ≤ length m) where
  front : length (take a m) ≡ a
  front = length-take-le a m (omega arith)

  pub byte_in : (j : ℕ) → j < length g → get_or (overwritten a g m) (a + j) 0 ≡ get_or g j 0
  unfolding overwritten
  byte_in j hj =
      ap (λ (n : ℕ). get_or (take a m ++ (g ++ drop (a + length g) m)) (n + j) 0) (sym front) ∙
      get_or-append-add (take a m) (g ++ drop (a + length g) m) j 0 ∙
      get_or-append g (drop (a + length g) m) 0 j hj

  pub byte_before : (i : ℕ) → i < a → get_or (overwritten a g m) i 0 ≡ get_or m i 0
  unfolding overwritten
  byte_before i hi =
      get_or-append (take a m) (g ++ drop (a + length g) m) 0 i (omega (arith, front)) ∙ get_or-take a m i 0 hi

  pub byte_after : (j : ℕ) → get_or (overwritten a g m) (a + (length g + j)) 0 ≡ get_or m (a + (length g + j)) 0
  unfolding overwritten
  byte_after j =
      ap (λ (n : ℕ). get_or (take a m ++ (g ++ drop (a + length g) m)) (n + (length g + j)) 0) (sym front) ∙
      get_or-append-add (take a m) (g ++ drop (a + length g) m) (length g + j) 0 ∙
      get_or-append-add g (drop (a + length g) m) j 0 ∙
      get_or-drop (a + length g) m j 0 ∙
      ap (λ (n : ℕ). get_or m n 0) {x = a + length g + j} {y = a + (length g + j)} (omega arith)

module _ {K : Type 0} (at : K → ℕ) (bytes : K → List ℕ) where
  -- all parts put in, one after the other
  abbrev pub patched : List K → List ℕ → List ℕ
  patched [] m = m
  patched (k ∷ ks) m = patched ks (overwritten (at k) (bytes k) m)

  pub record Covers (k : K) (i : ℕ) : Type 0 where
    pub from : at k ≤ i
    pub to : i < at k + length (bytes k)

  abbrev pub value : K → ℕ → ℕ
  value k i = get_or (bytes k) (i - at k) 0

  abbrev pub Fit : ℕ → List K → Type 0
  Fit n ks = (k : K) → Memᴰ k ks → at k + length (bytes k) ≤ n

  -- two parts that have the same byte give it the same value
  abbrev pub Agree : List K → Type 0
  Agree ks = (k k' : K) (i : ℕ) → Memᴰ k ks → Memᴰ k' ks → Covers k i → Covers k' i → value k i ≡ value k' i

  data Covered (k : K) (i : ℕ) : Type 0 where
    is : Covers k i → Covered k i
    isn't : (Covers k i → ⊥) → Covered k i

  covered : (k : K) (i : ℕ) → Covered k i
  covered k i = go (tested (leb (at k) i)) (tested (ltb i (at k + length (bytes k))))
    where
      go : Tested (leb (at k) i) → Tested (ltb i (at k + length (bytes k))) → Covered k i
      go (holds a) (holds b) = is (record { from = leb-true _ _ a; to = ltb-true _ _ b })
      go (holds a) (fails b) = isn't (λ c. let z : at k + length (bytes k) ≤ i = ltb-false _ _ b in omega (arith, c.to))
      go (fails a) t = isn't (λ c. let z : i < at k = leb-false _ _ a in omega (arith, c.from))

  inside : (k : K) (m : List ℕ) (i : ℕ) → at k + length (bytes k) ≤ length m → Covers k i → get_or (overwritten (at k) (bytes k) m) i 0 ≡ value k i
  inside k m i fit c =
      ap (λ (n : ℕ). get_or (overwritten (at k) (bytes k) m) n 0) {x = i} {y = at k + (i - at k)} (omega (arith, c.from)) ∙
      byte_in (at k) (bytes k) m fit (i - at k) (omega (arith, c.from, c.to))

  outside : (k : K) (m : List ℕ) (i : ℕ) → at k + length (bytes k) ≤ length m → (Covers k i → ⊥) → get_or (overwritten (at k) (bytes k) m) i 0 ≡ get_or m i 0
  outside k m i fit never = go (tested (ltb i (at k)))
    where
      go : Tested (ltb i (at k)) → get_or (overwritten (at k) (bytes k) m) i 0 ≡ get_or m i 0
      go (holds a) = byte_before (at k) (bytes k) m fit i (ltb-true _ _ a)
      go (fails a) = past (tested (ltb i (at k + length (bytes k))))
        where
          past : Tested (ltb i (at k + length (bytes k))) → get_or (overwritten (at k) (bytes k) m) i 0 ≡ get_or m i 0
          past (holds b) = absurd (never (record { from = ltb-false _ _ a; to = ltb-true _ _ b }))
          past (fails b) =
              let z : at k + length (bytes k) ≤ i = ltb-false _ _ b in
              let e : i ≡ at k + (length (bytes k) + (i - at k - length (bytes k))) = omega arith in
              ap (λ (n : ℕ). get_or (overwritten (at k) (bytes k) m) n 0) e ∙
              byte_after (at k) (bytes k) m fit (i - at k - length (bytes k)) ∙
              ap (λ (n : ℕ). get_or m n 0) (sym e)

  -- a byte after one write: the value that the part gives it, or as before
  after : (k : K) (m : List ℕ) (i v : ℕ) → at k + length (bytes k) ≤ length m → (Covers k i → value k i ≡ v) → get_or m i 0 ≡ v → get_or (overwritten (at k) (bytes k) m) i 0 ≡ v
  after k m i v fit gives e = go (covered k i)
    where
      go : Covered k i → get_or (overwritten (at k) (bytes k) m) i 0 ≡ v
      go (is c) = inside k m i fit c ∙ gives c
      go (isn't c) = outside k m i fit c ∙ e

  fit_on : (k : K) (ks : List K) (m : List ℕ) → Fit (length m) (k ∷ ks) → Fit (length (overwritten (at k) (bytes k) m)) ks
  fit_on k ks m fit k' h =
      let e = length_overwritten (at k) (bytes k) m (fit k (Memᴰ.head refl)) in omega (arith, e, fit k' (Memᴰ.tail h))

  pub length_patched : (ks : List K) (m : List ℕ) → Fit (length m) ks → length (patched ks m) ≡ length m
  length_patched [] m fit = refl
  length_patched (k ∷ ks) m fit =
      length_patched ks (overwritten (at k) (bytes k) m) (fit_on k ks m fit) ∙
      length_overwritten (at k) (bytes k) m (fit k (Memᴰ.head refl))

  -- a byte that has the value which every part that has it gives
  pub kept :
      (ks : List K) (m : List ℕ) (i v : ℕ) → Fit (length m) ks → ((k : K) → Memᴰ k ks → Covers k i → value k i ≡ v) →
      get_or m i 0 ≡ v → get_or (patched ks m) i 0 ≡ v
  kept [] m i v fit all e = e
  kept (k ∷ ks) m i v fit all e =
      kept ks (overwritten (at k) (bytes k) m) i v (fit_on k ks m fit) (λ k' h. all k' (Memᴰ.tail h))
      (after k m i v (fit k (Memᴰ.head refl)) (all k (Memᴰ.head refl)) e)

  -- a byte of one of the parts
  pub reached :
      (ks : List K) (m : List ℕ) (i v : ℕ) (k : K) → Fit (length m) ks →
      ((k' : K) → Memᴰ k' ks → Covers k' i → value k' i ≡ v) → Memᴰ k ks → Covers k i →
      get_or (patched ks m) i 0 ≡ v
  reached [] m i v k fit all here c = absurd (Memᴰ.not-nil here)
  reached (k₀ ∷ ks) m i v k fit all here c =
      first_or_later (Memᴰ.cases_cons here)
      (reached ks (overwritten (at k₀) (bytes k₀) m) i v k (fit_on k₀ ks m fit) (λ k' h. all k' (Memᴰ.tail h)))
      (kept ks (overwritten (at k₀) (bytes k₀) m) i v (fit_on k₀ ks m fit) (λ k' h. all k' (Memᴰ.tail h)))
    where
      first_or_later :
          (k ≡ k₀) ⊎ Memᴰ k ks → (Memᴰ k ks → Covers k i → get_or (patched ks (overwritten (at k₀) (bytes k₀) m)) i 0 ≡ v) →
          (get_or (overwritten (at k₀) (bytes k₀) m) i 0 ≡ v → get_or (patched ks (overwritten (at k₀) (bytes k₀) m)) i 0 ≡ v) →
          get_or (patched ks (overwritten (at k₀) (bytes k₀) m)) i 0 ≡ v
      first_or_later (inl e) later now =
          now
          (let c₀ : Covers k₀ i = subst (λ (q : K). Covers q i) e c in
          inside k₀ m i (fit k₀ (Memᴰ.head refl)) c₀ ∙ all k₀ (Memᴰ.head refl) c₀)
      first_or_later (inr h) later now = later h c

  -- which part of the list has a byte
  data Owned (ks : List K) (i : ℕ) : Type 0 where
    by : (k : K) → Memᴰ k ks → Covers k i → Owned ks i
    nobody : ((k : K) → Memᴰ k ks → Covers k i → ⊥) → Owned ks i

  owned : (ks : List K) (i : ℕ) → Owned ks i
  owned [] i = nobody (λ k h c. Memᴰ.not-nil h)
  owned (k ∷ ks) i = go (covered k i) (owned ks i)
    where
      go : Covered k i → Owned ks i → Owned (k ∷ ks) i
      go (is c) rest = by k (Memᴰ.head refl) c
      go (isn't c) (by k' h c') = by k' (Memᴰ.tail h) c'
      go (isn't c) (nobody never) = nobody (λ k' h c'. one (Memᴰ.cases_cons h) c')
        where
          one : {k' : K} → (k' ≡ k) ⊎ Memᴰ k' ks → Covers k' i → ⊥
          one (inl e) c' = c (subst (λ (q : K). Covers q i) e c')
          one {k'} (inr h) c' = never k' h c'

  -- lists with the same parts, in whatever order, leave the same bytes
  pub same_parts :
      (ks js : List K) (m : List ℕ) → Fit (length m) ks → Agree ks → ((k : K) → Memᴰ k ks → Memᴰ k js) →
      ((k : K) → Memᴰ k js → Memᴰ k ks) → patched js m ≡ patched ks m
  same_parts ks js m fit agree to from =
      ext_get_or 0 (patched js m) (patched ks m) (length_patched js m fit' ∙ sym (length_patched ks m fit)) (λ i h. go i (owned ks i))
    where
      fit' : Fit (length m) js
      fit' k h = fit k (from k h)

      go : (i : ℕ) → Owned ks i → get_or (patched js m) i 0 ≡ get_or (patched ks m) i 0
      go i (by k h c) =
          reached js m i (value k i) k fit' (λ k' h' c'. agree k' k i (from k' h') h c' c) (to k h) c ∙
          sym (reached ks m i (value k i) k fit (λ k' h' c'. agree k' k i h' h c' c) h c)
      go i (nobody never) =
          kept js m i (get_or m i 0) fit' (λ k' h' c'. absurd (never k' (from k' h') c')) refl ∙
          sym (kept ks m i (get_or m i 0) fit (λ k' h' c'. absurd (never k' h' c')) refl)

-- what a permutation does to places in a list
cons_moved :
    {A : Type 0} {a p q : A} {ks js : List A} → p ≡ q → (Memᴰ a ks → Memᴰ a js) → Memᴰ a (p ∷ ks) →
    Memᴰ a (q ∷ js)
cons_moved e below (Memᴰ.head f) = Memᴰ.head (f ∙ e)
cons_moved e below (Memᴰ.tail h) = Memᴰ.tail (below h)

swap_moved :
    {A : Type 0} {a p q p' q' : A} {ks : List A} → p ≡ q' → q ≡ p' → Memᴰ a (p ∷ q ∷ ks) → Memᴰ a (p' ∷ q' ∷ ks)
swap_moved e f (Memᴰ.head g) = Memᴰ.tail (Memᴰ.head (g ∙ e))
swap_moved e f (Memᴰ.tail (Memᴰ.head g)) = Memᴰ.head (g ∙ f)
swap_moved e f (Memᴰ.tail (Memᴰ.tail h)) = Memᴰ.tail (Memᴰ.tail h)

pub moved : {A : Type 0} {a : A} {ks js : List A} → Permᴰ ks js → Memᴰ a ks → Memᴰ a js
moved Permᴰ.nil h = h
moved (Permᴰ.cons e d) h = cons_moved e (moved d) h
moved (Permᴰ.swap e f) h = swap_moved e f h
moved (Permᴰ.trans d f) h = moved f (moved d h)
