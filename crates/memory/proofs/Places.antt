-- Where elements begin in lent memory: one law a return of the code, and what a place shows. Assumes nothing.
use mathlib.Core.Path.{◌≡◌, sym, ap, ◌∙◌}
use mathlib.Core.Bool.{Bool, true, false}
use mathlib.Core.List.{[], ◌∷◌}
use Prim.Native.Nat.{ℕ, ◌+◌, ◌-◌, ◌^◌, ◌<◌, ◌≤◌}
use native.Mathlib.Omega.{arith}
use borrow.Author.Tests.{le-leb, lt-leb, leb-true}
use Rattle.laws.specs.Choice.{◌and◌, pick}
use Rattle.laws.proofs.Choice.{pick_yes, pick_no, and_intro, and_left, and_right, and_no_left, and_no_right, Tested, tested, holds, fails}
use Rattle.refusal.specs.Told.{Told, gives, refuses}
use Rattle.layout.specs.declared.Layout.{Layout}
use Rattle.layout.proofs.Window.{size_most, form_size}
use Rattle.address.specs.Address.{if_accepted, inside, address_of, translate_of}
use Rattle.address.specs.Inverse.{Accepted, Inside}
use Rattle.memory.specs.Elements.{most_bytes, is_held, held_at, in_order, start_of, find_of}
use Rattle.memory.proofs.Pairs.{told_apart, same_one, more_fails, Outcome, outcome, goes, stays, is_inside, goes_to, stays_out}

-- what a held element has, of memory of `n` bytes at `first` and an element of `s` bytes at `a`
pub record Held (first n a s : ℕ) : Type 0 where
  pub long : n ≤ most_bytes
  pub high : first + n ≤ 2 ^ 32
  pub low : first ≤ a
  pub whole : a + s ≤ first + n

module _ (first n a s : ℕ) where
  pub is_held_lem : is_held first n a s ≡ true → Held first n a s
  unfolding is_held
  is_held_lem e =
      let e₁ = and_right _ _ e in
      let e₂ = and_right _ _ e₁ in
      record {
        long = leb-true _ _ (and_left _ _ e);
        high = leb-true _ _ (and_left _ _ e₁);
        low = leb-true _ _ (and_left _ _ e₂);
        whole = leb-true _ _ (and_right _ _ e₂);
      }

  pub tests_held : Held first n a s → is_held first n a s ≡ true
  unfolding is_held
  tests_held h =
      and_intro (le-leb _ _ h.long)
      (and_intro (le-leb _ _ h.high) (and_intro (le-leb _ _ h.low) (le-leb _ _ h.whole)))

  pub too_long : most_bytes < n → start_of a s first n ≡ refuses 11
  unfolding start_of is_held
  too_long h = pick_no _ _ (and_no_left _ (lt-leb _ _ h))

  pub too_high_lem : 2 ^ 32 < first + n → start_of a s first n ≡ refuses 11
  unfolding start_of is_held
  too_high_lem h = pick_no _ _ (and_no_right _ (and_no_left _ (lt-leb _ _ h)))

  pub below_first : a < first → start_of a s first n ≡ refuses 11
  unfolding start_of is_held
  below_first h = pick_no _ _ (and_no_right _ (and_no_right _ (and_no_left _ (lt-leb _ _ h))))

  pub past_end : first + n < a + s → start_of a s first n ≡ refuses 11
  unfolding start_of is_held
  past_end h = pick_no _ _ (and_no_right _ (and_no_right _ (and_no_right _ (lt-leb _ _ h))))

  pub starts : Held first n a s → start_of a s first n ≡ gives ((a - first) ∷ [])
  unfolding start_of
  starts h = pick_yes _ _ (tests_held h)

  -- what the answers show
  pub not_held : (k : ℕ) → start_of a s first n ≡ refuses k → is_held first n a s ≡ false
  unfolding start_of
  not_held k told = go (tested (is_held first n a s))
    where
      go : Tested (is_held first n a s) → is_held first n a s ≡ false
      go (holds t) = absurd (told_apart (sym (pick_yes _ _ t) ∙ told))
      go (fails t) = t

  pub record Starts (p : ℕ) : Type 0 where
    pub test : is_held first n a s ≡ true
    pub place : p ≡ a - first
    pub fits : p + s ≤ n
    pub small : n ≤ most_bytes

  pub begins : (p : ℕ) → start_of a s first n ≡ gives (p ∷ []) → Starts p
  unfolding start_of
  begins p told = go (tested (is_held first n a s))
    where
      go : Tested (is_held first n a s) → Starts p
      go (holds t) =
          let h = is_held_lem t in
          let e : p ≡ a - first = same_one (sym told ∙ pick_yes _ _ t) in
          record {
            test = t;
            place = e;
            fits = omega (arith, h.low, h.whole);
            small = h.long;
          }
      go (fails t) = absurd (told_apart (sym told ∙ pick_no _ _ t))

module _ (l : Layout) (x y first n : ℕ) where
  pub find_refused : (k : ℕ) → translate_of l x y ≡ refuses k → find_of l x y first n ≡ refuses k
  unfolding find_of in_order
  find_refused k told = stays_out l x y k _ _ (λ i. i) told

  pub find_started :
      (a run : ℕ) (t : Told) → translate_of l x y ≡ gives (a ∷ run ∷ []) → t ≡ start_of a l.size first n → t ≡ find_of l x y first n
  unfolding find_of in_order start_of
  find_started a run t told e =
      let i = goes_to l x y a run told in
      e ∙ ap (λ (b : ℕ). start_of b l.size first n) i.address ∙ sym (i.told _)

  -- how an answer that asks the pair and the element comes about; `u` is any test that asks at least that the element is held
  abbrev pub asked : Bool → Told → Told
  asked u answer = if_accepted l (in_order (inside l x y) u answer)

  pub data Course : Type 0 where
    serves :
        Accepted l → inside l x y ≡ true → held_at l x y first n ≡ true →
        ((u : Bool) (answer : Told) → u ≡ true → asked u answer ≡ answer) →
        ((u : Bool) (answer : Told) → u ≡ false → asked u answer ≡ refuses 11) → Course
    denies :
        (k : ℕ) → ((u : Bool) (answer : Told) → (u ≡ true → held_at l x y first n ≡ true) → asked u answer ≡ refuses k) → Course

  pub course : Course
  unfolding in_order
  course = go (outcome l (inside l x y)) (tested (held_at l x y first n))
    where
      go : Outcome l (inside l x y) → Tested (held_at l x y first n) → Course
      go (goes accepted i same) (holds h) =
          serves accepted i h (λ u answer e. same _ ∙ pick_yes _ _ e) (λ u answer e. same _ ∙ pick_no _ _ e)
      go (goes accepted i same) (fails h) =
          denies 11 (λ u answer more. same _ ∙ pick_no _ _ (more_fails u _ more h))
      go (stays k same) h = denies k (λ u answer more. same (inside l x y) (pick u answer (refuses 11)) (λ i. i))

  -- what a found place shows
  pub record Found (p : ℕ) : Type 0 where
    pub accepted : Accepted l
    pub pair : Inside l x y
    pub held : held_at l x y first n ≡ true
    pub place : p ≡ address_of l x y - first
    pub fits : p + l.size ≤ n
    pub long : n ≤ most_bytes
    pub size : l.size ≤ 16
    pub told : (u : Bool) (answer : Told) → u ≡ true → asked u answer ≡ answer
    pub unfit : (u : Bool) (answer : Told) → u ≡ false → asked u answer ≡ refuses 11

  pub found : (p : ℕ) → find_of l x y first n ≡ gives (p ∷ []) → Found p
  unfolding find_of
  found p told = go course
    where
      go : Course → Found p
      go (serves accepted i h same unfit) =
          let e : p ≡ address_of l x y - first = same_one (sym told ∙ same _ _ h) in
          let k = is_held_lem first n (address_of l x y) l.size h in
          record {
            accepted = accepted;
            pair = is_inside l x y i;
            held = h;
            place = e;
            fits = omega (arith, k.low, k.whole);
            long = k.long;
            size = size_most l.size (form_size l.base.0 l.pitch l.size accepted.form);
            told = same;
            unfit = unfit;
          }
      go (denies k same) = absurd (told_apart (sym told ∙ same _ _ (λ h. h)))

  -- a place that is refused is the answer of whatever asks for it
  pub not_found :
      (k : ℕ) (u : Bool) (answer : Told) → (u ≡ true → held_at l x y first n ≡ true) → find_of l x y first n ≡ refuses k →
      asked u answer ≡ refuses k
  unfolding find_of
  not_found k u answer more told = go course
    where
      go : Course → asked u answer ≡ refuses k
      go (serves accepted i h same unfit) = absurd (told_apart (sym (same _ _ h) ∙ told))
      go (denies m same) = same u answer more ∙ sym (same _ _ (λ h. h)) ∙ told
