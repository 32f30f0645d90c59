-- What reads and writes answer, as far as the place of the element decides it: one law a return of the code, with memory at
-- return. Assumes nothing.
use mathlib.Core.Path.{◌≡◌, refl, sym, ap, ap₂, ◌∙◌, subst}
use mathlib.Core.List.{List, [], ◌∷◌, ◌++◌}
use Prim.Native.Nat.{ℕ, ◌+◌, ◌-◌, ◌^◌, ◌<◌, ◌≤◌}
use native.Mathlib.Omega.{arith}
use lib.ListN.{length, take, drop}
use borrow.Author.Tests.{eq-eqb, ne_eqb}
use borrow.Rule.Slice.PartMut.{post_of, mid_len}
use Rattle.laws.specs.Choice.{◌and◌}
use Rattle.laws.proofs.Choice.{and_intro, and_right, and_no_left}
use Rattle.refusal.specs.Told.{Told, gives, refuses}
use Rattle.layout.specs.declared.Layout.{Layout}
use Rattle.memory.specs.Answers.{Answered}
use Rattle.memory.specs.Elements.{bytes_at, read_of, write_of, overwritten, memory_after, Wrote, find_of}
use Rattle.memory.specs.declared.Reading.{Reading}
use Rattle.memory.proofs.Copies.{put_back}
use Rattle.memory.proofs.Places.{found, not_found}

-- a reading tells whatever is the same
pub told_so : {t u : Told} {r : Reading} → t ≡ u → Answered u r → Answered t r
told_so {t} {u} {r} e a = subst (λ (v : Told). Answered v r) (sym e) a

module _ (l : Layout) (x y first n p : ℕ) (told : find_of l x y first n ≡ gives (p ∷ [])) where
  pub ends_inside : p + l.size ≤ n
  ends_inside = (found l x y first n p told).fits

  pub end_fits : p + l.size < 2 ^ 64
  end_fits = let f = found l x y first n p told in omega (arith, f.fits, f.long)

module _ (l : Layout) (x y first : ℕ) (m : List ℕ) where
  pub read_refused : (k : ℕ) → find_of l x y first (length m) ≡ refuses k → read_of l x y first m ≡ refuses k
  unfolding read_of
  read_refused k told = not_found l x y first (length m) k _ _ (λ h. h) told

  module _ (p : ℕ) (told : find_of l x y first (length m) ≡ gives (p ∷ [])) where
    pub small_element : length (take (p + l.size - p) (drop p m)) ≤ 16
    small_element =
        let f = found l x y first (length m) p told in
        let e : length (take (p + l.size - p) (drop p m)) ≡ p + l.size - p = mid_len p (p + l.size) m f.fits in
        omega (arith, f.size)

    pub read_found : read_of l x y first m ≡ gives (take (p + l.size - p) (drop p m))
    unfolding read_of bytes_at
    read_found =
        let f = found l x y first (length m) p told in
        f.told _ _ f.held ∙
        ap₂ (λ (n q : ℕ). gives (take n (drop q m))) {x = l.size} {y = p + l.size - p} (omega arith) (sym f.place)

module _ (l : Layout) (x y first : ℕ) (given before : List ℕ) where
  wrote :
      (t : Told) (after : List ℕ) → write_of l x y first given before ≡ t → after ≡ memory_after t l x y first given before →
      Wrote l x y first given t before after
  wrote t after w r =
      record { answer = sym w; memory = r ∙ ap (λ (u : Told). memory_after u l x y first given before) (sym w) }

  pub write_refused : (k : ℕ) → find_of l x y first (length before) ≡ refuses k → Wrote l x y first given (refuses k) before before
  unfolding write_of memory_after
  write_refused k told =
      wrote (refuses k) before (not_found l x y first (length before) k _ _ (λ h. and_right _ _ h) told) refl

  module _ (p : ℕ) (told : find_of l x y first (length before) ≡ gives (p ∷ [])) where
    pub write_unfit : (length given ≡ l.size → ⊥) → Wrote l x y first given (refuses 11) before before
    unfolding write_of memory_after
    write_unfit other =
        let f = found l x y first (length before) p told in
        wrote (refuses 11) before (f.unfit _ _ (and_no_left _ (ne_eqb _ _ other))) refl

    pub write_done :
        (last : List ℕ) → length given ≡ l.size → last ≡ given →
        Wrote l x y first given (gives []) before (take p before ++ (last ++ post_of p (p + l.size - p) before))
    unfolding write_of memory_after
    write_done last size same =
        let f = found l x y first (length before) p told in
        wrote (gives []) _ (f.told _ _ (and_intro (eq-eqb _ _ size) f.held))
        (put_back before given last p (p + l.size) same (ap (λ (n : ℕ). p + n) (sym size)) ∙
        ap (λ (a : ℕ). overwritten a given before) f.place)
