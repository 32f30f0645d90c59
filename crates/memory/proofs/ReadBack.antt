-- A read after a write: the bytes given at that pair, and at every other pair what stood there before, since two pairs of a
-- window never share a byte. Assumes nothing.
use mathlib.Core.Path.{◌≡◌, sym, ap, ◌∙◌, subst}
use mathlib.Core.Bool.{true}
use mathlib.Core.List.{List, []}
use mathlib.Core.Logic.{◌⊎◌, inl, inr}
use Prim.Native.Nat.{ℕ, ◌+◌, ◌-◌, ◌<◌, ◌≤◌}
use native.Mathlib.Omega.{arith}
use lib.Dec.{leb, eqb}
use lib.ListN.{length, take, drop}
use borrow.Author.Tests.{eqb-true, leb-true, leb-false}
use Rattle.laws.specs.Choice.{◌and◌}
use Rattle.laws.proofs.Choice.{and_right, and_no_left, Tested, tested, holds, fails}
use Rattle.refusal.specs.Told.{Told, gives}
use Rattle.layout.specs.declared.Layout.{Layout}
use Rattle.address.specs.Address.{if_accepted, inside, address_of}
use Rattle.address.specs.Inverse.{Accepted, Inside}
use Rattle.address.proofs.Inverse.{inverse}
use Rattle.memory.specs.Elements.{held_at, bytes_at, element_of, in_order, read_of, write_of, overwritten, memory_after, Wrote}
use Rattle.memory.specs.Reads.{ReadBack}
use Rattle.memory.proofs.Pairs.{told_apart, is_inside}
use Rattle.memory.proofs.Places.{Held, is_held_lem, asked, Course, course, serves, denies}
use Rattle.memory.proofs.Overwritten.{length_overwritten, part_overwritten, before_overwritten, after_overwritten}

-- what a write that was done shows
pub record Done (l : Layout) (x y first : ℕ) (given before : List ℕ) : Type 0 where
  pub accepted : Accepted l
  pub pair : Inside l x y
  pub test : held_at l x y first (length before) ≡ true
  pub held : Held first (length before) (address_of l x y) l.size
  pub size : length given ≡ l.size
  pub told : (answer : Told) → asked l x y first (length before) (held_at l x y first (length before)) answer ≡ answer

pub done :
    (l : Layout) (x y first : ℕ) (given before : List ℕ) → write_of l x y first given before ≡ gives [] →
    Done l x y first given before
unfolding write_of
done l x y first given before told = go (course l x y first (length before)) (tested (eqb (length given) l.size))
  where
    go : Course l x y first (length before) → Tested (eqb (length given) l.size) → Done l x y first given before
    go (serves accepted i h same unfit) (holds e) =
        record {
          accepted = accepted;
          pair = is_inside l x y i;
          test = h;
          held = is_held_lem first (length before) (address_of l x y) l.size h;
          size = eqb-true _ _ e;
          told = λ answer. same _ answer h;
        }
    go (serves accepted i h same unfit) (fails e) = absurd (told_apart (sym told ∙ unfit _ _ (and_no_left _ e)))
    go (denies k same) e = absurd (told_apart (sym told ∙ same _ _ (λ u. and_right _ _ u)))

module _ (l : Layout) (x y x' y' : ℕ) where
  abbrev a : ℕ
  a = address_of l x y

  abbrev b : ℕ
  b = address_of l x' y'

  -- the elements of two pairs lie apart
  apart :
      Accepted l → Inside l x y → Inside l x' y' → ((x ≡ x') × (y ≡ y') → ⊥) → (a + l.size ≤ b) ⊎ (b + l.size ≤ a)
  apart accepted i i' other = go (tested (leb (a + l.size) b)) (tested (leb (b + l.size) a)) (tested (leb a b))
    where
      go : Tested (leb (a + l.size) b) → Tested (leb (b + l.size) a) → Tested (leb a b) → (a + l.size ≤ b) ⊎ (b + l.size ≤ a)
      go (holds e) f g = inl (leb-true _ _ e)
      go (fails e) (holds f) g = inr (leb-true _ _ f)
      go (fails e) (fails f) (holds g) =
          let u : b < a + l.size = leb-false (a + l.size) b e in
          let w : a ≤ b = leb-true a b g in
          let same =
          (inverse l accepted).apart b x y (b - a) x' y' 0
          (record { pair = i; below = omega arith; byte = omega arith })
          (record { pair = i'; below = omega arith; byte = omega arith }) in
          absurd (other (same.0, same.1))
      go (fails e) (fails f) (fails g) =
          let u : a < b + l.size = leb-false (b + l.size) a f in
          let w : b < a = leb-false a b g in
          let same =
          (inverse l accepted).apart a x y 0 x' y' (a - b)
          (record { pair = i; below = omega arith; byte = omega arith })
          (record { pair = i'; below = omega arith; byte = omega arith }) in
          absurd (other (same.0, same.1))

module _ (l : Layout) (x y first : ℕ) (given before : List ℕ) (d : Done l x y first given before) where
  p : ℕ
  p = address_of l x y - first

  fits : p + length given ≤ length before
  unfolding p
  fits = omega (arith, d.size, d.held.low, d.held.whole)

  after : List ℕ
  after = overwritten p given before

  same_length : length after ≡ length before
  unfolding after
  same_length = length_overwritten p given before fits

  -- a read of memory as it is now asks for the same bytes
  reads :
      (x' y' : ℕ) →
      read_of l x' y' first after ≡
      asked l x' y' first (length before) (held_at l x' y' first (length before)) (gives (element_of l x' y' first after))
  unfolding read_of
  reads x' y' =
      ap (λ (n : ℕ). if_accepted l (in_order (inside l x' y') (held_at l x' y' first n) (gives (element_of l x' y' first after)))) same_length

  own_bytes : element_of l x y first after ≡ given
  unfolding bytes_at after p
  own_bytes = ap (λ (n : ℕ). take n (drop p after)) (sym d.size) ∙ part_overwritten p given before fits

  own : read_of l x y first after ≡ gives given
  own = reads x y ∙ d.told _ ∙ ap gives own_bytes

  unchanged :
      (x' y' : ℕ) → Inside l x' y' → Held first (length before) (address_of l x' y') l.size → ((x ≡ x') × (y ≡ y') → ⊥) →
      element_of l x' y' first after ≡ element_of l x' y' first before
  unfolding bytes_at after p
  unchanged x' y' i' held' other = go (apart l x y x' y' d.accepted d.pair i' other)
    where
      go :
          (address_of l x y + l.size ≤ address_of l x' y') ⊎ (address_of l x' y' + l.size ≤ address_of l x y) →
          take l.size (drop (address_of l x' y' - first) after) ≡ take l.size (drop (address_of l x' y' - first) before)
      go (inl e) =
          after_overwritten p given before fits (address_of l x' y' - first) l.size
          (omega (arith, d.size, d.held.low, held'.low))
      go (inr e) =
          before_overwritten p given before fits (address_of l x' y' - first) l.size
          (omega (arith, d.size, d.held.low, held'.low))

  others : (x' y' : ℕ) → ((x ≡ x') × (y ≡ y') → ⊥) → read_of l x' y' first after ≡ read_of l x' y' first before
  unfolding read_of
  others x' y' other = reads x' y' ∙ go (course l x' y' first (length before))
    where
      go :
          Course l x' y' first (length before) →
          asked l x' y' first (length before) (held_at l x' y' first (length before)) (gives (element_of l x' y' first after)) ≡
          asked l x' y' first (length before) (held_at l x' y' first (length before)) (gives (element_of l x' y' first before))
      go (serves accepted i h same unfit) =
          same _ _ h ∙
          ap gives (unchanged x' y' (is_inside l x' y' i) (is_held_lem first (length before) (address_of l x' y') l.size h) other) ∙
          sym (same _ _ h)
      go (denies k same) = same _ _ (λ h. h) ∙ sym (same _ _ (λ h. h))

-- after a write that was done
pub read_back :
    (l : Layout) (x y first : ℕ) (given before now : List ℕ) → Wrote l x y first given (gives []) before now →
    ReadBack l x y first given before now
unfolding memory_after after p
read_back l x y first given before now w =
    let d = done l x y first given before (sym w.answer) in
    let e : now ≡ after l x y first given before d =
    w.memory ∙ ap (λ (t : Told). memory_after t l x y first given before) (sym w.answer) in
    subst (ReadBack l x y first given before) (sym e)
    (record { own = own l x y first given before d; others = others l x y first given before d })
