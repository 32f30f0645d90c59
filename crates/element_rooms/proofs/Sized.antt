-- Reads and writes by the number of a translation: each return as a law. Assumes nothing.
use mathlib.Core.Path.{◌≡◌, sym, ap, ◌∙◌, subst}
use mathlib.Core.Bool.{Bool}
use mathlib.Core.List.{List, [], ◌∷◌}
use Prim.Native.Nat.{ℕ, ◌+◌, ◌-◌, ◌%◌, ◌^◌, ◌<◌, ◌≤◌}
use lib.ListN.{length, take, drop, replicate, length-replicate}
use native.Mathlib.Omega.{arith}
use Rattle.refusal.specs.Told.{Told, gives, refuses}
use Rattle.refusal.specs.Crossing.{Crosses, status_of}
use Rattle.refusal.proofs.Crossings.{crosses_gives, crosses_refuses}
use Rattle.layout.specs.declared.Layout.{Layout}
use Rattle.laws.proofs.Table.{NoneOf}
use Rattle.layout.specs.Sizes.{sizes}
use Rattle.address.specs.Address.{layout_of, translate_of, told_number, refused_as}
use Rattle.address.proofs.Answers.{told_address, told_refusal, sizeless}
use borrow.Rule.Slice.PartMut.{mid_len}
use Rattle.memory.specs.Answers.{PutAsked}
use Rattle.memory.specs.Elements.{read_of, find_of, start_of, overwritten, Wrote}
use Rattle.memory.proofs.Places.{find_refused, find_started, found}
use Rattle.memory.proofs.Calls.{read_refused, read_found, small_element, ends_inside}
use Rattle.memory.proofs.Copies.{reading_of_one}
use Rattle.memory.proofs.Overwritten.{part_overwritten}
use Rattle.element_rooms.specs.Rooms.{in_sixteen, WriteCrosses}

-- where the element begins, by the number of its translation
module _ (l : Layout) (x y first n number : ℕ) (told : told_number number ≡ translate_of l x y) where
  pub refused_number : 2 ^ 63 ≤ number → find_of l x y first n ≡ refuses (number - 2 ^ 63)
  refused_number h = find_refused l x y first n _ (sym told ∙ told_refusal number h)

  pub started : number < 2 ^ 63 → (t : Told) → t ≡ start_of (number % 2 ^ 32) l.size first n → find_of l x y first n ≡ t
  started h t e = sym (find_started l x y first n _ _ t (sym told ∙ told_address number h) e)

-- a read, by what the place tells
module _ (l : Layout) (x y first : ℕ) (m bytes : List ℕ) where
  pub read_no : (k r : ℕ) → find_of l x y first (length m) ≡ refuses k → r ≡ k → Crosses (in_sixteen (read_of l x y first m)) r bytes bytes
  read_no k r told same = crosses_refuses _ r k bytes same (ap in_sixteen (read_refused l x y first m k told))

  pub read_yes : (p : ℕ) → find_of l x y first (length m) ≡ gives (p ∷ []) → (b : List ℕ) →
      b ≡ overwritten 0 (take (p + l.size - p) (drop p m)) (replicate 16 0) → Crosses (in_sixteen (read_of l x y first m)) 0 bytes b
  read_yes p told b is =
      crosses_gives _ b bytes
      (ap in_sixteen (read_found l x y first m p told) ∙
      ap gives (sym (reading_of_one _ b (small_element l x y first m p told) is).bytes))

-- the part that is copied, of a place that is found
module _ (l : Layout) (x y first : ℕ) (m : List ℕ) (p : ℕ) (told : find_of l x y first (length m) ≡ gives (p ∷ [])) where
  abbrev part : List ℕ
  part = take (p + l.size - p) (drop p m)

  part_length : length part ≡ l.size
  part_length = mid_len p (p + l.size) m (ends_inside l x y first (length m) p told) ∙ (omega arith)

  pub put_asked : PutAsked (replicate 16 0) 0 part × (l.size ≡ length part)
  put_asked = (
    record {
      whole = length-replicate {A = ℕ} 16 0;
      room = let small : length part ≤ 16 = small_element l x y first m p told in omega arith;
    },
    sym part_length,
  )

  pub store_asked : (given : List ℕ) → length given ≡ l.size → (length part ≡ length given) × ((l.size ≡ length given) × (l.size ≤ 16))
  store_asked given e = (part_length ∙ sym e, (sym e, (found l x y first (length m) p told).size))

-- a write crosses as it was told
pub write_crosses : {l : Layout} {x y first : ℕ} {given before after : List ℕ} {t : Told} (r : ℕ) → r ≡ status_of t →
    Wrote l x y first given t before after → WriteCrosses l x y first given r before after
write_crosses r same w = record { status = same ∙ ap status_of w.answer; memory = w.memory }

-- given bytes that are put in front of zeros are taken again
pub taken_again : (g b : List ℕ) (n : ℕ) → b ≡ overwritten 0 g (replicate 16 0) → n ≡ length g → n ≤ 16 → take (n - 0) (drop 0 b) ≡ g
taken_again g b n is counted few =
    let clear : List ℕ = replicate 16 0 in
    let sixteen : length clear ≡ 16 = length-replicate {A = ℕ} 16 0 in
    let fits : 0 + length g ≤ length clear = omega arith in
    let same : n - 0 ≡ length g = omega arith in
    rw (is, same) (part_overwritten 0 g clear fits)

-- a size that no arm names
pub unsized : (base pitch height s : ℕ) (tiled : Bool) (x y first n : ℕ) → NoneOf Unit sizes s →
    find_of (layout_of base pitch height s tiled) x y first n ≡ refuses 3
unsized base pitch height s tiled x y first n none =
    refused_number (layout_of base pitch height s tiled) x y first n (refused_as 3) (sizeless base pitch height s tiled x y none) (omega arith) ∙
    ap refuses {x = 2 ^ 63 + 3 - 2 ^ 63} (omega arith)

-- a size that an arm names
module _ (base pitch height : ℕ) (tiled : Bool) (x y first : ℕ) where
  pub read_at : (s k r : ℕ) (m bytes bytes' : List ℕ) → s ≡ k →
      Crosses (in_sixteen (read_of (layout_of base pitch height k tiled) x y first m)) r bytes bytes' →
      Crosses (in_sixteen (read_of (layout_of base pitch height s tiled) x y first m)) r bytes bytes'
  read_at s k r m bytes bytes' e c =
      subst (λ (n : ℕ). Crosses (in_sixteen (read_of (layout_of base pitch height n tiled) x y first m)) r bytes bytes') (sym e) c

  pub write_at_lem : (s k : ℕ) {given before after : List ℕ} {r : ℕ} → s ≡ k →
      WriteCrosses (layout_of base pitch height k tiled) x y first given r before after →
      WriteCrosses (layout_of base pitch height s tiled) x y first given r before after
  write_at_lem s k {given} {before} {after} {r} e c =
      subst (λ (n : ℕ). WriteCrosses (layout_of base pitch height n tiled) x y first given r before after) (sym e) c
