-- Demand 3: every accepted layout has an exact inverse. Assumes nothing.
use Rattle.std.proofs.Common.{◌≡◌, ℕ, ◌+◌, ◌-◌, ◌*◌, ◌/◌, ◌^◌, ◌<◌, ◌≤◌, Bool, true, false, ltb, leb, List, [], ◌∷◌, sym, refl, ap, ◌∙◌, subst, arith, ltb-false, ltb-true, lt-ltb, le-leb, leb-false, leb-true}
use mathlib.Core.Path.{subst₃}
use borrow.Author.Tests.{lt-leb}
use Rattle.laws.specs.Choice.{◌and◌, pick}
use Rattle.laws.proofs.Choice.{pick_yes, pick_no, and_intro, Tested, tested, holds, fails}
use Rattle.refusal.specs.Told.{Told, gives, refuses}
use Rattle.layout.specs.Layout.{well_formed, row_step, span_of, window_rule}
use Rattle.layout.specs.declared.Layout.{Layout}
use Rattle.layout.proofs.Window.{form_size, rule_bounds, rule_room, step_whole}
use Rattle.address.specs.Offset.{offset_of, x_of, y_of, byte_place}
use Rattle.address.specs.Address.{step_of, if_accepted, inside, address_of, run_of, translate_of, back_of, locate_of}
use Rattle.address.specs.Inverse.{Accepted, Inside, Owns, Inverse}
use Rattle.address.proofs.Windows as windows
use Rattle.address.proofs.Windows.{Grid}

module _ (l : Layout) (accepted : Accepted l) where
  abbrev base : ℕ
  base = l.base.0

  abbrev s : ℕ
  s = l.size

  abbrev e : ℕ
  e = step_of l

  abbrev found_x : ℕ → ℕ
  found_x o = x_of l.tiled s e o

  abbrev found_y : ℕ → ℕ
  found_y o = y_of l.tiled s e o

  size : Rattle.layout.specs.Sizes.is_size s ≡ true
  size = form_size base l.pitch s accepted.form

  pub grid : Grid l.tiled s e
  grid =
      record {
        size = size;
        step = (rule_bounds base l.tiled s e l.height accepted.window).step_least;
        whole = step_whole l.tiled s l.pitch size;
      }

  pub room : base + span_of l.tiled s e l.height ≤ 2 ^ 32
  room = rule_room base l.tiled s e l.height accepted.window

  pub answered : (answer : Told) → if_accepted l answer ≡ answer
  unfolding if_accepted
  answered answer = pick_yes _ _ accepted.form ∙ pick_yes _ _ accepted.window

  there : (x y : ℕ) → Inside l x y → translate_of l x y ≡ gives (address_of l x y ∷ run_of l x y ∷ [])
  unfolding translate_of inside
  there x y i = answered _ ∙ pick_yes _ _ (and_intro (lt-ltb _ _ i.column) (lt-ltb _ _ i.row))

  within :
      (x y : ℕ) → Inside l x y →
      (base ≤ address_of l x y) × (address_of l x y + s ≤ base + span_of l.tiled s e l.height) ×
      (address_of l x y + s ≤ 2 ^ 32)
  unfolding address_of
  within x y i = omega (arith, room, windows.within l.tiled s e l.height x y grid i.column i.row)

  pub from_base : (o : ℕ) → locate_of l (base + o) ≡ back_of l o
  unfolding locate_of
  from_base o =
      answered _ ∙ pick_yes _ _ (le-leb base (base + o) (omega arith)) ∙
      ap (back_of l) {x = base + o - base} {y = o} (omega arith)

  pub below_base : (a : ℕ) → a < base → locate_of l a ≡ refuses 12
  unfolding locate_of
  below_base a k = answered _ ∙ pick_no _ _ (lt-leb base a k)

  -- the byte k of a pair's element, counted from the base, leads back to the pair and to k
  leads_back :
      (x y k : ℕ) → Inside l x y → k < s → back_of l (offset_of l.tiled s e x y + k) ≡ gives (x ∷ y ∷ k ∷ [])
  unfolding back_of
  leads_back x y k i hk =
      rw (
        windows.there_x l.tiled s e x y k grid i.column hk,
        windows.there_y l.tiled s e x y k grid i.column hk,
        windows.there_place l.tiled s e x y k grid i.column hk,
      )
      (pick_yes _ _ (lt-ltb _ _ i.row))

  back : (a x y place : ℕ) → Owns l a x y place → locate_of l a ≡ gives (x ∷ y ∷ place ∷ [])
  unfolding address_of
  back a x y k own =
      ap (locate_of l) {y = base + (offset_of l.tiled s e x y + k)} (omega (arith, own.byte)) ∙ from_base _ ∙
      leads_back x y k own.pair own.below

  -- the way back finds an owner of the byte, or answers 12
  data Found (a : ℕ) : Type 0 where
    owned : (x y place : ℕ) → Owns l a x y place → locate_of l a ≡ gives (x ∷ y ∷ place ∷ []) → Found a
    nobody : locate_of l a ≡ refuses 12 → Found a

  owner : (o : ℕ) → found_y o < l.height → Owns l (base + o) (found_x o) (found_y o) (byte_place s o)
  unfolding address_of
  owner o k =
      record {
        pair = record { column = windows.back_column l.tiled s e o grid; row = k };
        below = windows.back_place s o size;
        byte = omega (arith, windows.back l.tiled s e o grid);
      }

  from : (o : ℕ) → Found (base + o)
  unfolding back_of
  from o = go (tested (ltb (found_y o) l.height))
    where
      go : Tested (ltb (found_y o) l.height) → Found (base + o)
      go (holds k) = owned _ _ _ (owner o (ltb-true _ _ k)) (from_base o ∙ pick_yes _ _ k)
      go (fails k) = nobody (from_base o ∙ pick_no _ _ k)

  find : (a : ℕ) → Found a
  find a = go (tested (leb base a))
    where
      go : Tested (leb base a) → Found a
      go (holds k) = subst Found {x = base + (a - base)} {y = a} (omega (arith, leb-true base a k)) (from (a - base))
      go (fails k) = nobody (below_base a (leb-false base a k))

  same_told :
      {x y k x' y' k' : ℕ} → gives (x ∷ y ∷ k ∷ []) ≡ gives (x' ∷ y' ∷ k' ∷ []) → (x ≡ x') × (y ≡ y') × (k ≡ k')
  same_told h = (cc, cc, cc)

  told_apart : {v : List ℕ} {n : ℕ} → gives v ≡ refuses n → ⊥
  told_apart h = let z : ◌≡◌ {A = ℕ} 0 1 = cc in omega arith

  found : (a x y place : ℕ) → locate_of l a ≡ gives (x ∷ y ∷ place ∷ []) → Owns l a x y place
  found a x y k told = go (find a)
    where
      go : Found a → Owns l a x y k
      go (owned x' y' k' own told') =
          let same = same_told (sym told' ∙ told) in subst₃ (Owns l a) same.0 same.1 same.2 own
      go (nobody told') = absurd (told_apart (sym told ∙ told'))

  refused : (a : ℕ) → ((x y place : ℕ) → Owns l a x y place → ⊥) → locate_of l a ≡ refuses 12
  refused a none = go (find a)
    where
      go : Found a → locate_of l a ≡ refuses 12
      go (owned x y k own told) = absurd (none x y k own)
      go (nobody told) = told

  unowned : (a n : ℕ) → locate_of l a ≡ refuses n → (n ≡ 12) × ((x y place : ℕ) → Owns l a x y place → ⊥)
  unowned a n told = (go (find a), λ x y k own. told_apart (sym (back a x y k own) ∙ told))
    where
      go : Found a → n ≡ 12
      go (owned x y k own told') = absurd (told_apart (sym told' ∙ told))
      go (nobody told') = cc

  apart :
      (a x y place x' y' place' : ℕ) → Owns l a x y place → Owns l a x' y' place' → (x ≡ x') × (y ≡ y') × (place ≡ place')
  apart a x y k x' y' k' own own' = same_told (sym (back a x y k own) ∙ back a x' y' k' own')

  pub inverse : Inverse l
  inverse =
      record {
        there = there;
        within = within;
        back = back;
        found = found;
        refused = refused;
        unowned = unowned;
        apart = apart;
      }
