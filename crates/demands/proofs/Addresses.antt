-- Demand 3 over calls: a layout is accepted where egretfold_layout answers 0, the bytes of the element that egretfold_translate answers lead back by
-- egretfold_locate, what that finds leads there again, and it answers 12 just where the byte is nobody's. Assumes nothing.
use mathlib.Core.Path.{◌≡◌, refl, sym, ap, ◌∙◌, subst}
use mathlib.Core.Bool.{Bool, true, false}
use mathlib.Core.List.{List, [], ◌∷◌}
use Prim.Native.Nat.{ℕ, ◌+◌, ◌-◌, ◌<◌, ◌≤◌}
use native.Mathlib.Omega.{arith}
use lib.Dec.{leb, ltb}
use lib.ListN.{get_or}
use borrow.Author.Tests.{ltb-true}
use Rattle.laws.proofs.Choice.{Tested, holds, fails, tested, pick_yes, pick_no, and_left, and_right}
use Rattle.refusal.specs.Told.{Told, gives, refuses}
use Rattle.refusal.specs.Crossing.{Crosses, status_of, room_of}
use Rattle.layout.specs.Layout.{well_formed, span_of, window_rule, judge_of}
use Rattle.layout.specs.declared.Layout.{Layout}
use Rattle.address.specs.Offset.{x_of, y_of, byte_place}
use Rattle.address.specs.Address.{step_of, layout_of, if_accepted, inside, address_of, run_of, translate_of, back_of, locate_of}
use Rattle.address.specs.Inverse.{Accepted, Inside, Owns, Inverse}
use Rattle.address.proofs.Inverse.{inverse}
use Rattle.demands.specs.Addresses.{Nobodys, LeadsBack, LeadsThere}

-- a refusal's number isn't 0
above : (n : ℕ) → 1 ≤ n → n ≡ 0 → ⊥
above n h e = omega arith

-- what stands behind the layout's judgement
data Judged (l : Layout) : Told → Told → Type 0 where
  taken : {t : Told} → Accepted l → Judged l t t
  no_form : {t : Told} → Judged l t (refuses 3)
  no_window_lem : {t : Told} → Judged l t (refuses 6)

judged : (l : Layout) (t : Told) → Judged l t (if_accepted l t)
unfolding if_accepted
judged l t = by (tested (well_formed l.base.0 l.pitch l.size)) (tested (window_rule l.base.0 l.tiled l.size (step_of l) l.height))
  where
    by :
        Tested (well_formed l.base.0 l.pitch l.size) →
        Tested (window_rule l.base.0 l.tiled l.size (step_of l) l.height) → Judged l t (if_accepted l t)
    by (holds f) (holds w) =
        subst (Judged l t) (sym (unfold if_accepted in (pick_yes _ _ f ∙ pick_yes _ _ w))) (taken (record { form = f; window = w }))
    by (holds f) (fails w) = subst (Judged l t) (sym (unfold if_accepted in (pick_yes _ _ f ∙ pick_no _ _ w))) no_window_lem
    by (fails f) w = subst (Judged l t) (sym (unfold if_accepted in (pick_no _ _ f))) no_form

-- an answer behind it with status 0 is of an accepted layout
passed : {l : Layout} {t u : Told} → Judged l t u → status_of u ≡ 0 → Accepted l
passed (taken a) e = a
passed no_form e = absurd (above 3 (omega arith) e)
passed no_window_lem e = absurd (above 6 (omega arith) e)

-- "A layout .. is accepted when it gets neither 3 nor 6": where egretfold_layout answers 0
module _ (base pitch height size : ℕ) (tiled : Bool) {r : ℕ} {room room' : List ℕ} (c : Crosses (judge_of base pitch height size tiled) r room room') where
  abbrev l : Layout
  l = layout_of base pitch height size tiled

  as_judged : judge_of base pitch height size tiled ≡ if_accepted l (gives (step_of l ∷ span_of tiled size (step_of l) height ∷ []))
  unfolding judge_of if_accepted
  as_judged = refl

  pub accepted_when : r ≡ 0 → Accepted l
  accepted_when e = passed (judged l (gives (step_of l ∷ span_of tiled size (step_of l) height ∷ []))) (ap status_of (sym as_judged) ∙ sym c.status ∙ e)

  pub when_accepted : Accepted l → r ≡ 0
  unfolding judge_of
  when_accepted a = c.status ∙ ap status_of (pick_yes _ _ a.form ∙ pick_yes _ _ a.window)

-- a translation with status 0
record Went (l : Layout) (x y : ℕ) : Type 0 where
  accepted : Accepted l
  pair : Inside l x y

went : (l : Layout) (x y : ℕ) → status_of (translate_of l x y) ≡ 0 → Went l x y
unfolding translate_of
went l x y e =
    let a : Accepted l = passed (judged l _) e in
    record { accepted = a; pair = by a (tested (inside l x y)) }
  where
    outside : Accepted l → inside l x y ≡ false → translate_of l x y ≡ refuses 10
    outside a z = unfold translate_of if_accepted in (pick_yes _ _ a.form ∙ pick_yes _ _ a.window ∙ pick_no _ _ z)

    is_inside : inside l x y ≡ true → Inside l x y
    is_inside z = unfold inside in (record { column = ltb-true _ _ (and_left _ _ z); row = ltb-true _ _ (and_right _ _ z) })

    by : Accepted l → Tested (inside l x y) → Inside l x y
    by a (holds t) = is_inside t
    by a (fails t) = absurd (above 10 (omega arith) (ap status_of (sym (outside a t)) ∙ e))

-- "Every byte of that element leads back to that pair and to the byte's place in the element."
pub there_back :
    (l : Layout) (x y r : ℕ) (room room' : List ℕ) → Crosses (translate_of l x y) r room room' → r ≡ 0 → (place : ℕ) → place < l.size →
    (r' : ℕ) (back back' : List ℕ) → Crosses (locate_of l (get_or room' 0 0 + place)) r' back back' → LeadsBack x y place r' back'
there_back l x y r room room' c e place h r' back back' d =
    let w = went l x y (sym c.status ∙ e) in
    let i : Inverse l = inverse l w.accepted in
    let at : get_or room' 0 0 ≡ address_of l x y = ap (λ (m : List ℕ). get_or m 0 0) (c.room ∙ ap (λ (t : Told). room_of t room) (i.there x y w.pair)) in
    let told : locate_of l (get_or room' 0 0 + place) ≡ gives (x ∷ y ∷ place ∷ []) =
    i.back (get_or room' 0 0 + place) x y place (record { pair = w.pair; below = h; byte = ap (λ (n : ℕ). n + place) at }) in
    record { answered = d.status ∙ ap status_of told; told = d.room ∙ ap (λ (t : Told). room_of t back) told }

-- a byte that is located
record Found (l : Layout) (a : ℕ) : Type 0 where
  accepted : Accepted l
  x : ℕ
  y : ℕ
  place : ℕ
  told : locate_of l a ≡ gives (x ∷ y ∷ place ∷ [])

module _ (l : Layout) (a : ℕ) (e : status_of (locate_of l a) ≡ 0) where
  here : Accepted l
  unfolding locate_of
  here = passed (judged l _) e

  behind : leb l.base.0 a ≡ true → locate_of l a ≡ back_of l (a - l.base.0)
  unfolding locate_of if_accepted
  behind t = pick_yes _ _ here.form ∙ pick_yes _ _ here.window ∙ pick_yes _ _ t

  below : leb l.base.0 a ≡ false → locate_of l a ≡ refuses 12
  unfolding locate_of if_accepted
  below t = pick_yes _ _ here.form ∙ pick_yes _ _ here.window ∙ pick_no _ _ t

  located : Found l a
  unfolding back_of
  located = by (tested (leb l.base.0 a)) (tested (ltb (y_of l.tiled l.size (step_of l) (a - l.base.0)) l.height))
    where
      by : Tested (leb l.base.0 a) → Tested (ltb (y_of l.tiled l.size (step_of l) (a - l.base.0)) l.height) → Found l a
      by (holds t) (holds u) =
          record {
            accepted = here;
            x = x_of l.tiled l.size (step_of l) (a - l.base.0);
            y = y_of l.tiled l.size (step_of l) (a - l.base.0);
            place = byte_place l.size (a - l.base.0);
            told = behind t ∙ pick_yes _ _ u;
          }
      by (holds t) (fails u) = absurd (above 12 (omega arith) (ap status_of (sym (behind t ∙ pick_no _ _ u)) ∙ e))
      by (fails t) u = absurd (above 12 (omega arith) (ap status_of (sym (below t)) ∙ e))

-- and what the way back finds owns the byte
pub back_there :
    (l : Layout) (a r : ℕ) (back back' : List ℕ) → Crosses (locate_of l a) r back back' → r ≡ 0 →
    (r' : ℕ) (room room' : List ℕ) → Crosses (translate_of l (get_or back' 0 0) (get_or back' 1 0)) r' room room' →
    LeadsThere l.size a back' r' room'
back_there l a r back back' c e r' room room' d =
    let f = located l a (sym c.status ∙ e) in
    let i : Inverse l = inverse l f.accepted in
    let own : Owns l a f.x f.y f.place = i.found a f.x f.y f.place f.told in
    let is : back' ≡ f.x ∷ f.y ∷ f.place ∷ [] = c.room ∙ ap (λ (t : Told). room_of t back) f.told in
    let told : translate_of l (get_or back' 0 0) (get_or back' 1 0) ≡ gives (address_of l f.x f.y ∷ run_of l f.x f.y ∷ []) =
    ap (λ (m : List ℕ). translate_of l (get_or m 0 0) (get_or m 1 0)) is ∙ i.there f.x f.y own.pair in
    let place : get_or back' 2 0 ≡ f.place = ap (λ (m : List ℕ). get_or m 2 0) is in
    let at : get_or room' 0 0 ≡ address_of l f.x f.y = ap (λ (m : List ℕ). get_or m 0 0) (d.room ∙ ap (λ (t : Told). room_of t room) told) in
    record {
      answered = d.status ∙ ap status_of told;
      below = omega (arith, own.below, place);
      byte = omega (arith, own.byte, place, at);
    }

-- "Given any address at all, the way back refuses exactly when no pair inside the window owns the byte there."
module _ (l : Layout) (k : Accepted l) (a r : ℕ) (back back' : List ℕ) (c : Crosses (locate_of l a) r back back') where
  pub nobody_refused : Nobodys l a → r ≡ 12
  nobody_refused n = c.status ∙ ap status_of ((inverse l k).refused a n)

  pub refused_nobody : r ≡ 12 → Nobodys l a
  refused_nobody e = by (locate_of l a) refl
    where
      by : (t : Told) → locate_of l a ≡ t → Nobodys l a
      by (gives v) q = absurd (above 12 (omega arith) (sym e ∙ c.status ∙ ap status_of q))
      by (refuses n) q = ((inverse l k).unowned a n q).1
