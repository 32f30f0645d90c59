-- What the entries leave, return by return. Assumes nothing.
use mathlib.Core.Path.{◌≡◌, refl, sym, ap, ◌∙◌, subst}
use mathlib.Core.Bool.{Bool, true, false}
use mathlib.Core.Logic.{◌⊎◌, inl, inr}
use mathlib.Core.List.{List, [], ◌∷◌, ◌++◌}
use Prim.Native.Nat.{ℕ, zero, suc, ◌+◌, ◌-◌, ◌*◌, ◌/◌, ◌<◌, ◌≤◌}
use native.Mathlib.Omega.{arith}
use lib.Dec.{ltb}
use lib.ListN.{length}
use Rattle.laws.specs.Choice.{pick}
use Rattle.laws.proofs.Choice.{pick_yes, pick_no}
use Rattle.refusal.specs.Told.{Told, gives, refuses}
use Rattle.refusal.specs.Crossing.{Crosses, status_of}
use Rattle.refusal.proofs.Crossings.{crosses_gives, crosses_refuses}
use Rattle.layout.specs.declared.Layout.{Layout}
use Rattle.layout.proofs.Window.{form_size}
use Rattle.address.specs.Address.{step_of, if_accepted, address_of}
use Rattle.address.proofs.Inverse.{answered}
use Rattle.address_rows.specs.Rows.{listed, element_at, RowAsked}
use Rattle.address_rows.proofs.Asked.{positive, row_asked, row_left}
use Rattle.picture.specs.Picture.{Scene, rows_from, laid}
use Rattle.rectangles.specs.Moves.{moved, element_place}
use Rattle.rectangles.specs.Rows.{rect_moves}
use Rattle.rectangles.specs.Bulk.{all_within, RectLent}
use Rattle.rectangles.specs.Rectangles.{scene_of, row_reads, reads_of}
use Rattle.rectangles.proofs.Inside.{corners}
use Rattle.rectangles.proofs.Pictures.{painted_in, copied_out}
use Rattle.rectangles.proofs.Rectangles.{place_in}
use Rattle.picture_rooms.specs.Rooms.{all_inside, if_lent, rectangle_of, painted_after, PaintCrosses, copy_of, row_of}
use Rattle.picture_rooms.proofs.Judging.{Fine, goes_so, stays_so, Taken, inside_is, copy_asked, no_spots}

-- a list of no length
nothing_in : (room : List ℕ) → length room < 1 → room ≡ []
nothing_in [] small = refl
nothing_in (a ∷ room) small = absurd (omega (arith, small))

no_rows : (c : Scene) (first x w y h : ℕ) (m : List ℕ) → (w ≡ 0) ⊎ (h ≡ 0) → laid c first (rows_from 0 x w y h) m ≡ m
unfolding laid
no_rows c first x w y zero m none = refl
no_rows c first x zero y (suc h) m none = no_rows c first x zero (suc y) h m (inl refl)
no_rows c first x (suc w) y (suc h) m (inl e) = absurd (let z : suc w ≡ 0 = e in omega (arith, z))
no_rows c first x (suc w) y (suc h) m (inr e) = absurd (let z : suc h ≡ 0 = e in omega (arith, z))

no_reads : (l : Layout) (x y w h first : ℕ) (m : List ℕ) → (w ≡ 0) ⊎ (h ≡ 0) → reads_of l x y w h first m ≡ []
unfolding reads_of
no_reads l x y w zero first m none = refl
no_reads l x y zero (suc h) first m none = no_reads l x (suc y) zero h first m (inl refl)
no_reads l x y (suc w) (suc h) first m (inl e) = absurd (let z : suc w ≡ 0 = e in omega (arith, z))
no_reads l x y (suc w) (suc h) first m (inr e) = absurd (let z : suc h ≡ 0 = e in omega (arith, z))

module _ (l : Layout) (x y w h first : ℕ) (room m : List ℕ) (r : ℕ) (told : r ≡ status_of (rectangle_of l x y w h first (length room) (length m))) where
  abbrev wanted : List ℕ → Told → List ℕ
  wanted after t = painted_after t l x y w h first room m

  pub paint_refused : (r ≡ 0 → ⊥) → PaintCrosses l x y w h first room r m m
  unfolding painted_after
  paint_refused some =
      record {
        status = told;
        memory = sym (ap (wanted m) ((stays_so l x y w h first (length room) (length m) r told some).answers (gives [])));
      }

  module _ (zero : r ≡ 0) where
    fine : Fine l x y w h first (length room) (length m)
    fine = goes_so l x y w h first (length room) (length m) r told zero

    pub paint_done :
        (m' : List ℕ) → m' ≡ moved (rect_moves false (element_place l.tiled l.size (step_of l) (l.base.0 - first)) l.size x w 0 y h) room m →
        PaintCrosses l x y w h first room 0 m m'
    unfolding painted_after
    paint_done m' e =
        record {
          status = sym zero ∙ told;
          memory = e ∙ painted_in l first fine.low x y w room h m ∙ sym (ap (wanted m') (fine.answers (gives [])));
        }

    pub paint_empty : length room < 1 → PaintCrosses l x y w h first room 0 m m
    unfolding painted_after
    paint_empty small =
        record {
          status = sym zero ∙ told;
          memory =
              sym (no_rows (scene_of l x y w room) first x w y h m none) ∙ sym (ap (wanted m) (fine.answers (gives [])));
        }
      where
        none : (w ≡ 0) ⊎ (h ≡ 0)
        none = no_spots w h l.size (length room) fine.bytes small (positive l.size (form_size l.base.0 l.pitch l.size fine.accepted.form))

module _ (l : Layout) (x y w h first : ℕ) (room m : List ℕ) (r : ℕ) (told : r ≡ status_of (rectangle_of l x y w h first (length room) (length m))) where
  pub copy_refused : (r ≡ 0 → ⊥) → Crosses (copy_of l x y w h first (length room) m) r room room
  copy_refused some = crosses_refuses _ r r room refl ((stays_so l x y w h first (length room) (length m) r told some).answers _)

  module _ (zero : r ≡ 0) where
    fine' : Fine l x y w h first (length room) (length m)
    fine' = goes_so l x y w h first (length room) (length m) r told zero

    pub copy_done :
        0 < length room → (room' : List ℕ) →
        room' ≡ moved (rect_moves true (element_place l.tiled l.size (step_of l) (l.base.0 - first)) l.size x w 0 y h) m room →
        Crosses (copy_of l x y w h first (length room) m) 0 room room'
    copy_done some room' e =
        subst (Crosses (copy_of l x y w h first (length room) m) 0 room)
        (sym (e ∙ copied_out l first fine'.low m x y w h room (λ j i hj hi. place_in true l x y w h first (length m) (length room) (step_of l) asked refl j hj i hi) asked.room))
        (crosses_gives _ _ room (fine'.answers _))
      where
        asked : RectLent true l x y w h first (length m) (length room)
        asked = copy_asked l x y w h first (length room) (length m) fine' some

    pub copy_empty : length room < 1 → Crosses (copy_of l x y w h first (length room) m) 0 room room
    copy_empty small =
        subst (Crosses (copy_of l x y w h first (length room) m) 0 room) (no_reads l x y w h first m none ∙ sym (nothing_in room small))
        (crosses_gives _ _ room (fine'.answers _))
      where
        none : (w ≡ 0) ⊎ (h ≡ 0)
        none = no_spots w h l.size (length room) fine'.bytes small (positive l.size (form_size l.base.0 l.pitch l.size fine'.accepted.form))

module _ (l : Layout) (step span : ℕ) (taken : Taken l step span) (x y : ℕ) (room : List ℕ) where
  pub row_outside : all_within step l.height x y (length room) 1 ≡ false → Crosses (row_of l x y (length room)) 10 room room
  row_outside out =
      crosses_refuses _ 10 10 room refl
      (answered l taken.accepted _ ∙ pick_no _ _ (sym (inside_is l step x y (length room) 1 taken.step_is) ∙ out))

  module _ (all : all_within step l.height x y (length room) 1 ≡ true) where
    given : row_of l x y (length room) ≡ gives (listed (λ i. address_of l (x + i) y) 0 (length room))
    given = answered l taken.accepted _ ∙ pick_yes _ _ (sym (inside_is l step x y (length room) 1 taken.step_is) ∙ all)

    pub row_empty : length room < 1 → Crosses (row_of l x y (length room)) 0 room room
    row_empty small =
        subst (Crosses (row_of l x y (length room)) 0 room)
        (ap (λ (q : List ℕ). listed (λ i. address_of l (x + i) y) 0 (length q)) (nothing_in room small) ∙ sym (nothing_in room small))
        (crosses_gives _ _ room given)

    pub asks : 0 < length room → RowAsked l.base.0 l.size l.tiled (step * l.size) x y (length room)
    asks some =
        let c = corners step l.height x y (length room) 1 some (omega arith) all in
        row_asked l taken.accepted step taken.step_is x y (length room) (omega (arith, c.0, taken.step_is)) (omega (arith, c.1))

    pub row_done :
        (room' : List ℕ) →
        room' ≡ listed (element_at l.base.0 l.size l.tiled (step * l.size / l.size) x y) 0 (length room) →
        Crosses (row_of l x y (length room)) 0 room room'
    row_done room' e =
        subst (Crosses (row_of l x y (length room)) 0 room)
        (sym (row_left l taken.accepted step taken.step_is x y (length room) room' e))
        (crosses_gives _ _ room given)
