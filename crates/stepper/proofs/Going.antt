-- The cells as the code writes them, one by one: what was not written stands as it did. And how a group goes on by its way,
-- return by return. Assumes nothing.
use mathlib.Core.Path.{◌≡◌, refl, sym, ap, ◌∙◌, subst}
use mathlib.Core.Bool.{true}
use mathlib.Core.List.{List}
use Prim.Native.Nat.{ℕ, ◌<◌, ◌≤◌}
use native.Mathlib.Omega.{arith}
use lib.Dec.{leb}
use lib.ListN.{length, set, length-drop}
use borrow.Author.Tests.{le-leb, lt-leb}
use Rattle.std.specs.Prelude.{Result, Ok, Err}
use Rattle.refusal.specs.declared.Refusal.{Refusal}
use Rattle.refusal.specs.declared.Refusal.TheVariants.{AtLimit, PastEnd}
use Rattle.laws.proofs.Choice.{Tested, holds, fails, tested, pick_yes, pick_no}
use Rattle.group.specs.declared.planes.Branched.{Branched}
use Rattle.group.specs.Group.{Way, Goes, Stuck}
use Rattle.group.specs.Cells.{plane_in, position_in, return_in, group_of, placed_at, with_place, GroupGiven, CellsNamed}
use Rattle.group.specs.Masks.{OwnMasksIn, with_masks}
use Rattle.stepper.specs.Answers.{Stack, GoDone, gone_answer, gone_cells}
use Rattle.stepper.proofs.Words.{Went}

-- no answer is both made and refused
abbrev flag : {T : Type 0} → Result T Refusal → ℕ
flag (Ok x) = 0
flag (Err why) = 1

pub never : {T : Type 0} {r : Result T Refusal} {x : T} {why : Refusal} → r ≡ Ok x → r ≡ Err why → ⊥
never e f = let z : ◌≡◌ {A = ℕ} 0 1 = sym (ap flag e) ∙ ap flag f in absurd (omega arith)

-- the cells of the returns, as the code takes them
pub given_stack :
    (l : List ℕ) → GroupGiven l →
    Stack (group_of l).returns (return_in 0 l) (return_in 1 l) (return_in 2 l) (return_in 3 l)
given_stack l m =
    record {
      return0 = ap (return_in 0) m.whole;
      return1 = ap (return_in 1) m.whole;
      return2 = ap (return_in 2) m.whole;
      return3 = ap (return_in 3) m.whole;
      depth = m.sound.depth;
      slots = m.sound.slots;
    }

-- given cells are a group's
pub given_named : (l : List ℕ) → GroupGiven l → CellsNamed l
given_named l m =
    record {
      size = m.size;
      cells =
          m.whole ∙
          sym (ap (λ (x : List ℕ). placed_at x (position_in x) (return_in 0 x) (return_in 1 x) (return_in 2 x) (return_in 3 x)) m.whole);
    }

-- what is written, cell by cell
module _ (l : List ℕ) (s : CellsNamed l) where
  pub masks_cells :
      (w : Branched) →
      set (set (set (set (set (set l 1 w.active) 2 w.p0) 3 w.p1) 4 w.p2) 5 w.p3) 6 w.p4 ≡ with_masks l w
  masks_cells w =
      ap (λ (x : List ℕ). set (set (set (set (set (set x 1 w.active) 2 w.p0) 3 w.p1) 4 w.p2) 5 w.p3) 6 w.p4) s.cells

  pub active_cell :
      (active : ℕ) {w : Branched} →
      record { active = active; p0 = plane_in 0 l; p1 = plane_in 1 l; p2 = plane_in 2 l; p3 = plane_in 3 l; p4 = plane_in 4 l } ≡ w →
      set l 1 active ≡ with_masks l w
  active_cell active e = ap (λ (x : List ℕ). set x 1 active) s.cells ∙ ap (with_masks l) e

  pub place_cells :
      (at r0 r1 r2 r3 : ℕ) → set (set (set (set (set l 7 at) 8 r0) 9 r1) 10 r2) 11 r3 ≡ placed_at l at r0 r1 r2 r3
  place_cells at r0 r1 r2 r3 =
      ap (λ (x : List ℕ). set (set (set (set (set x 7 at) 8 r0) 9 r1) 10 r2) 11 r3) s.cells

  pub position_cell : (at : ℕ) → set l 7 at ≡ placed_at l at (return_in 0 l) (return_in 1 l) (return_in 2 l) (return_in 3 l)
  position_cell at = ap (λ (x : List ℕ). set x 7 at) s.cells

-- going on, as far as the tests on the way decide it
module _ (l : List ℕ) (slots : ℕ) {w : Way} {r : Result (Unit {0}) Refusal} where
  pub gone_stuck : w ≡ Stuck → r ≡ Err AtLimit → GoDone l l r slots w
  gone_stuck e en =
      record { answer = en ∙ sym (ap (gone_answer slots) e); left = sym (ap (gone_cells slots l) e) }

  module _ {at r0 r1 r2 r3 : ℕ} (t : Went w at r0 r1 r2 r3) where
    pub gone_past : slots < at → r ≡ Err PastEnd → GoDone l l r slots w
    gone_past h en =
        record {
          answer = en ∙ sym (ap (gone_answer slots) t.goes ∙ pick_no _ _ (lt-leb at slots h));
          left = sym (ap (gone_cells slots l) t.goes ∙ pick_no _ _ (lt-leb at slots h));
        }

    pub gone_there :
        {leaves : List ℕ} →
        leaves ≡ placed_at l at r0 r1 r2 r3 → at ≤ slots → r ≡ Ok tt → GoDone l leaves r slots w
    gone_there written h en =
        record {
          answer = en ∙ sym (ap (gone_answer slots) t.goes ∙ pick_yes _ _ (le-leb at slots h));
          left =
              written ∙
              (λ j. placed_at l at (t.return0 j) (t.return1 j) (t.return2 j) (t.return3 j)) ∙
              sym (ap (gone_cells slots l) t.goes ∙ pick_yes _ _ (le-leb at slots h));
        }

-- another name for the way
pub gone_by :
    (l : List ℕ) (slots : ℕ) {l' : List ℕ} {r : Result (Unit {0}) Refusal} {w v : Way} → w ≡ v → GoDone l l' r slots w → GoDone l l' r slots v
gone_by l slots {l'} {r} f d = subst (GoDone l l' r slots) f d

-- where no refusal was answered, the group went on, and the cells show the new place
pub record Gone (l l' : List ℕ) (slots : ℕ) (w : Way) : Type 0 where
  pub at : ℕ
  pub rest : List ℕ
  pub goes : w ≡ Goes at rest
  pub near : leb at slots ≡ true
  pub left : l' ≡ with_place l at rest

pub went_on : {l l' : List ℕ} {r : Result (Unit {0}) Refusal} {slots : ℕ} (w : Way) → GoDone l l' r slots w → r ≡ Ok tt → Gone l l' slots w
went_on {l} {l'} {r} {slots} (Goes at rs) d h = by (tested (leb at slots))
  where
    by : Tested (leb at slots) → Gone l l' slots (Goes at rs)
    by (holds t) = record { at = at; rest = rs; goes = refl; near = t; left = d.left ∙ pick_yes _ _ t }
    by (fails t) = absurd (never h (d.answer ∙ pick_no _ _ t))
went_on Stuck d h = absurd (never h d.answer)

module _ {l l' : List ℕ} {r : Result (Unit {0}) Refusal} {slots : ℕ} (w : Way) (d : GoDone l l' r slots w) (h : r ≡ Ok tt) where
  pub gone_named : length l ≡ 20 → CellsNamed l'
  gone_named e = subst CellsNamed (sym (went_on w d h).left) (record { size = omega (arith, length-drop 12 l); cells = refl })

  pub gone_masks : (active : ℕ) → OwnMasksIn l active → OwnMasksIn l' active
  gone_masks active k = subst (λ (x : List ℕ). OwnMasksIn x active) (sym (went_on w d h).left) k
