-- The cells of a session and its record are the same thing: cells of the right length are the cells of their view, and what a
-- caller's cells hold is known whole from the record. Assumes nothing.
use mathlib.Core.Path.{◌≡◌, refl, sym, ap, ap₂, ◌∙◌, subst}
use mathlib.Core.List.{List, [], ◌∷◌}
use Prim.Native.Nat.{ℕ, zero, suc, ◌+◌, ◌≤◌}
use native.Mathlib.Nat.{add-suc, suc-add}
use native.Mathlib.Omega.{arith}
use lib.ListN.{length, get_or, take, drop}
use lib.Seq.{drop-cons}
use Rattle.state.specs.State.{Buffer, Party, Shared, Session, unset}
use Rattle.state.specs.Valid.{Valid}
use Rattle.state.specs.Asked.{Held, Given}
use Rattle.state.specs.Cells.{party_of, shared_of, session_of, party_cells, tally_cells, shared_cells, own_length, shared_length}

-- n entries of a list from place k on
module _ {A : Type 0} (d : A) where
  listed : ℕ → ℕ → List A → List A
  listed zero k l = []
  listed (suc n) k l = get_or l k d ∷ listed n (suc k) l

  listed_is : (n k : ℕ) (l : List A) → k + n ≤ length l → listed n k l ≡ take n (drop k l)
  unfolding listed
  listed_is zero k l h = refl
  listed_is (suc n) k l h =
      ap {B = List A} (λ (r : List A). get_or l k d ∷ r) (listed_is n (suc k) l (rw (suc-add, ← add-suc) h)) ∙
      sym (ap (take (suc n)) (drop-cons l k d (omega (arith, rw add-suc at h))))

  take_all : (l : List A) → take (length l) l ≡ l
  take_all [] = refl
  take_all (x ∷ l) = ap {B = List A} (λ (r : List A). x ∷ r) (take_all l)

  all_listed : (n : ℕ) (l : List A) → length l ≡ n → listed n 0 l ≡ l
  all_listed n l e = listed_is n 0 l (omega arith) ∙ ap (λ (m : ℕ). take m l) (sym e) ∙ take_all l

pub own_canon : (l t : List ℕ) → length l ≡ own_length → party_cells (party_of l t) ≡ l
unfolding listed party_cells party_of
own_canon l t h = all_listed 0 own_length l h

pub tally_canon : (l t : List ℕ) → length t ≡ 2 → tally_cells (party_of l t) ≡ t
unfolding listed tally_cells party_of
tally_canon l t h = all_listed 0 2 t h

pub shared_canon : (l : List ℕ) → length l ≡ shared_length → shared_cells (shared_of l) ≡ l
unfolding listed shared_cells shared_of
shared_canon l h = all_listed 0 shared_length l h

-- a session is the view of its cells
pub party_back : (p : Party) → party_of (party_cells p) (tally_cells p) ≡ p
unfolding party_of party_cells tally_cells
party_back p = refl

abbrev with_buffers : Shared → List Buffer → List Buffer → Shared
with_buffers h o i =
    record {
      mask = h.mask;
      conditional_mask_set = h.conditional_mask_set;
      conditional_mask = h.conditional_mask;
      test_set = h.test_set;
      test = h.test;
      floats = h.floats;
      integers = h.integers;
      booleans = h.booleans;
      conditional = h.conditional;
      outputs = o;
      inputs = i;
    }

pub shared_back : (h : Shared) → length h.outputs ≡ 4 → length h.inputs ≡ 16 → shared_of (shared_cells h) ≡ h
unfolding shared_of shared_cells listed
shared_back h o i =
    subst (λ (x : List Buffer). shared_of (shared_cells (with_buffers h x h.inputs)) ≡ with_buffers h x h.inputs)
    (all_listed unset 4 h.outputs o)
    (subst (λ (y : List Buffer). shared_of (shared_cells (with_buffers h (listed unset 4 0 h.outputs) y)) ≡ with_buffers h (listed unset 4 0 h.outputs) y)
    (all_listed unset 16 h.inputs i) refl)

shared_length_lem : (h : Shared) → length h.outputs ≡ 4 → length h.inputs ≡ 16 → length (shared_cells h) ≡ shared_length
unfolding shared_cells listed
shared_length_lem h o i =
    subst (λ (x : List Buffer). length (shared_cells (with_buffers h x h.inputs)) ≡ shared_length) (all_listed unset 4 h.outputs o)
    (subst (λ (y : List Buffer). length (shared_cells (with_buffers h (listed unset 4 0 h.outputs) y)) ≡ shared_length)
    (all_listed unset 16 h.inputs i) refl)

module _ (s : Session) (v : Valid s) (l t c : List ℕ) (h : Held s l t c) where
  pub held_view : session_of l t c ≡ s
  held_view =
      λ k.
      record {
        party = (ap₂ party_of h.own_cells h.tally_cells_lem ∙ party_back s.party) k;
        shared = (ap shared_of h.shared_cells_lem ∙ shared_back s.shared v.outputs v.inputs) k;
      }

  -- cells that hold a valid session may be handed in again
  pub held_given : Given l t c
  held_given =
      record {
        sized =
            record {
              own_length_lem = ap length h.own_cells ∙ unfold party_cells in refl;
              tallies_length_lem = ap length h.tally_cells_lem ∙ unfold tally_cells in refl;
              shared_length_lem = ap length h.shared_cells_lem ∙ shared_length_lem s.shared v.outputs v.inputs;
            };
        valid = subst Valid (sym held_view) v;
      }
