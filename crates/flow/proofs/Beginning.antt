-- A fresh group as the code writes it. Assumes nothing.
use mathlib.Core.Path.{◌≡◌, refl, sym, ap, ◌∙◌}
use mathlib.Core.Bool.{Bool, true, false}
use mathlib.Core.List.{List, [], ◌∷◌}
use Prim.Native.Nat.{ℕ, zero, suc, ◌-◌, ◌/◌, ◌^◌, ◌<◌, ◌≤◌}
use native.Mathlib.Omega.{arith}
use lib.Dec.{eqb, ltb}
use borrow.Author.Tests.{eqb-true, le-leb, lt-leb}
use Rattle.laws.specs.Choice.{◌and◌, pick}
use Rattle.laws.specs.Below.{every}
use Rattle.laws.specs.Masks.{digit, pack}
use Rattle.laws.proofs.Choice.{pick_yes, pick_no, and_intro, and_no_left, and_no_right, by_pick}
use Rattle.laws.proofs.Below.{every_at}
use Rattle.laws.proofs.Masks.{pack_same}
use Rattle.refusal.specs.declared.Refusal.TheVariants.{FlowField}
use Rattle.std.specs.Prelude.{Ok, Err}
use Rattle.group.specs.Proc.{Proc, Active, Absent, is_live, is_active, counter_bit}
use Rattle.group.specs.Modes.{Mode, limit_of, mode_number, mode_of, is_mode}
use Rattle.group.specs.Group.{fresh, is_group_size, may_begin, begin_told}
use Rattle.group.specs.Cells.{plane, last_cells, cells_with, cells_of, begin_leaves, GroupGiven}
use Rattle.flow.specs.Answers.{BeginDone}
use Rattle.group.proofs.State.{given_of, fresh_sound}

-- the mask of the first processors, made from the top down
full_mask : (size : ℕ) → size ≤ 32 → 4294967295 / 2 ^ (32 - size) ≡ pack 32 (λ i. ltb i size)
unfolding pack digit every ◌and◌
full_mask size h =
    eqb-true _ _
    (every_at 33 (λ s. eqb (4294967295 / 2 ^ (32 - s)) (pack 32 (λ i. ltb i s))) refl size (omega arith))

-- a mode's number is read as the mode that has it
number_back : (n : ℕ) → n ≤ 1 → n ≡ mode_number (mode_of n)
unfolding mode_of pick
number_back zero h = refl
number_back (suc zero) h = refl
number_back (suc (suc n)) h = absurd (two n h)
  where
    two : (n : ℕ) → suc (suc n) ≤ 1 → ⊥
    two n h = omega arith

module _ (size : ℕ) where
  in_size : (f : Proc → Bool) → f Active ≡ true → f Absent ≡ false → pack 32 (λ i. ltb i size) ≡ pack 32 (λ i. f ((fresh size).procs i))
  unfolding fresh
  in_size f a b =
      pack_same 32 _ _ (λ i h. by_pick (λ (p : Proc). ltb i size ≡ f p) (ltb i size) _ _ (λ e. e ∙ sym a) (λ e. e ∙ sym b))

  none_set : (k : ℕ) → 0 ≡ plane k (fresh size).procs
  unfolding fresh pack digit
  none_set k =
      nothing ∙
      pack_same 32 (λ i. false) (λ i. counter_bit k ((fresh size).procs i))
      (λ i h. by_pick (λ (p : Proc). false ≡ counter_bit k p) (ltb i size) Active Absent (λ e. refl) (λ e. refl))
    where
      nothing : 0 ≡ pack 32 (λ i. false)
      nothing = refl

  fresh_cells :
      (mode : Mode) → size ≤ 32 →
      cells_with (4294967295 / 2 ^ (32 - size)) (4294967295 / 2 ^ (32 - size)) 0 0 0 0 0 0 0 0 0 0 (last_cells mode 0 []) ≡ cells_of mode (fresh size)
  unfolding fresh
  fresh_cells mode h =
      λ j.
      cells_with ((full_mask size h ∙ in_size is_live refl refl) j) ((full_mask size h ∙ in_size is_active refl refl) j)
      (none_set 0 j) (none_set 1 j) (none_set 2 j) (none_set 3 j) (none_set 4 j) 0 0 0 0 0 (last_cells mode 0 [])

  module _ (mode : ℕ) (l : List ℕ) where
    refused_begin : may_begin size mode ≡ false → BeginDone l l (Err FlowField) size mode
    unfolding begin_told begin_leaves
    refused_begin e = record { told = sym (pick_no _ _ e); left = sym (pick_no _ _ e) }

    pub begin_small : size < 1 → BeginDone l l (Err FlowField) size mode
    unfolding may_begin is_group_size
    begin_small h = refused_begin (and_no_left _ (and_no_left _ (lt-leb 1 size h)))

    pub begin_large : 32 < size → BeginDone l l (Err FlowField) size mode
    unfolding may_begin is_group_size
    begin_large h = refused_begin (and_no_left _ (and_no_right _ (lt-leb size 32 h)))

    pub begin_no_mode : 1 < mode → BeginDone l l (Err FlowField) size mode
    unfolding may_begin is_mode
    begin_no_mode h = refused_begin (and_no_right _ (lt-leb mode 1 h))

    pub begin_ready :
        1 ≤ size → size ≤ 32 → mode ≤ 1 →
        BeginDone l (cells_with (4294967295 / 2 ^ (32 - size)) (4294967295 / 2 ^ (32 - size)) 0 0 0 0 0 0 0 0 0 0 (mode ∷ 0 ∷ 0 ∷ 0 ∷ 0 ∷ 0 ∷ 0 ∷ 0 ∷ []))
        (Ok tt) size mode
    unfolding begin_told begin_leaves may_begin is_group_size is_mode
    begin_ready h k e =
        let may : may_begin size mode ≡ true = and_intro (and_intro (le-leb 1 size h) (le-leb size 32 k)) (le-leb mode 1 e) in
        record {
          told = sym (pick_yes _ _ may);
          left =
              ap (λ (n : ℕ).
              cells_with (4294967295 / 2 ^ (32 - size)) (4294967295 / 2 ^ (32 - size)) 0 0 0 0 0 0 0 0 0 0 (n ∷ 0 ∷ 0 ∷ 0 ∷ 0 ∷ 0 ∷ 0 ∷ 0 ∷ []))
              (number_back mode e) ∙
              fresh_cells (mode_of mode) k ∙ sym (pick_yes _ _ may);
        }

-- the cells of a fresh group are such as these entries give out
pub begin_given : (size : ℕ) (mode : Mode) → 1 ≤ size → size ≤ 32 → GroupGiven (cells_of mode (fresh size))
begin_given size mode o h = given_of mode (fresh size) (fresh_sound (limit_of mode) size o h)
