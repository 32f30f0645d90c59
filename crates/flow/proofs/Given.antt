-- Every state that these entries give out is sound, so it may be handed in again; and what that says of the cells themselves.
-- Assumes nothing.
use mathlib.Core.Path.{◌≡◌, refl, sym, ap, ◌∙◌, subst}
use mathlib.Core.Bool.{Bool, true, false}
use mathlib.Core.List.{List}
use Prim.Native.Nat.{ℕ, ◌<◌, ◌≤◌}
use borrow.Author.Tests.{le-leb}
use Rattle.laws.specs.Masks.{on, pack}
use Rattle.laws.proofs.Choice.{pick_yes, and_intro, by_pick}
use Rattle.laws.proofs.Masks.{on_pack}
use Rattle.std.specs.Prelude.{Result}
use Rattle.refusal.specs.declared.Refusal.{Refusal}
use Rattle.stepper.specs.declared.Stepped.{Stepped}
use Rattle.flow.specs.declared.Report.{Report}
use Rattle.group.specs.Proc.{Proc, Active, Idle, Absent, is_live, is_active, counter_bit, most_processors}
use Rattle.group.specs.Modes.{mode_of, is_mode}
use Rattle.group.specs.Group.{Program, Run, Makes, Breaks, is_group_size, may_begin, group_step, group_run, ended}
use Rattle.group.specs.Cells.{live_in, active_in, plane_in, mode_in, group_of, GroupGiven, run_leaves, begin_leaves}
use Rattle.stepper.specs.Answers.{own_limit, StepDone}
use Rattle.flow.specs.Answers.{BeginDone, RunDone}
use Rattle.group.proofs.State.{given_of, given_masks, left_given, step_sound}
use Rattle.flow.proofs.Beginning.{begin_given}
use Rattle.flow.proofs.Running.{SoundRun, steps_sound}

pub begin_gives :
    {l leaves : List ℕ} {r : Result (Unit {0}) Refusal} (size mode : ℕ) → BeginDone l leaves r size mode → 1 ≤ size → size ≤ most_processors → mode ≤ 1 → GroupGiven leaves
unfolding begin_leaves may_begin is_group_size is_mode
begin_gives size mode d h k e =
    subst GroupGiven (sym (d.left ∙ pick_yes _ _ (and_intro (and_intro (le-leb 1 size h) (le-leb size 32 k)) (le-leb mode 1 e))))
    (begin_given size (mode_of mode) h k)

pub step_gives :
    {l leaves : List ℕ} {r : Result Stepped Refusal} (program : Program) (alu predicate booleans : ℕ) → GroupGiven l →
    StepDone l leaves r (group_step (mode_in l) program alu predicate booleans (group_of l)) → GroupGiven leaves
step_gives {l} program alu predicate booleans m d =
    subst GroupGiven (sym d.left)
    (left_given l (group_step (mode_in l) program alu predicate booleans (group_of l)) m
    (step_sound (mode_in l) program alu predicate booleans (group_of l) m.sound))

run_given_left : (l : List ℕ) (o : Run) → GroupGiven l → SoundRun (own_limit l) o → GroupGiven (run_leaves l o)
run_given_left l (Makes n g) m s = given_of (mode_in l) g s
run_given_left l (Breaks why) m s = m

pub run_gives :
    {l leaves : List ℕ} {r : Result Report Refusal} (program : Program) (booleans : ℕ) (masks : List ℕ) → GroupGiven l →
    RunDone l leaves r (group_run (mode_in l) program booleans masks (group_of l)) → GroupGiven leaves
unfolding group_run
run_gives {l} program booleans masks m d =
    subst GroupGiven (sym d.left)
    (run_given_left l (group_run (mode_in l) program booleans masks (group_of l)) m
    (by_pick (SoundRun (own_limit l)) (ended program (group_of l)) _ _ (λ e. tt)
    (λ e. steps_sound (mode_in l) program booleans masks (group_of l) m.sound)))

-- of the cells: an active processor is in the group; a bit of a counter is an idle processor's, so that an active one's counter
-- is 0 and nobody outside the group has one
module _ (l : List ℕ) (m : GroupGiven l) (i : ℕ) (h : i < 32) where
  here : {w : ℕ} (f : Proc → Bool) → w ≡ pack 32 (λ j. f ((group_of l).procs j)) → on i w ≡ f ((group_of l).procs i)
  here f e = ap (on i) e ∙ on_pack 32 i (λ j. f ((group_of l).procs j)) h

  pub active_in_group : on i (active_in l) ≡ true → on i (live_in l) ≡ true
  active_in_group e =
      here is_live (given_masks l m).live_word ∙
      within_group ((group_of l).procs i) (sym (here is_active (given_masks l m).active_word) ∙ e)
    where
      within_group : (p : Proc) → is_active p ≡ true → is_live p ≡ true
      within_group Active q = refl
      within_group (Idle n) q = refl
      within_group Absent q = q

  pub active_counts_zero :
      on i (active_in l) ≡ true →
      (on i (plane_in 0 l) ≡ false) × (on i (plane_in 1 l) ≡ false) × (on i (plane_in 2 l) ≡ false) ×
      (on i (plane_in 3 l) ≡ false) × (on i (plane_in 4 l) ≡ false)
  active_counts_zero e =
      let q = given_masks l m in (
        here (counter_bit 0) q.word0 ∙ none 0,
        here (counter_bit 1) q.word1 ∙ none 1,
        here (counter_bit 2) q.word2 ∙ none 2,
        here (counter_bit 3) q.word3 ∙ none 3,
        here (counter_bit 4) q.word4 ∙ none 4,
      )
    where
      clear : (k : ℕ) (p : Proc) → is_active p ≡ true → counter_bit k p ≡ false
      clear k Active q = refl
      clear k (Idle n) q = cc
      clear k Absent q = refl

      none : (k : ℕ) → counter_bit k ((group_of l).procs i) ≡ false
      none k = clear k ((group_of l).procs i) (sym (here is_active (given_masks l m).active_word) ∙ e)

  pub outside_counts_zero :
      on i (live_in l) ≡ false →
      (on i (plane_in 0 l) ≡ false) × (on i (plane_in 1 l) ≡ false) × (on i (plane_in 2 l) ≡ false) ×
      (on i (plane_in 3 l) ≡ false) × (on i (plane_in 4 l) ≡ false)
  outside_counts_zero e =
      let q = given_masks l m in (
        here (counter_bit 0) q.word0 ∙ none 0,
        here (counter_bit 1) q.word1 ∙ none 1,
        here (counter_bit 2) q.word2 ∙ none 2,
        here (counter_bit 3) q.word3 ∙ none 3,
        here (counter_bit 4) q.word4 ∙ none 4,
      )
    where
      clear : (k : ℕ) (p : Proc) → is_live p ≡ false → counter_bit k p ≡ false
      clear k Active q = refl
      clear k (Idle n) q = cc
      clear k Absent q = refl

      none : (k : ℕ) → counter_bit k ((group_of l).procs i) ≡ false
      none k = clear k ((group_of l).procs i) (sym (here is_live (given_masks l m).live_word) ∙ e)
