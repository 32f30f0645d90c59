-- Request 7 over a group's cells: both modes over the same cells but for the mode's. Assumes nothing.
use mathlib.Core.Path.{◌≡◌, refl, sym, ap, ◌∙◌, subst}
use mathlib.Core.List.{List}
use Prim.Native.Nat.{ℕ, ◌≤◌}
use native.Mathlib.Omega.{arith}
use Rattle.refusal.specs.Crossing.{status_of, room_of}
use Rattle.group.specs.Modes.{Mode, Full, Partial}
use Rattle.group.specs.Group.{Group, Outcome, Steps, Fails, Program, Run, Makes, Breaks, step_told, run_told, group_step, group_run}
use Rattle.group.specs.Cells.{mode_in, group_of, cells_of, Sound, GroupGiven, step_leaves, run_leaves}
use Rattle.group.specs.Causes.{Cause, FirstMet}
use Rattle.group.proofs.Modes.{step_shared, step_cause, cause_refuses}
use Rattle.group.proofs.Firsts.{no_step, no_run, same_why, run_shared, run_first_cause, first_cause_refuses}
use Rattle.group.proofs.State.{sound_mode, group_back, given_of, mode_kept}
use Rattle.group_rooms.specs.Rooms.{StepCrosses, RunCrosses}
use Rattle.demands.proofs.Numbers.{step_number_lem, run_number_lem}
use Rattle.demands.specs.Partial.{in_full, Beside}

-- cells in full mode
module _ (l : List ℕ) (given : GroupGiven l) where
  sound : Sound 31 (group_of l)
  sound = sound_mode (mode_in l) given.sound

  as_full : in_full l ≡ cells_of Full (group_of l)
  as_full = ap in_full given.whole

  pub full_given : GroupGiven (in_full l)
  full_given = subst GroupGiven (sym as_full) (given_of Full (group_of l) sound)

  pub full_mode : mode_in (in_full l) ≡ Full
  full_mode = ap mode_in as_full ∙ mode_kept Full (group_of l)

  pub full_group : group_of (in_full l) ≡ group_of l
  full_group = ap group_of as_full ∙ group_back Full (group_of l) sound

  -- a call beside the same call on the cells in full mode
  module _ (partial : mode_in l ≡ Partial) (p : Program) (booleans r r' : ℕ) (l₁ f₁ room room₁ other other₁ : List ℕ) where
    abbrev g : Group
    g = group_of l

    full_left : (h : Group) → cells_of (mode_in (in_full l)) h ≡ in_full (cells_of (mode_in l) h)
    full_left h = ap (λ (m : Mode). cells_of m h) full_mode

    module _ (alu predicate : ℕ) where
      abbrev step_in : Mode → Outcome
      step_in mode = group_step mode p alu predicate booleans g

      step_as : (o o' : Outcome) → step_in Partial ≡ o → step_in Full ≡ o' → StepCrosses o r l l₁ room room₁ →
          StepCrosses o' r' (in_full l) f₁ other other₁ → Beside (Cause p g alu predicate booleans) r r' l₁ f₁ room₁ other₁
      step_as (Steps jump h) o' e e' c c' =
          let shared : o' ≡ Steps jump h = sym e' ∙ step_shared p alu predicate booleans g jump h e in
          record {
            accepted = λ z. c'.answer.status ∙ ap (λ (o : Outcome). status_of (step_told o)) shared;
            cells_same = λ z. c'.left ∙ ap (step_leaves (in_full l)) shared ∙ full_left h ∙ ap in_full (sym c.left);
            room_same = λ z. c'.answer.room ∙ ap (λ (o : Outcome). room_of (step_told o) other) shared ∙ sym c.answer.room;
            caused = λ z n h q. absurd (omega (arith, c.answer.status, h, q));
            causes = λ z n k. no_step (sym (cause_refuses p alu predicate booleans g n jump h k (e' ∙ shared)) ∙ e);
          }
      step_as (Fails m) (Steps jump h) e e' c c' =
          record {
            accepted = λ z. absurd (omega (arith, z, c.answer.status, least m e));
            cells_same = λ z. absurd (omega (arith, z, c.answer.status, least m e));
            room_same = λ z. absurd (omega (arith, z, c.answer.status, least m e));
            caused = λ z n k q. subst (Cause p g alu predicate booleans) (sym c.answer.status ∙ q) (step_cause p alu predicate booleans g m jump h e e');
            causes = λ z n k. c.answer.status ∙ fails_same (sym e ∙ cause_refuses p alu predicate booleans g n jump h k e');
          }
        where
          least : (m : ℕ) → step_in Partial ≡ Fails m → 1 ≤ m
          least m e = step_number_lem Partial p alu predicate booleans g m (ap step_told e)

          fails_same : {i j : ℕ} → Fails i ≡ Fails j → i ≡ j
          fails_same q = cc
      step_as (Fails m) (Fails n) e e' c c' =
          record {
            accepted = λ z. absurd (omega (arith, z, c.answer.status, least Partial m e));
            cells_same = λ z. absurd (omega (arith, z, c.answer.status, least Partial m e));
            room_same = λ z. absurd (omega (arith, z, c.answer.status, least Partial m e));
            caused = λ z i k q. absurd (omega (arith, z, c'.answer.status, least Full n e'));
            causes = λ z i k. absurd (omega (arith, z, c'.answer.status, least Full n e'));
          }
        where
          least : (mode : Mode) (m : ℕ) → step_in mode ≡ Fails m → 1 ≤ m
          least mode m e = step_number_lem mode p alu predicate booleans g m (ap step_told e)

      pub step_beside :
          StepCrosses (group_step (mode_in l) p alu predicate booleans (group_of l)) r l l₁ room room₁ →
          StepCrosses (group_step (mode_in (in_full l)) p alu predicate booleans (group_of (in_full l))) r' (in_full l) f₁ other other₁ →
          Beside (Cause p g alu predicate booleans) r r' l₁ f₁ room₁ other₁
      step_beside c c' =
          step_as (step_in Partial) (step_in Full) refl refl
          (subst (λ (m : Mode). StepCrosses (step_in m) r l l₁ room room₁) partial c)
          (subst (λ (m : Mode). StepCrosses (step_in m) r' (in_full l) f₁ other other₁) full_mode
          (subst (λ (h : Group). StepCrosses (group_step (mode_in (in_full l)) p alu predicate booleans h) r' (in_full l) f₁ other other₁) full_group c'))

    module _ (masks : List ℕ) where
      abbrev run_in : Mode → Run
      run_in mode = group_run mode p booleans masks g

      run_as : (o o' : Run) → run_in Partial ≡ o → run_in Full ≡ o' → RunCrosses o r l l₁ room room₁ →
          RunCrosses o' r' (in_full l) f₁ other other₁ → Beside (FirstMet p booleans masks g) r r' l₁ f₁ room₁ other₁
      run_as (Makes k h) o' e e' c c' =
          let shared : o' ≡ Makes k h = sym e' ∙ run_shared p booleans masks g h k e in
          record {
            accepted = λ z. c'.answer.status ∙ ap (λ (o : Run). status_of (run_told o)) shared;
            cells_same = λ z. c'.left ∙ ap (run_leaves (in_full l)) shared ∙ full_left h ∙ ap in_full (sym c.left);
            room_same = λ z. c'.answer.room ∙ ap (λ (o : Run). room_of (run_told o) other) shared ∙ sym c.answer.room;
            caused = λ z n h q. absurd (omega (arith, c.answer.status, h, q));
            causes = λ z n m. no_run (sym e ∙ first_cause_refuses p booleans masks g h k (e' ∙ shared) n m);
          }
      run_as (Breaks m) (Makes k h) e e' c c' =
          record {
            accepted = λ z. absurd (omega (arith, z, c.answer.status, least m e));
            cells_same = λ z. absurd (omega (arith, z, c.answer.status, least m e));
            room_same = λ z. absurd (omega (arith, z, c.answer.status, least m e));
            caused = λ z n w q. subst (FirstMet p booleans masks g) (sym c.answer.status ∙ q) (run_first_cause p booleans masks g h k e' m e);
            causes = λ z n w. c.answer.status ∙ same_why (sym e ∙ first_cause_refuses p booleans masks g h k e' n w);
          }
        where
          least : (m : ℕ) → run_in Partial ≡ Breaks m → 1 ≤ m
          least m e = run_number_lem Partial p booleans masks g m (ap run_told e)
      run_as (Breaks m) (Breaks n) e e' c c' =
          record {
            accepted = λ z. absurd (omega (arith, z, c.answer.status, least Partial m e));
            cells_same = λ z. absurd (omega (arith, z, c.answer.status, least Partial m e));
            room_same = λ z. absurd (omega (arith, z, c.answer.status, least Partial m e));
            caused = λ z i k q. absurd (omega (arith, z, c'.answer.status, least Full n e'));
            causes = λ z i k. absurd (omega (arith, z, c'.answer.status, least Full n e'));
          }
        where
          least : (mode : Mode) (m : ℕ) → run_in mode ≡ Breaks m → 1 ≤ m
          least mode m e = run_number_lem mode p booleans masks g m (ap run_told e)

      pub run_beside :
          RunCrosses (group_run (mode_in l) p booleans masks (group_of l)) r l l₁ room room₁ →
          RunCrosses (group_run (mode_in (in_full l)) p booleans masks (group_of (in_full l))) r' (in_full l) f₁ other other₁ →
          Beside (FirstMet p booleans masks g) r r' l₁ f₁ room₁ other₁
      run_beside c c' =
          run_as (run_in Partial) (run_in Full) refl refl
          (subst (λ (m : Mode). RunCrosses (run_in m) r l l₁ room room₁) partial c)
          (subst (λ (m : Mode). RunCrosses (run_in m) r' (in_full l) f₁ other other₁) full_mode
          (subst (λ (h : Group). RunCrosses (group_run (mode_in (in_full l)) p booleans masks h) r' (in_full l) f₁ other other₁) full_group c'))
