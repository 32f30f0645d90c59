-- Request 7 of a whole run: what partial mode accepts, full mode answers alike, and partial mode refuses a run that full mode makes just where the
-- run comes to a cause, with the number of the first one. Assumes nothing.
use mathlib.Core.Path.{◌≡◌, refl, sym, ap, ◌∙◌, subst}
use mathlib.Core.Bool.{Bool, true, false}
use mathlib.Core.List.{List, [], ◌∷◌}
use Prim.Native.Nat.{ℕ}
use native.Mathlib.Omega.{arith}
use Rattle.laws.proofs.Choice.{Tested, holds, fails, tested, pick_yes, pick_no}
use Rattle.group.specs.Modes.{Mode, Full, Partial}
use Rattle.group.specs.Group.{Group, Outcome, Steps, Fails, Program, Run, Makes, Breaks, once_more, go_on, ended, group_step, group_steps, group_run}
use Rattle.group.specs.Causes.{Cause, loop_op, return_op, counter_at_five, FirstMet, here, later}
use Rattle.group.proofs.Modes.{step_shared, step_cause, cause_refuses}

-- answers apart
pub no_step : {A : Type 0} {n : ℕ} {jump : Bool} {g : Group} → Fails n ≡ Steps jump g → A
no_step e = absurd (let z : ◌≡◌ {A = ℕ} 0 1 = cc in omega arith)

pub no_run : {A : Type 0} {n k : ℕ} {g : Group} → Makes k g ≡ Breaks n → A
no_run e = absurd (let z : ◌≡◌ {A = ℕ} 0 1 = cc in omega arith)

pub same_why : {n m : ℕ} → Breaks n ≡ Breaks m → n ≡ m
same_why e = cc

same_after : {i j : Bool} {g h : Group} → Steps i g ≡ Steps j h → g ≡ h
same_after e = cc

-- what an outcome is
data Came (o : Outcome) : Type 0 where
  made : (jump : Bool) (g : Group) → o ≡ Steps jump g → Came o
  failed : (n : ℕ) → o ≡ Fails n → Came o

came : (o : Outcome) → Came o
came (Steps jump g) = made jump g refl
came (Fails n) = failed n refl

-- a run that is made, or that breaks, with one step more in front
once_breaks : (r : Run) (n : ℕ) → once_more r ≡ Breaks n → r ≡ Breaks n
once_breaks (Makes k g) n e = no_run e
once_breaks (Breaks m) n e = e

record Ends (r : Run) (g : Group) : Type 0 where
  number : ℕ
  is : r ≡ Makes number g

once_makes : (r : Run) (k : ℕ) (g : Group) → once_more r ≡ Makes k g → Ends r g
once_makes (Makes m h) k g e = record { number = m; is = ap (λ (x : Group). Makes m x) (same_end e) }
  where
    same_end : {i j : ℕ} {x y : Group} → Makes i x ≡ Makes j y → x ≡ y
    same_end q = cc
once_makes (Breaks m) k g e = no_run (sym e)

module _ (program : Program) (booleans : ℕ) where
  abbrev steps : Mode → List ℕ → Group → Run
  steps mode masks g = group_steps mode program booleans masks g

  abbrev step : Mode → ℕ → ℕ → Group → Outcome
  step mode alu predicate g = group_step mode program alu predicate booleans g

  next :
      (mode : Mode) (alu predicate : ℕ) (masks : List ℕ) (g : Group) → ended program g ≡ false →
      steps mode (alu ∷ (predicate ∷ masks)) g ≡ go_on (step mode alu predicate g) (λ h. steps mode masks h)
  unfolding group_steps
  next mode alu predicate masks g t = pick_no _ _ t

  at_end :
      (mode : Mode) (alu predicate : ℕ) (masks : List ℕ) (g : Group) → ended program g ≡ true →
      steps mode (alu ∷ (predicate ∷ masks)) g ≡ Makes 0 g
  unfolding group_steps
  at_end mode alu predicate masks g t = pick_yes _ _ t

  none_left : (mode : Mode) (g : Group) → steps mode [] g ≡ Makes 0 g
  unfolding group_steps
  none_left mode g = refl

  half_left : (mode : Mode) (alu : ℕ) (g : Group) → steps mode (alu ∷ []) g ≡ Makes 0 g
  unfolding group_steps
  half_left mode alu g = refl

  -- a step that is made, and one that is refused
  goes :
      (mode : Mode) (alu predicate : ℕ) (masks : List ℕ) (g h : Group) (jump : Bool) → ended program g ≡ false →
      step mode alu predicate g ≡ Steps jump h → steps mode (alu ∷ (predicate ∷ masks)) g ≡ once_more (steps mode masks h)
  goes mode alu predicate masks g h jump t e =
      next mode alu predicate masks g t ∙ ap (λ (o : Outcome). go_on o (λ h. steps mode masks h)) e

  breaks :
      (mode : Mode) (alu predicate : ℕ) (masks : List ℕ) (g : Group) (n : ℕ) → ended program g ≡ false →
      step mode alu predicate g ≡ Fails n → steps mode (alu ∷ (predicate ∷ masks)) g ≡ Breaks n
  breaks mode alu predicate masks g n t e =
      next mode alu predicate masks g t ∙ ap (λ (o : Outcome). go_on o (λ h. steps mode masks h)) e

  -- "whatever partial mode accepts, full mode answers identically, the mode aside"
  steps_shared : (masks : List ℕ) (g g' : Group) (n : ℕ) → steps Partial masks g ≡ Makes n g' → steps Full masks g ≡ Makes n g'
  steps_shared [] g g' n e = none_left Full g ∙ sym (none_left Partial g) ∙ e
  steps_shared (alu ∷ []) g g' n e = half_left Full alu g ∙ sym (half_left Partial alu g) ∙ e
  steps_shared (alu ∷ (predicate ∷ masks)) g g' n e = by (steps_shared masks) (tested (ended program g)) (came (step Partial alu predicate g))
    where
      by :
          ((h g' : Group) (n : ℕ) → steps Partial masks h ≡ Makes n g' → steps Full masks h ≡ Makes n g') → Tested (ended program g) →
          Came (step Partial alu predicate g) → steps Full (alu ∷ (predicate ∷ masks)) g ≡ Makes n g'
      by ih (holds t) b = at_end Full alu predicate masks g t ∙ sym (at_end Partial alu predicate masks g t) ∙ e
      by ih (fails t) (failed m b) = no_run (sym e ∙ breaks Partial alu predicate masks g m t b)
      by ih (fails t) (made jump h b) =
          let rest : Ends (steps Partial masks h) g' = once_makes (steps Partial masks h) n g' (sym (goes Partial alu predicate masks g h jump t b) ∙ e) in
          goes Full alu predicate masks g h jump t (step_shared program alu predicate booleans g jump h b) ∙
          ap once_more (ih h g' rest.number rest.is ∙ sym rest.is) ∙ sym (goes Partial alu predicate masks g h jump t b) ∙ e

  pub run_shared :
      (masks : List ℕ) (g g' : Group) (n : ℕ) → group_run Partial program booleans masks g ≡ Makes n g' →
      group_run Full program booleans masks g ≡ Makes n g'
  unfolding group_run
  run_shared masks g g' n e = by (tested (ended program g))
    where
      by : Tested (ended program g) → group_run Full program booleans masks g ≡ Makes n g'
      by (holds t) = no_run (sym e ∙ pick_yes _ _ t)
      by (fails t) = pick_no _ _ t ∙ steps_shared masks g g' n (sym (pick_no _ _ t) ∙ e)

  first_met :
      (masks : List ℕ) (g g' : Group) (k n : ℕ) → steps Full masks g ≡ Makes k g' → steps Partial masks g ≡ Breaks n →
      FirstMet program booleans masks g n
  first_met [] g g' k n f e = no_run (sym (none_left Partial g) ∙ e)
  first_met (alu ∷ []) g g' k n f e = no_run (sym (half_left Partial alu g) ∙ e)
  first_met (alu ∷ (predicate ∷ masks)) g g' k n f e =
      by (first_met masks) (tested (ended program g)) (came (step Full alu predicate g)) (came (step Partial alu predicate g))
    where
      by :
          ((h g' : Group) (k n : ℕ) → steps Full masks h ≡ Makes k g' → steps Partial masks h ≡ Breaks n → FirstMet program booleans masks h n) →
          Tested (ended program g) → Came (step Full alu predicate g) → Came (step Partial alu predicate g) →
          FirstMet program booleans (alu ∷ (predicate ∷ masks)) g n
      by ih (holds t) a b = no_run (sym (at_end Partial alu predicate masks g t) ∙ e)
      by ih (fails t) (failed m a) b = no_run (sym f ∙ breaks Full alu predicate masks g m t a)
      by ih (fails t) (made jump h a) (failed m b) =
          subst (FirstMet program booleans (alu ∷ (predicate ∷ masks)) g)
          (same_why (sym (breaks Partial alu predicate masks g m t b) ∙ e))
          (here alu predicate masks g m t (step_cause program alu predicate booleans g m jump h b a))
      by ih (fails t) (made jump h a) (made jump' h' b) =
          let same : h' ≡ h = same_after (sym (step_shared program alu predicate booleans g jump' h' b) ∙ a) in
          let rest : Ends (steps Full masks h) g' = once_makes (steps Full masks h) k g' (sym (goes Full alu predicate masks g h jump t a) ∙ f) in
          later alu predicate masks g h jump n t
          (λ m c. no_step (sym (cause_refuses program alu predicate booleans g m jump h c a) ∙ b)) a
          (ih h g' rest.number n rest.is
          (subst (λ (x : Group). steps Partial masks x ≡ Breaks n) same
          (once_breaks (steps Partial masks h') n (sym (goes Partial alu predicate masks g h' jump' t b) ∙ e))))

  met_breaks :
      {masks : List ℕ} {g : Group} {n : ℕ} → FirstMet program booleans masks g n → (g' : Group) (k : ℕ) → steps Full masks g ≡ Makes k g' →
      steps Partial masks g ≡ Breaks n
  met_breaks (here alu predicate masks g n t c) g' k f = by (came (step Full alu predicate g))
    where
      by : Came (step Full alu predicate g) → steps Partial (alu ∷ (predicate ∷ masks)) g ≡ Breaks n
      by (made jump h a) =
          breaks Partial alu predicate masks g n t (cause_refuses program alu predicate booleans g n jump h c a)
      by (failed m a) = no_run (sym f ∙ breaks Full alu predicate masks g m t a)
  met_breaks (later alu predicate masks g h jump n t free a rest) g' k f =
      by (met_breaks rest) (came (step Partial alu predicate g))
    where
      by :
          ((g' : Group) (k : ℕ) → steps Full masks h ≡ Makes k g' → steps Partial masks h ≡ Breaks n) → Came (step Partial alu predicate g) →
          steps Partial (alu ∷ (predicate ∷ masks)) g ≡ Breaks n
      by ih (failed m b) = absurd (free m (step_cause program alu predicate booleans g m jump h b a))
      by ih (made jump' h' b) =
          let same : h' ≡ h = same_after (sym (step_shared program alu predicate booleans g jump' h' b) ∙ a) in
          let ends : Ends (steps Full masks h) g' = once_makes (steps Full masks h) k g' (sym (goes Full alu predicate masks g h jump t a) ∙ f) in
          goes Partial alu predicate masks g h' jump' t b ∙
          ap once_more (ap (steps Partial masks) same ∙ ih g' ends.number ends.is)

  -- a whole run: full mode's run is made, so its program hadn't ended
  module _ (masks : List ℕ) (g g' : Group) (k : ℕ) (f : group_run Full program booleans masks g ≡ Makes k g') where
    over : ended program g ≡ true → group_run Full program booleans masks g ≡ Breaks 16
    unfolding group_run
    over t = pick_yes _ _ t

    running : ended program g ≡ false
    running = by (tested (ended program g))
      where
        by : Tested (ended program g) → ended program g ≡ false
        by (holds t) = no_run (sym f ∙ over t)
        by (fails t) = t

    walked : (mode : Mode) → group_run mode program booleans masks g ≡ steps mode masks g
    unfolding group_run
    walked mode = pick_no _ _ running

    -- "Partial mode refuses what full mode accepts for the three causes above and no other.": with the number of the first cause that it meets
    pub run_first_cause : (n : ℕ) → group_run Partial program booleans masks g ≡ Breaks n → FirstMet program booleans masks g n
    run_first_cause n e = first_met masks g g' k n (sym (walked Full) ∙ f) (sym (walked Partial) ∙ e)

    pub first_cause_refuses : (n : ℕ) → FirstMet program booleans masks g n → group_run Partial program booleans masks g ≡ Breaks n
    first_cause_refuses n m = walked Partial ∙ met_breaks m g' k (sym (walked Full) ∙ f)

-- a step has one cause's number at most
pub one_number :
    {program : Program} {g : Group} {alu predicate booleans n m : ℕ} → Cause program g alu predicate booleans n →
    Cause program g alu predicate booleans m → n ≡ m
one_number (loop_op a b) (loop_op c d) = refl
one_number (loop_op a b) (return_op c d) = refl
one_number (loop_op a b) (counter_at_five z y o) = absurd (omega (arith, a, z))
one_number (return_op a b) (loop_op c d) = refl
one_number (return_op a b) (return_op c d) = refl
one_number (return_op a b) (counter_at_five z y o) = absurd (omega (arith, a, y))
one_number (counter_at_five z y o) (loop_op a b) = absurd (omega (arith, a, z))
one_number (counter_at_five z y o) (return_op a b) = absurd (omega (arith, a, y))
one_number (counter_at_five z y o) (counter_at_five u v q) = refl
