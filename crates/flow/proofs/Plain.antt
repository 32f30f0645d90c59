-- Request 4, "With op 0 every old answer stays": a run of slots whose ops are all 0 is document 01's run, whatever integer words are lent, and
-- whatever loops are open, which it leaves as they are. Assumes nothing.
use mathlib.Core.Path.{◌≡◌, refl, ap, ◌∙◌}
use mathlib.Core.Bool.{Bool, true, false}
use mathlib.Core.List.{List, [], ◌∷◌}
use Prim.Native.Nat.{ℕ}
use lib.Dec.{leb}
use lib.ListN.{get_or}
use borrow.Author.Tests.{leb-false}
use Rattle.laws.specs.Choice.{pick}
use Rattle.loops.specs.Loops.{Opened}
use Rattle.group.specs.Proc.{Proc, counter_limit}
use Rattle.group.specs.Modes.{Full}
use Rattle.group.specs.Group.{Group, Outcome, Steps, Fails, Program, Way, Goes, Stuck, Run, Makes, Breaks, once_more, go_on}
use Rattle.group.specs.Group.{a_op, branch_op, jump_address, over_limit, allowed, way_of, arrived, settled, jump_step, with_loops, store_slots, ended, group_step, group_steps, group_run}
use Rattle.group.proofs.State.{old_answers}
use Rattle.flow.specs.Plain.{AllPlain, plain_step, plain_steps, plain_run, loops_after_step, loops_after}

-- two choices by one test
both_picks : {A : Type 0} (t : Bool) (a b b' : A) → (t ≡ false → b ≡ b') → pick t a b ≡ pick t a b'
unfolding pick
both_picks true a b b' e = refl
both_picks false a b b' e = e refl

first_picks : {A : Type 0} (t : Bool) (a a' b : A) → a ≡ a' → pick t a b ≡ pick t a' b
unfolding pick
first_picks true a a' b e = e
first_picks false a a' b e = refl

module _ (program : Program) (plain : AllPlain program) (booleans : ℕ) where
  abbrev plain_step_here : ℕ → ℕ → Group → Outcome
  plain_step_here alu predicate g = plain_step program.firsts program.seconds program.slots alu predicate booleans g

  pub old_step : (alu predicate : ℕ) (g : Group) → group_step Full program alu predicate booleans g ≡ plain_step_here alu predicate g
  unfolding group_step plain_step ended
  old_step alu predicate g =
      both_picks (leb program.slots g.position) _ _ _
      (λ e.
      first_picks (leb program.slots store_slots) _ _ _
      (old_answers program.slots program.integers (get_or program.firsts g.position 0) (get_or program.seconds g.position 0)
      alu predicate booleans g (plain g.position (leb-false program.slots g.position e))))

  old_goes :
      (masks : List ℕ) →
      ((g : Group) → group_steps Full program booleans masks g ≡ plain_steps program.firsts program.seconds program.slots booleans masks g) →
      (o : Outcome) →
      go_on o (λ g'. group_steps Full program booleans masks g') ≡
      go_on o (λ g'. plain_steps program.firsts program.seconds program.slots booleans masks g')
  old_goes masks ih (Steps jump g) = ap once_more (ih g)
  old_goes masks ih (Fails why) = refl

  old_steps :
      (masks : List ℕ) (g : Group) →
      group_steps Full program booleans masks g ≡ plain_steps program.firsts program.seconds program.slots booleans masks g
  unfolding group_steps plain_steps ended
  old_steps [] g = refl
  old_steps (alu ∷ []) g = refl
  old_steps (alu ∷ (predicate ∷ masks)) g =
      both_picks (leb program.slots g.position) _ _ _
      (λ e.
      old_goes masks (old_steps masks) (group_step Full program alu predicate booleans g) ∙
      ap (λ (o : Outcome). go_on o (λ g'. plain_steps program.firsts program.seconds program.slots booleans masks g')) (old_step alu predicate g))

  -- a run of slots whose ops are all 0 is document 01's run
  pub old_run :
      (masks : List ℕ) (g : Group) →
      group_run Full program booleans masks g ≡ plain_run program.firsts program.seconds program.slots booleans masks g
  unfolding group_run plain_run ended
  old_run masks g = both_picks (leb program.slots g.position) _ _ _ (λ e. old_steps masks g)

-- document 01's run looks at no loop: with others open it answers the same and leaves those
chosen_loops :
    (loops : List Opened) (t : Bool) (a b : Outcome) {a' b' : Outcome} → a' ≡ loops_after_step loops a → b' ≡ loops_after_step loops b →
    pick t a' b' ≡ loops_after_step loops (pick t a b)
unfolding pick
chosen_loops loops true a b e f = e
chosen_loops loops false a b e f = f

arrived_loops :
    (slots : ℕ) (jump : Bool) (procs : ℕ → Proc) (g : Group) (loops : List Opened) (w : Way) →
    arrived slots jump procs (with_loops g loops) w ≡ loops_after_step loops (arrived slots jump procs g w)
arrived_loops slots jump procs g loops Stuck = refl
arrived_loops slots jump procs g loops (Goes next rs) = chosen_loops loops (leb next slots) _ _ refl refl

settled_loops :
    (limit slots first second : ℕ) (jump : Bool) (wish : ℕ → Bool) (procs : ℕ → Proc) (g : Group) (loops : List Opened) →
    settled limit slots first second jump wish procs (with_loops g loops) ≡
    loops_after_step loops (settled limit slots first second jump wish procs g)
unfolding settled
settled_loops limit slots first second jump wish procs g loops =
    chosen_loops loops (over_limit limit (branch_op jump first) procs) _ _ refl
    (arrived_loops slots jump _ g loops (way_of (a_op first) jump g.position (jump_address second) g.returns))

module _ (firsts seconds : List ℕ) (slots booleans : ℕ) (loops : List Opened) where
  jump_loops :
      (limit first second alu predicate : ℕ) (g : Group) →
      jump_step limit slots first second alu predicate booleans (with_loops g loops) ≡
      loops_after_step loops (jump_step limit slots first second alu predicate booleans g)
  unfolding jump_step
  jump_loops limit first second alu predicate g =
      chosen_loops loops (allowed first second) _ _ (settled_loops limit slots first second _ _ _ g loops) refl

  plain_step_loops :
      (alu predicate : ℕ) (g : Group) →
      plain_step firsts seconds slots alu predicate booleans (with_loops g loops) ≡
      loops_after_step loops (plain_step firsts seconds slots alu predicate booleans g)
  unfolding plain_step
  plain_step_loops alu predicate g =
      chosen_loops loops (leb slots g.position) _ _ refl
      (chosen_loops loops (leb slots store_slots) _ _
      (jump_loops counter_limit (get_or firsts g.position 0) (get_or seconds g.position 0) alu predicate g)
      refl)

  chosen_runs :
      (t : Bool) (a b : Run) {a' b' : Run} → a' ≡ loops_after loops a → b' ≡ loops_after loops b → pick t a' b' ≡ loops_after loops (pick t a b)
  unfolding pick
  chosen_runs true a b e f = e
  chosen_runs false a b e f = f

  once_loops : (r : Run) → once_more (loops_after loops r) ≡ loops_after loops (once_more r)
  once_loops (Makes n g) = refl
  once_loops (Breaks why) = refl

  goes_loops :
      (masks : List ℕ) →
      ((g : Group) →
      plain_steps firsts seconds slots booleans masks (with_loops g loops) ≡ loops_after loops (plain_steps firsts seconds slots booleans masks g)) →
      (o : Outcome) →
      go_on (loops_after_step loops o) (λ g'. plain_steps firsts seconds slots booleans masks g') ≡
      loops_after loops (go_on o (λ g'. plain_steps firsts seconds slots booleans masks g'))
  goes_loops masks ih (Steps jump g) = ap once_more (ih g) ∙ once_loops (plain_steps firsts seconds slots booleans masks g)
  goes_loops masks ih (Fails why) = refl

  plain_steps_loops :
      (masks : List ℕ) (g : Group) →
      plain_steps firsts seconds slots booleans masks (with_loops g loops) ≡ loops_after loops (plain_steps firsts seconds slots booleans masks g)
  unfolding plain_steps
  plain_steps_loops [] g = refl
  plain_steps_loops (alu ∷ []) g = refl
  plain_steps_loops (alu ∷ (predicate ∷ masks)) g =
      chosen_runs (leb slots g.position) _ _ refl
      (ap (λ (o : Outcome). go_on o (λ g'. plain_steps firsts seconds slots booleans masks g')) (plain_step_loops alu predicate g) ∙
      goes_loops masks (plain_steps_loops masks) (plain_step firsts seconds slots alu predicate booleans g))

  pub plain_run_loops :
      (masks : List ℕ) (g : Group) →
      plain_run firsts seconds slots booleans masks (with_loops g loops) ≡ loops_after loops (plain_run firsts seconds slots booleans masks g)
  unfolding plain_run
  plain_run_loops masks g = chosen_runs (leb slots g.position) _ _ refl (plain_steps_loops masks g)
