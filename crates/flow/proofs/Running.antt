-- A run is its steps one after the other: the loop's turns as the code makes them, the report, and the law that a run's list
-- may be cut in two at a step. Assumes nothing.
use mathlib.Core.Path.{◌≡◌, refl, sym, ap, ap₂, ◌∙◌, subst}
use mathlib.Core.Bool.{Bool, true}
use mathlib.Core.List.{List, [], ◌∷◌, ◌++◌}
use Prim.Native.Nat.{ℕ, suc, ◌+◌, ◌*◌, ◌/◌, ◌%◌, ◌<◌, ◌≤◌}
use native.Mathlib.Nat.{zero-add, add-zero}
use native.Mathlib.Omega.{arith}
use lib.ListN.{length, get_or, drop, length-drop}
use lib.Seq.{drop-cons}
use borrow.Author.Tests.{le-leb, lt-leb}
use Rattle.laws.specs.Choice.{pick}
use Rattle.laws.specs.Below.{count, least}
use Rattle.laws.specs.Masks.{on}
use Rattle.laws.proofs.Choice.{Tested, holds, fails, tested, pick_yes, pick_no, by_pick}
use Rattle.laws.proofs.Below.{count_same, least_same}
use Rattle.laws.proofs.Masks.{on_pack}
use Rattle.refusal.specs.Number.{number_of}
use Rattle.refusal.specs.Told.{gives}
use Rattle.refusal.specs.declared.Refusal.{Refusal}
use Rattle.refusal.specs.declared.Refusal.TheVariants.{Ended}
use Rattle.std.specs.Prelude.{Result, Ok, Err}
use Rattle.group.specs.Proc.{is_active}
use Rattle.group.specs.Modes.{Mode, limit_of}
use Rattle.group.specs.Group.{Group, Outcome, Steps, Fails, Program, Run, Makes, Breaks, ended, group_step, once_more, go_on, group_steps}
use Rattle.group.specs.Group.{group_run, run_told, first_active, number_active}
use Rattle.group.specs.Cells.{active_in, position_in, mode_in, group_of, cells_of, Sound, GroupGiven, run_leaves}
use Rattle.stepper.specs.Answers.{MoveDone, own_limit, program_of, step_in, run_in}
use Rattle.flow.specs.Answers.{RunDone, steps_in, steps_told, StepsDone}
use Rattle.flow.proofs.Answers.{refusal_number}
use Rattle.group.proofs.State.{SoundAfter, given_of, group_back, mode_kept, given_masks, step_sound}

-- a run of one step
abbrev single : Outcome → Run
single o = go_on o (λ g. Makes 0 g)

-- a step's answer as a run's of one step
abbrev pub made_step : Result Bool Refusal → Result ℕ Refusal
made_step (Ok jump) = Ok 1
made_step (Err why) = Err why

module _ (l firsts seconds : List ℕ) (slots alu predicate booleans : ℕ) (integers : List ℕ) (m : GroupGiven l) where
  abbrev here : Outcome
  here = step_in firsts seconds slots l alu predicate booleans integers

  pub sound_here : SoundAfter (own_limit l) here
  sound_here = step_sound (mode_in l) (program_of firsts seconds slots integers) alu predicate booleans (group_of l) m.sound

  pub one_made : {leaves : List ℕ} {r : Result Bool Refusal} → MoveDone l leaves r here → StepsDone l leaves (made_step r) (single here)
  one_made {leaves} {r} d = by here sound_here d
    where
      by : (o : Outcome) → SoundAfter (own_limit l) o → MoveDone l leaves r o → StepsDone l leaves (made_step r) (single o)
      by (Steps jump g) s k =
          subst (λ (x : Result Bool Refusal). StepsDone l leaves (made_step x) (Makes 1 g)) (sym k.answer)
          (record {
            told = ap (Makes 1) (ap group_of k.left ∙ group_back (mode_in l) g s);
            given = subst GroupGiven (sym k.left) (given_of (mode_in l) g s);
            mode = ap mode_in k.left ∙ mode_kept (mode_in l) g;
          })
      by (Fails n) s k =
          subst (λ (x : Result Bool Refusal). StepsDone l leaves (made_step x) (Breaks n)) (sym k.answer)
          (record {
            told = ap Breaks (refusal_number n s.0 s.1);
            given = subst GroupGiven (sym k.left) m;
            mode = ap mode_in k.left;
          })

-- a run after so many steps
abbrev pub plus : ℕ → Run → Run
plus n (Makes k g) = Makes (n + k) g
plus n (Breaks why) = Breaks why

pub plus_zero : (r : Run) → r ≡ plus 0 r
plus_zero (Makes k g) = ap (λ (n : ℕ). Makes n g) (sym (zero-add k))
plus_zero (Breaks why) = refl

plus_once : (n : ℕ) (r : Run) → plus n (once_more r) ≡ plus (n + 1) r
plus_once n (Makes k g) = ap (λ (j : ℕ). Makes j g) (later n k)
  where
    later : (n k : ℕ) → n + suc k ≡ n + 1 + k
    later n k = omega arith
plus_once n (Breaks why) = refl

-- where the program has ended, or fewer than two masks are left, no step is made
steps_ended :
    (mode : Mode) (program : Program) (booleans : ℕ) (masks : List ℕ) (g : Group) → ended program g ≡ true →
    group_steps mode program booleans masks g ≡ Makes 0 g
unfolding group_steps
steps_ended mode program booleans [] g e = refl
steps_ended mode program booleans (a ∷ []) g e = refl
steps_ended mode program booleans (a ∷ (b ∷ masks)) g e = pick_yes _ _ e

steps_short :
    (mode : Mode) (program : Program) (booleans : ℕ) (masks : List ℕ) (g : Group) → length masks < 2 →
    group_steps mode program booleans masks g ≡ Makes 0 g
unfolding group_steps
steps_short mode program booleans [] g h = refl
steps_short mode program booleans (a ∷ []) g h = refl
steps_short mode program booleans (a ∷ (b ∷ masks)) g h = absurd (two (length masks) h)
  where
    two : (n : ℕ) → suc (suc n) < 2 → ⊥
    two n h = omega arith

-- what one step says of a run that begins with it
goes_on :
    (o : Outcome) (n : ℕ) (g : Group) (rest : Group → Run) → Makes n g ≡ single o → go_on o rest ≡ once_more (rest g)
goes_on (Steps jump g') n g rest e = ap (λ (x : Group). once_more (rest x)) (back e)
  where
    back : Makes n g ≡ Makes 1 g' → g' ≡ g
    back q = cc
goes_on (Fails why) n g rest e = let z : ◌≡◌ {A = ℕ} 0 1 = cc in absurd (omega arith)

breaks_off : (o : Outcome) (n : ℕ) (rest : Group → Run) → Breaks n ≡ single o → go_on o rest ≡ Breaks n
breaks_off (Steps jump g) n rest e = let z : ◌≡◌ {A = ℕ} 0 1 = cc in absurd (omega arith)
breaks_off (Fails why) n rest e = sym e

-- the loop: `made` steps are made, and the cells are `l` now
module _ (firsts seconds : List ℕ) (slots booleans : ℕ) (masks integers l₀ : List ℕ) (made : ℕ) (l : List ℕ)
    (same : mode_in l ≡ mode_in l₀)
    (inv :
    steps_in firsts seconds slots l₀ masks booleans integers ≡
    plus made (group_steps (mode_in l₀) (program_of firsts seconds slots integers) booleans (drop (made * 2) masks) (group_of l)))
  where
    abbrev program : Program
    program = program_of firsts seconds slots integers

    abbrev whole : Run
    whole = group_steps (mode_in l₀) program booleans masks (group_of l₀)

    stands : group_steps (mode_in l₀) program booleans (drop (made * 2) masks) (group_of l) ≡ Makes 0 (group_of l) → Makes made (group_of l) ≡ whole
    stands e = sym (inv ∙ ap (plus made) e ∙ ap (λ (n : ℕ). Makes n (group_of l)) (add-zero made))

    pub turns_ended : slots ≤ position_in l → GroupGiven l → StepsDone l₀ l (Ok made) whole
    unfolding ended
    turns_ended h m =
        record {
          told = stands (steps_ended (mode_in l₀) program booleans (drop (made * 2) masks) (group_of l) (le-leb slots (position_in l) h));
          given = m;
          mode = same;
        }

    pub turns_out : {n : ℕ} → n ≡ made → length masks / 2 ≤ made → GroupGiven l → StepsDone l₀ l (Ok n) whole
    turns_out e h m =
        record {
          told =
              ap (λ (n : ℕ). Makes n (group_of l)) e ∙ stands
              (steps_short (mode_in l₀) program booleans (drop (made * 2) masks) (group_of l)
              (omega (arith, length-drop (made * 2) masks)));
          given = m;
          mode = same;
        }

    -- a turn
    module _ (more : made < length masks / 2) (goes : position_in l < slots) where
      abbrev first : Outcome
      first = group_step (mode_in l₀) program (get_or masks (made * 2) 0) (get_or masks (made * 2 + 1) 0) booleans (group_of l)

      two_left : drop (made * 2) masks ≡ get_or masks (made * 2) 0 ∷ (get_or masks (made * 2 + 1) 0 ∷ drop ((made + 1) * 2) masks)
      two_left =
          drop-cons masks (made * 2) 0 (omega arith) ∙
          ap (λ (x : List ℕ). get_or masks (made * 2) 0 ∷ x)
          (ap (λ (n : ℕ). drop n masks) (one made) ∙ drop-cons masks (made * 2 + 1) 0 (omega arith) ∙
          ap (λ (n : ℕ). get_or masks (made * 2 + 1) 0 ∷ drop n masks) (two made))
        where
          one : (n : ℕ) → suc (n * 2) ≡ n * 2 + 1
          one n = omega arith

          two : (n : ℕ) → suc (n * 2 + 1) ≡ (n + 1) * 2
          two n = omega arith

      turn :
          group_steps (mode_in l₀) program booleans (drop (made * 2) masks) (group_of l) ≡
          go_on first (λ g. group_steps (mode_in l₀) program booleans (drop ((made + 1) * 2) masks) g)
      unfolding group_steps ended
      turn =
          ap (λ (x : List ℕ). group_steps (mode_in l₀) program booleans x (group_of l)) two_left ∙ pick_no _ _ (lt-leb slots (position_in l) goes)

      module _ {l' : List ℕ} {r : Result ℕ Refusal}
          (d :
          StepsDone l l' r
          (single (group_step (mode_in l) program (get_or masks (made * 2) 0) (get_or masks (made * 2 + 1) 0) booleans (group_of l)))) where
        made_first : steps_told r l' ≡ single first
        made_first =
            d.told ∙
            ap (λ (m : Mode). single (group_step m program (get_or masks (made * 2) 0) (get_or masks (made * 2 + 1) 0) booleans (group_of l))) same

        pub turns_mode : mode_in l' ≡ mode_in l₀
        turns_mode = d.mode ∙ same

        pub turns_refused : {why : Refusal} → r ≡ Err why → StepsDone l₀ l' (Err why) whole
        turns_refused {why} e =
            record {
              told =
                  sym
                  (inv ∙ ap (plus made)
                  (turn ∙ breaks_off first (number_of why) _ (sym (ap (λ (x : Result ℕ Refusal). steps_told x l') e) ∙ made_first)));
              given = d.given;
              mode = turns_mode;
            }

        pub turns_again :
            {n : ℕ} → r ≡ Ok n →
            whole ≡ plus (made + 1) (group_steps (mode_in l₀) program booleans (drop ((made + 1) * 2) masks) (group_of l'))
        turns_again {n} e =
            inv ∙
            ap (plus made) (turn ∙ goes_on first n (group_of l') _ (sym (ap (λ (x : Result ℕ Refusal). steps_told x l') e) ∙ made_first)) ∙
            plus_once made (group_steps (mode_in l₀) program booleans (drop ((made + 1) * 2) masks) (group_of l'))

-- the report: the masks' count and least bit are those of the processors
module _ (l : List ℕ) (m : GroupGiven l) where
  active_at : (i : ℕ) → i < 32 → on i (active_in l) ≡ is_active ((group_of l).procs i)
  active_at i h = ap (on i) (given_masks l m).active_word ∙ on_pack 32 i (λ j. is_active ((group_of l).procs j)) h

  pub first_is : least 32 (λ i. on i (active_in l)) ≡ first_active (group_of l)
  unfolding first_active
  first_is = least_same 32 _ _ active_at

  pub number_is : count 32 (λ i. on i (active_in l)) ≡ number_active (group_of l)
  unfolding number_active
  number_is = count_same 32 _ _ active_at

-- a whole run
module _ (l firsts seconds : List ℕ) (slots booleans : ℕ) (masks integers : List ℕ) where
  abbrev whole_run : Run
  whole_run = run_in firsts seconds slots l masks booleans integers

  pub run_ended : slots ≤ position_in l → RunDone l l (Err Ended) whole_run
  unfolding group_run ended
  run_ended h =
      let e : whole_run ≡ Breaks 16 = pick_yes _ _ (le-leb slots (position_in l) h) in
      record { told = sym (ap run_told e); left = sym (ap (run_leaves l) e) }

  module _ (goes : position_in l < slots) {l' : List ℕ} {r : Result ℕ Refusal}
      (d : StepsDone l l' r (steps_in firsts seconds slots l masks booleans integers)) where
    is_run : steps_told r l' ≡ whole_run
    unfolding group_run ended
    is_run = d.told ∙ sym (pick_no _ _ (lt-leb slots (position_in l) goes))

    pub run_made :
        {n first active : ℕ} → r ≡ Ok n → first ≡ least 32 (λ i. on i (active_in l')) →
        active ≡ count 32 (λ i. on i (active_in l')) → RunDone l l' (Ok (record { steps = n; first = first; active = active })) whole_run
    run_made {n} {first} {active} e ef ea =
        let o : Makes n (group_of l') ≡ whole_run = sym (ap (λ (x : Result ℕ Refusal). steps_told x l') e) ∙ is_run in
        record {
          told =
              ap₂ (λ (f a : ℕ). gives (n ∷ f ∷ a ∷ [])) (ef ∙ first_is l' d.given) (ea ∙ number_is l' d.given) ∙ ap run_told o;
          left = d.given.whole ∙ ap (λ (m : Mode). cells_of m (group_of l')) d.mode ∙ ap (run_leaves l) o;
        }

    pub run_refused : {why : Refusal} → r ≡ Err why → RunDone l l (Err why) whole_run
    run_refused {why} e =
        let o : Breaks (number_of why) ≡ whole_run = sym (ap (λ (x : Result ℕ Refusal). steps_told x l') e) ∙ is_run in
        record { told = ap run_told o; left = ap (run_leaves l) o }

-- a run goes on where another one left off
abbrev pub afterwards : Run → (Group → Run) → Run
afterwards (Makes n g) rest = plus n (rest g)
afterwards (Breaks why) rest = Breaks why

once_after : (r : Run) (rest : Group → Run) → once_more (afterwards r rest) ≡ afterwards (once_more r) rest
once_after (Makes n g) rest = one n (rest g)
  where
    one : (n : ℕ) (r : Run) → once_more (plus n r) ≡ plus (suc n) r
    one n (Makes k g) = ap (λ (j : ℕ). Makes j g) (suc_sum n k)
      where
        suc_sum : (n k : ℕ) → suc (n + k) ≡ suc n + k
        suc_sum n k = omega arith
    one n (Breaks why) = refl
once_after (Breaks why) rest = refl

-- a list of masks may be cut in two at any step: the steps are the first part's, and then the second part's from there
pub steps_cut :
    (mode : Mode) (program : Program) (booleans : ℕ) (a b : List ℕ) (g : Group) → length a % 2 ≡ 0 →
    group_steps mode program booleans (a ++ b) g ≡ afterwards (group_steps mode program booleans a g) (λ g'. group_steps mode program booleans b g')
unfolding group_steps
steps_cut mode program booleans [] b g e = plus_zero (group_steps mode program booleans b g)
steps_cut mode program booleans (x ∷ []) b g e = let z : ◌≡◌ {A = ℕ} 1 0 = e in absurd (omega arith)
steps_cut mode program booleans (x ∷ (y ∷ a)) b g e =
    by_step (steps_cut mode program booleans a b) (tested (ended program g))
  where
    even : suc (suc (length a)) % 2 ≡ 0 → length a % 2 ≡ 0
    even h = omega arith

    on_outcome :
        ((g' : Group) → length a % 2 ≡ 0 → group_steps mode program booleans (a ++ b) g'
        ≡ afterwards (group_steps mode program booleans a g') (λ h. group_steps mode program booleans b h)) →
        (o : Outcome) →
        go_on o (λ g'. group_steps mode program booleans (a ++ b) g') ≡
        afterwards (go_on o (λ g'. group_steps mode program booleans a g')) (λ h. group_steps mode program booleans b h)
    on_outcome ih (Steps jump g') = ap once_more (ih g' (even e)) ∙ once_after (group_steps mode program booleans a g') _
    on_outcome ih (Fails why) = refl

    by_step :
        ((g' : Group) → length a % 2 ≡ 0 → group_steps mode program booleans (a ++ b) g'
        ≡ afterwards (group_steps mode program booleans a g') (λ h. group_steps mode program booleans b h)) →
        Tested (ended program g) →
        pick (ended program g) (Makes 0 g)
        (go_on (group_step mode program x y booleans g) (λ g'. group_steps mode program booleans (a ++ b) g')) ≡
        afterwards
        (pick (ended program g) (Makes 0 g)
        (go_on (group_step mode program x y booleans g) (λ g'. group_steps mode program booleans a g')))
        (λ h. group_steps mode program booleans b h)
    by_step ih (holds t) =
        pick_yes _ _ t ∙ sym (steps_ended mode program booleans b g t) ∙ plus_zero (group_steps mode program booleans b g) ∙
        ap (λ (r : Run). afterwards r (λ h. group_steps mode program booleans b h)) (sym (pick_yes _ _ t))
    by_step ih (fails t) =
        pick_no _ _ t ∙ on_outcome ih (group_step mode program x y booleans g) ∙
        ap (λ (r : Run). afterwards r (λ h. group_steps mode program booleans b h)) (sym (pick_no _ _ t))

-- and so may a run: where the first part is made and the program hasn't ended, the second part is a run of its own; where it
-- has, the masks left over aren't read
pub run_cut :
    (mode : Mode) (program : Program) (booleans : ℕ) (a b : List ℕ) (g g' : Group) (n : ℕ) → length a % 2 ≡ 0 →
    group_run mode program booleans a g ≡ Makes n g' →
    group_run mode program booleans (a ++ b) g ≡ pick (ended program g') (Makes n g') (plus n (group_run mode program booleans b g'))
unfolding group_run
run_cut mode program booleans a b g g' n e made = first (tested (ended program g))
  where
    second :
        Tested (ended program g') →
        plus n (group_steps mode program booleans b g') ≡
        pick (ended program g') (Makes n g') (plus n (pick (ended program g') (Breaks 16) (group_steps mode program booleans b g')))
    second (holds t) =
        ap (plus n) (steps_ended mode program booleans b g' t) ∙ ap (λ (k : ℕ). Makes k g') (add-zero n) ∙ sym (pick_yes _ _ t)
    second (fails t) = sym (pick_no _ _ t ∙ ap (plus n) (pick_no _ _ t))

    first :
        Tested (ended program g) →
        pick (ended program g) (Breaks 16) (group_steps mode program booleans (a ++ b) g) ≡
        pick (ended program g') (Makes n g') (plus n (pick (ended program g') (Breaks 16) (group_steps mode program booleans b g')))
    first (holds t) =
        let q : Breaks 16 ≡ Makes n g' = sym (pick_yes _ _ t) ∙ made in
        let z : ◌≡◌ {A = ℕ} 0 1 = cc in
        absurd (omega arith)
    first (fails t) =
        pick_no _ _ t ∙ steps_cut mode program booleans a b g e ∙
        ap (λ (r : Run). afterwards r (λ h. group_steps mode program booleans b h)) (sym (pick_no _ _ t) ∙ made) ∙
        second (tested (ended program g'))

-- a run leads from a sound group to a sound one
abbrev pub SoundRun : ℕ → Run → Type 0
SoundRun limit (Makes n g) = Sound limit g
SoundRun limit (Breaks why) = Unit {0}

once_sound : (limit : ℕ) (r : Run) → SoundRun limit r → SoundRun limit (once_more r)
once_sound limit (Makes n g) s = s
once_sound limit (Breaks why) s = s

pub steps_sound :
    (mode : Mode) (program : Program) (booleans : ℕ) (masks : List ℕ) (g : Group) → Sound (limit_of mode) g →
    SoundRun (limit_of mode) (group_steps mode program booleans masks g)
unfolding group_steps
steps_sound mode program booleans [] g s = s
steps_sound mode program booleans (a ∷ []) g s = s
steps_sound mode program booleans (a ∷ (b ∷ masks)) g s =
    by_pick (SoundRun (limit_of mode)) (ended program g) _ _ (λ e. s)
    (λ e.
    rest (steps_sound mode program booleans masks) (group_step mode program a b booleans g)
    (step_sound mode program a b booleans g s))
  where
    rest :
        ((g' : Group) → Sound (limit_of mode) g' → SoundRun (limit_of mode) (group_steps mode program booleans masks g')) →
        (o : Outcome) → SoundAfter (limit_of mode) o → SoundRun (limit_of mode) (go_on o (λ g'. group_steps mode program booleans masks g'))
    rest ih (Steps jump g') t = once_sound (limit_of mode) (group_steps mode program booleans masks g') (ih g' t)
    rest ih (Fails why) t = tt
