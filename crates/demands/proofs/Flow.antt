-- A step that is made does to each processor, the return stack and the position what document 01 says, one that is refused has its
-- cause, and a run is its steps; mask bits above the group change nothing; the cells given out are those taken. Assumes nothing.
use mathlib.Core.Path.{◌≡◌, refl, sym, ap, ap₂, ◌∙◌, subst}
use mathlib.Core.Bool.{Bool, true, false, not}
use mathlib.Core.List.{List, [], ◌∷◌}
use Prim.Native.Nat.{ℕ, zero, suc, ◌<◌}
use native.Mathlib.Omega.{arith}
use lib.Dec.{eqb, leb}
use borrow.Author.Tests.{leb-true, leb-false}
use Rattle.laws.specs.Choice.{◌and◌, pick}
use Rattle.laws.specs.Masks.{◌or◌, on}
use Rattle.laws.proofs.Choice.{Tested, tested, holds, fails, pick_yes, pick_no, by_pick, and_left, and_right, and_yes, and_no_left}
use Rattle.laws.proofs.Below.{some_same, every_same}
use Rattle.refusal.specs.Told.{gives, refuses}
use Rattle.loops.specs.Loops.{Opened, Turn, Turns, NoRoom, NoWord, turn_of}
use Rattle.group.specs.Proc.{Proc, Active, Idle, Absent, is_live, is_active, turned, wants, decided, branched}
use Rattle.group.specs.Modes.{Mode, limit_of, mode_of, is_mode}
use Rattle.group.specs.Group.{
  Program,
  Group,
  Outcome,
  Steps,
  Fails,
  Way,
  Goes,
  Stuck,
  Run,
  Makes,
  Breaks,
  once_more,
  go_on,
  permits,
  allowed,
  allowed_loop,
  a_op,
  jump_func,
  b_else,
  jump_any,
  pop_count,
  branch_op,
  boolean_number,
  jump_address,
  turned_if,
  wish_of,
  over_limit,
  way_of,
  arrived,
  settled,
  jump_step,
  on_turn,
  with_loops,
  loop_step,
  slot_step,
  ended,
  group_step,
  group_steps,
  group_run,
  is_group_size,
  may_begin,
  fresh,
  begin_told,
}
use Rattle.group.specs.Cells.{group_of, run_leaves, begin_leaves}
use Rattle.group.specs.Cells as cells
use Rattle.group.proofs.State.{given_of, left_given, mode_kept, step_sound, turned_live, branched_live}
use Rattle.kill.proofs.Through.{kill_leaves_given}
use Rattle.flow.proofs.Beginning.{begin_given}
use Rattle.flow.proofs.Running.{SoundRun, steps_sound}
use Rattle.flow.specs.Looping.{op_at, integer_at}
use Rattle.refusal.specs.Crossing.{status_of}
use Rattle.group_rooms.specs.Rooms.{BeginCrosses}
use Rattle.demands.specs.Flow.{
  first_at,
  second_at,
  fitting,
  elsed,
  wishes,
  wanted,
  decision,
  next,
  Made,
  Refused,
  has_ended,
  too_many,
  bad_field,
  bad_integer,
  loops_at_limit,
  counter_at_limit,
  stack_at_limit,
  past_end,
  Walk,
  list_out,
  half_pair,
  program_out,
  one_more,
  step_fails,
  Ran,
  over,
  walked,
  Agree,
  AllAgree,
  Handed,
  begun,
  stepped,
  ran,
  killed,
  checked,
}
use Rattle.demands.specs.Flow as flow

-- a step on a slot's words as one rule: the words, what decides, and the rest
slot_by_decision :
    (mode : Mode) (p : Program) (alu predicate booleans : ℕ) (g : Group) →
    slot_step mode p.slots p.integers (first_at p g) (second_at p g) alu predicate booleans g ≡
    pick (fitting mode p g)
    (on_turn (decision mode p alu predicate booleans g)
    (λ jump loops. settled (limit_of mode) p.slots (first_at p g) (second_at p g) jump (wishes mode p alu predicate booleans g) (elsed p g) (with_loops g loops)))
    (Fails 13)
unfolding slot_step jump_step loop_step
slot_by_decision mode p alu predicate booleans g = by (tested (permits mode (first_at p g))) (tested (eqb (op_at p g) 0))
  where
    rest : Bool → List Opened → Outcome
    rest jump loops =
        settled (limit_of mode) p.slots (first_at p g) (second_at p g) jump (wishes mode p alu predicate booleans g) (elsed p g) (with_loops g loops)

    old : Turn
    old = Turns (wanted mode p alu predicate booleans g) g.loops

    loops : Turn
    loops = turn_of (op_at p g) (integer_at p g) g.loops

    by :
        Tested (permits mode (first_at p g)) → Tested (eqb (op_at p g) 0) →
        slot_step mode p.slots p.integers (first_at p g) (second_at p g) alu predicate booleans g ≡
        pick (fitting mode p g) (on_turn (decision mode p alu predicate booleans g) rest) (Fails 13)
    by (fails m) t = pick_no _ _ m ∙ sym (pick_no _ _ (and_no_left _ m))
    by (holds m) (holds e) =
        pick_yes _ _ m ∙ pick_yes _ _ e ∙
        sym
        (ap₂ (λ (b : Bool) (t : Turn). pick b (on_turn t rest) (Fails 13))
        (and_yes _ m ∙ pick_yes (allowed (first_at p g) (second_at p g)) (allowed_loop (first_at p g) (second_at p g)) e) (pick_yes old loops e))
    by (holds m) (fails e) =
        pick_yes _ _ m ∙ pick_no _ _ e ∙
        sym
        (ap₂ (λ (b : Bool) (t : Turn). pick b (on_turn t rest) (Fails 13))
        (and_yes _ m ∙ pick_no (allowed (first_at p g) (second_at p g)) (allowed_loop (first_at p g) (second_at p g)) e) (pick_no old loops e))

-- what an outcome shows
module _ (mode : Mode) (p : Program) (alu predicate booleans : ℕ) (g : Group) where
  abbrev Shown : Outcome → Type 0
  Shown (Steps jump g') = Made mode p alu predicate booleans g jump g'
  Shown (Fails why) = Refused mode p alu predicate booleans g why

  abbrev procs : Bool → ℕ → Proc
  procs jump i =
      branched (branch_op jump (first_at p g)) (pop_count (first_at p g)) jump (wishes mode p alu predicate booleans g i) (elsed p g i)

  module _ (running : g.position < p.slots) (fields : fitting mode p g ≡ true) where
    shown_way :
        (jump : Bool) (loops : List Opened) → decision mode p alu predicate booleans g ≡ Turns jump loops →
        over_limit (limit_of mode) (branch_op jump (first_at p g)) (elsed p g) ≡ false →
        (w : Way) → next mode p alu predicate booleans g jump ≡ w → Shown (arrived p.slots jump (procs jump) (with_loops g loops) w)
    shown_way jump loops d counters Stuck e = stack_at_limit running fields jump loops d counters e
    shown_way jump loops d counters (Goes at returns) e =
        by_pick Shown (leb at p.slots) _ _
        (λ t.
        record {
          running = running;
          fields = fields;
          decides = d;
          counters = counters;
          each_processor = λ i. refl;
          stack = e;
          place = leb-true at p.slots t;
        })
        (λ t. past_end running fields jump loops d counters at returns e (leb-false at p.slots t))

    shown_turn :
        (t : Turn) → decision mode p alu predicate booleans g ≡ t →
        Shown
        (on_turn t
        (λ jump loops. settled (limit_of mode) p.slots (first_at p g) (second_at p g) jump (wishes mode p alu predicate booleans g) (elsed p g) (with_loops g loops)))
    unfolding settled
    shown_turn (Turns jump loops) d =
        by_pick Shown (over_limit (limit_of mode) (branch_op jump (first_at p g)) (elsed p g)) _ _ (λ o. counter_at_limit running fields jump loops d o)
        (λ o. shown_way jump loops d o (next mode p alu predicate booleans g jump) refl)
    shown_turn NoRoom d = loops_at_limit running fields d
    shown_turn NoWord d = bad_integer running fields d

  pub shown : Shown (group_step mode p alu predicate booleans g)
  unfolding group_step ended
  shown =
      by_pick Shown (leb p.slots g.position) _ _ (λ t. has_ended (leb-true p.slots g.position t))
      (λ t.
      let running = leb-false p.slots g.position t in
      by_pick Shown (leb p.slots 512) _ _
      (λ u.
      subst Shown (sym (slot_by_decision mode p alu predicate booleans g))
      (by_pick Shown (fitting mode p g) _ _ (λ f. shown_turn running f (decision mode p alu predicate booleans g) refl) (λ f. bad_field running f)))
      (λ u. too_many running (leb-false p.slots 512 u)))

  pub step_made : (j : Bool) (g' : Group) → group_step mode p alu predicate booleans g ≡ Steps j g' → Made mode p alu predicate booleans g j g'
  step_made j g' e = subst Shown e shown

  pub step_refused : (n : ℕ) → group_step mode p alu predicate booleans g ≡ Fails n → Refused mode p alu predicate booleans g n
  step_refused n e = subst Shown e shown

-- a run
module _ (mode : Mode) (p : Program) (booleans : ℕ) where
  outcome : (alu predicate : ℕ) (masks : List ℕ) (g : Group) (o : Outcome) → ended p g ≡ false → group_step mode p alu predicate booleans g ≡ o →
      ((g' : Group) → Walk mode p booleans masks g' (group_steps mode p booleans masks g')) →
      Walk mode p booleans (alu ∷ (predicate ∷ masks)) g (go_on o (λ g'. group_steps mode p booleans masks g'))
  outcome alu predicate masks g (Steps jump g') t e rest =
      one_more alu predicate masks g g' jump (group_steps mode p booleans masks g') t e (rest g')
  outcome alu predicate masks g (Fails why) t e rest = step_fails alu predicate masks g why t e

  walk : (masks : List ℕ) (g : Group) → Walk mode p booleans masks g (group_steps mode p booleans masks g)
  unfolding group_steps
  walk [] g = list_out g
  walk (alu ∷ []) g = half_pair alu g
  walk (alu ∷ (predicate ∷ masks)) g =
      by_pick (Walk mode p booleans (alu ∷ (predicate ∷ masks)) g) (ended p g) _ _ (λ t. program_out alu predicate masks g t)
      (λ t. outcome alu predicate masks g (group_step mode p alu predicate booleans g) t refl (walk masks))

  pub run_walks : (masks : List ℕ) (g : Group) → Ran mode p booleans masks g (group_run mode p booleans masks g)
  unfolding group_run
  run_walks masks g =
      by_pick (Ran mode p booleans masks g) (ended p g) _ _ (λ t. over t) (λ t. walked (group_steps mode p booleans masks g) t (walk masks g))

-- the cells given out are those taken
begin_may : (size mode : ℕ) → 0 ≡ status_of (begin_told size mode) → may_begin size mode ≡ true
unfolding begin_told
begin_may size mode e = go (tested (may_begin size mode))
  where
    go : Tested (may_begin size mode) → may_begin size mode ≡ true
    go (holds t) = t
    go (fails t) = absurd (let z : 0 ≡ 13 = e ∙ ap status_of (pick_no (gives []) (refuses 13) t) in omega arith)

run_left : (l : List ℕ) (o : Run) → cells.GroupGiven l → SoundRun (limit_of (cells.mode_in l)) o → cells.GroupGiven (run_leaves l o)
run_left l (Makes n g) m s = given_of (cells.mode_in l) g s
run_left l (Breaks why) m s = m

pub handed_made : {l : List ℕ} → Handed l → cells.GroupGiven l
unfolding begin_leaves may_begin is_group_size group_run
handed_made (begun size mode c c' k) =
    let t = begin_may size mode k.status in
    let sized = and_left _ (is_mode mode) t in
    subst cells.GroupGiven (sym (k.left ∙ pick_yes _ _ t))
    (begin_given size (mode_of mode) (leb-true 1 size (and_left (leb 1 size) _ sized)) (leb-true size 32 (and_right (leb 1 size) _ sized)))
handed_made (stepped {cells = l} h p alu predicate booleans r c' a a' k) =
    subst cells.GroupGiven (sym k.left)
    (left_given l (group_step (cells.mode_in l) p alu predicate booleans (group_of l)) (handed_made h)
    (step_sound (cells.mode_in l) p alu predicate booleans (group_of l) (handed_made h).sound))
handed_made (ran {cells = l} h p booleans masks r c' a a' k) =
    subst cells.GroupGiven (sym k.left)
    (run_left l (group_run (cells.mode_in l) p booleans masks (group_of l)) (handed_made h)
    (by_pick (SoundRun (limit_of (cells.mode_in l))) (ended p (group_of l)) _ _ (λ e. tt) (λ e. steps_sound (cells.mode_in l) p booleans masks (group_of l) (handed_made h).sound)))
handed_made (killed {cells = l} h slots registers mask r c' a a' k) =
    subst cells.GroupGiven (sym k.left) (kill_leaves_given l slots registers mask (handed_made h))
handed_made (checked l j) = j.sound refl

-- the mode that a begin was given, and that a step or a run leaves
pub begun_mode : (size mode r : ℕ) (l l' : List ℕ) → BeginCrosses size mode r l l' → r ≡ 0 → cells.mode_in l' ≡ mode_of mode
unfolding begin_leaves
begun_mode size mode r l l' c e =
    ap cells.mode_in (c.left ∙ pick_yes _ _ (begin_may size mode (sym e ∙ c.status))) ∙ mode_kept (mode_of mode) (fresh size)

pub step_mode : (l : List ℕ) (o : Outcome) → cells.mode_in (cells.step_leaves l o) ≡ cells.mode_in l
step_mode l (Steps jump g) = mode_kept (cells.mode_in l) g
step_mode l (Fails why) = refl

pub run_mode : (l : List ℕ) (o : Run) → cells.mode_in (cells.run_leaves l o) ≡ cells.mode_in l
run_mode l (Makes n g) = mode_kept (cells.mode_in l) g
run_mode l (Breaks why) = refl

-- wishes that are the same for every processor in the group
module _ (q : Proc) (w w' : Bool) (h : is_live q ≡ true → w ≡ w') where
  active_and : (is_active q and w) ≡ (is_active q and w')
  unfolding ◌and◌
  active_and = go q h
    where
      go : (q : Proc) → (is_live q ≡ true → w ≡ w') → (is_active q and w) ≡ (is_active q and w')
      go Active k = k refl
      go (Idle n) k = refl
      go Absent k = refl

  idle_or : (not (is_active q) or w) ≡ (not (is_active q) or w')
  unfolding ◌or◌
  idle_or = go q h
    where
      go : (q : Proc) → (is_live q ≡ true → w ≡ w') → (not (is_active q) or w) ≡ (not (is_active q) or w')
      go Active k = k refl
      go (Idle n) k = refl
      go Absent k = refl

  worked_same : (op k : ℕ) (jump : Bool) → branched op k jump w q ≡ branched op k jump w' q
  unfolding branched
  worked_same op k jump = go q h
    where
      go : (q : Proc) → (is_live q ≡ true → w ≡ w') → branched op k jump w q ≡ branched op k jump w' q
      go Active z = ap (λ (x : Bool). branched op k jump x Active) (z refl)
      go (Idle n) z = ap (λ (x : Bool). branched op k jump x (Idle n)) (z refl)
      go Absent z = refl

-- "Mask bits above the group are ignored": masks that say the same of every processor in the group give the same step
module _ (mode : Mode) (p : Program) (booleans : ℕ) (g : Group) (alu predicate alu' predicate' : ℕ)
    (a : Agree g alu alu') (b : Agree g predicate predicate')
  where
    abbrev w : ℕ → Bool
    w = wishes mode p alu predicate booleans g

    abbrev w' : ℕ → Bool
    w' = wishes mode p alu' predicate' booleans g

    same_wish : (i : ℕ) → is_live (elsed p g i) ≡ true → w i ≡ w' i
    unfolding wish_of turned_if
    same_wish i h =
        let l : is_live (g.procs i) ≡ true = sym (turned_live (b_else (first_at p g)) (g.procs i)) ∙ h in
        ap₂ (λ (x y : Bool). wants (jump_func (first_at p g)) x y (on (boolean_number (second_at p g)) booleans)) (a.same_bits i l) (b.same_bits i l)

    same_wanted : wanted mode p alu predicate booleans g ≡ wanted mode p alu' predicate' booleans g
    unfolding decided
    same_wanted =
        ap₂ (λ (x y : Bool). pick (jump_any (first_at p g)) x y)
        (some_same 32 _ _ (λ i h. active_and (elsed p g i) (w i) (w' i) (same_wish i)))
        (every_same 32 _ _ (λ i h. idle_or (elsed p g i) (w i) (w' i) (same_wish i)))

    same_decision : decision mode p alu predicate booleans g ≡ decision mode p alu' predicate' booleans g
    same_decision =
        ap (λ (b : Bool). pick (eqb (op_at p g) 0) (Turns b g.loops) (turn_of (op_at p g) (integer_at p g) g.loops)) same_wanted

    same_settled :
        (j : Bool) (loops : List Opened) →
        settled (limit_of mode) p.slots (first_at p g) (second_at p g) j w (elsed p g) (with_loops g loops) ≡
        settled (limit_of mode) p.slots (first_at p g) (second_at p g) j w' (elsed p g) (with_loops g loops)
    unfolding settled
    same_settled j loops =
        ap (λ (f : ℕ → Proc).
        pick (over_limit (limit_of mode) (branch_op j (first_at p g)) (elsed p g)) (Fails 14)
        (arrived p.slots j f (with_loops g loops) (way_of (a_op (first_at p g)) j g.position (jump_address (second_at p g)) g.returns)))
        (λ k i. worked_same (elsed p g i) (w i) (w' i) (same_wish i) (branch_op j (first_at p g)) (pop_count (first_at p g)) j k)

    abbrev rest : (ℕ → Bool) → Bool → List Opened → Outcome
    rest v jump loops = settled (limit_of mode) p.slots (first_at p g) (second_at p g) jump v (elsed p g) (with_loops g loops)

    same_rest : (t : Turn) → on_turn t (rest w) ≡ on_turn t (rest w')
    same_rest (Turns jump loops) = same_settled jump loops
    same_rest NoRoom = refl
    same_rest NoWord = refl

    same_slot :
        slot_step mode p.slots p.integers (first_at p g) (second_at p g) alu predicate booleans g ≡
        slot_step mode p.slots p.integers (first_at p g) (second_at p g) alu' predicate' booleans g
    same_slot =
        slot_by_decision mode p alu predicate booleans g ∙
        ap (λ (o : Outcome). pick (fitting mode p g) o (Fails 13))
        (same_rest (decision mode p alu predicate booleans g) ∙ ap (λ (t : Turn). on_turn t (rest w')) same_decision) ∙
        sym (slot_by_decision mode p alu' predicate' booleans g)

    pub same_step : group_step mode p alu predicate booleans g ≡ group_step mode p alu' predicate' booleans g
    unfolding group_step
    same_step = ap (λ (o : Outcome). pick (ended p g) (Fails 16) (pick (leb p.slots 512) o (Fails 15))) same_slot

-- and the same run
module _ (mode : Mode) (p : Program) (booleans : ℕ) where
  live_after : (alu predicate : ℕ) (g g' : Group) (jump : Bool) → group_step mode p alu predicate booleans g ≡ Steps jump g' →
      (i : ℕ) → is_live (g'.procs i) ≡ is_live (g.procs i)
  unfolding turned_if
  live_after alu predicate g g' jump e i =
      ap is_live ((step_made mode p alu predicate booleans g jump g' e).each_processor i) ∙
      branched_live _ _ _ _ (elsed p g i) ∙ turned_live (b_else (first_at p g)) (g.procs i)

  agree_after : (g g' : Group) → ((i : ℕ) → is_live (g'.procs i) ≡ is_live (g.procs i)) → (ms ms' : List ℕ) → AllAgree g ms ms' → AllAgree g' ms ms'
  agree_after g g' l [] [] h = tt
  agree_after g g' l [] (m' ∷ ms') h = h
  agree_after g g' l (m ∷ ms) [] h = h
  agree_after g g' l (m ∷ ms) (m' ∷ ms') h =
      (record { same_bits = λ i k. h.0.same_bits i (sym (l i) ∙ k) }, agree_after g g' l ms ms' h.1)

  same_steps : (ms ms' : List ℕ) (g : Group) → AllAgree g ms ms' → group_steps mode p booleans ms g ≡ group_steps mode p booleans ms' g
  unfolding group_steps
  same_steps [] [] g h = refl
  same_steps [] (m' ∷ ms') g h = absurd h
  same_steps (m ∷ ms) [] g h = absurd h
  same_steps (m ∷ []) (m' ∷ []) g h = refl
  same_steps (m ∷ []) (m' ∷ (n' ∷ ms')) g h = absurd h.1
  same_steps (m ∷ (n ∷ ms)) (m' ∷ []) g h = absurd h.1
  same_steps (m ∷ (n ∷ ms)) (m' ∷ (n' ∷ ms')) g h =
      ap (pick (ended p g) (Makes 0 g))
      (go (group_step mode p m n booleans g) refl (same_steps ms ms') ∙
      ap (λ (o : Outcome). go_on o (λ g'. group_steps mode p booleans ms' g')) (same_step mode p booleans g m n m' n' h.0 h.1.0))
    where
      go : (o : Outcome) → group_step mode p m n booleans g ≡ o →
          ((g' : Group) → AllAgree g' ms ms' → group_steps mode p booleans ms g' ≡ group_steps mode p booleans ms' g') →
          go_on o (λ g'. group_steps mode p booleans ms g') ≡ go_on o (λ g'. group_steps mode p booleans ms' g')
      go (Steps jump g') e ih = ap once_more (ih g' (agree_after g g' (live_after m n g g' jump e) ms ms' h.1.1))
      go (Fails why) e ih = refl

  pub same_run : (ms ms' : List ℕ) (g : Group) → AllAgree g ms ms' → group_run mode p booleans ms g ≡ group_run mode p booleans ms' g
  unfolding group_run
  same_run ms ms' g h = ap (pick (ended p g) (Breaks 16)) (same_steps ms ms' g h)
