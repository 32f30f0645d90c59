-- What holds of the killed through any number of steps, runs and kills: they are absent, they stay killed, and the starting group is
-- the group that began. A kill leads from a sound group to a sound one. Assumes nothing.
use mathlib.Core.Path.{◌≡◌, refl, sym, ap, ap₂, ◌∙◌, subst}
use mathlib.Core.Logic.{◌⊎◌, inl, inr}
use mathlib.Core.Bool.{Bool, true, false, true≢false}
use mathlib.Core.List.{List, [], ◌∷◌}
use Prim.Native.Nat.{ℕ, zero, suc, ◌+◌, ◌*◌, ◌<◌, ◌≤◌, zero-le, suc-le-suc}
use native.Mathlib.Nat.{le_of_suc-le-suc}
use native.Mathlib.Omega.{arith}
use lib.Dec.{eqb, leb, ltb}
use lib.ListN.{length, get_or}
use lib.Ieee.{Float}
use borrow.Author.Tests.{ltb-true, ltb-false, leb-true, leb-false, eqb-false, lt-ltb, le-ltb}
use Rattle.laws.specs.Choice.{◌and◌, pick}
use Rattle.laws.specs.Below.{sum, count}
use Rattle.laws.specs.Masks.{◌or◌, digit, on, pack}
use Rattle.laws.proofs.Choice.{Tested, holds, fails, tested, pick_yes, by_pick}
use Rattle.laws.proofs.Below.{count_same, count_none}
use Rattle.laws.proofs.Masks.{pack_lt, on_pack, on_above}
use Rattle.loops.specs.Loops.{Turn, Turns, NoRoom, NoWord, word_at, turn_of}
use Rattle.group.specs.Proc.{Proc, Active, Idle, Absent, is_live, is_active, within}
use Rattle.group.specs.Modes.{Mode, limit_of}
use Rattle.group.specs.Group as group
use Rattle.group.specs.Group.{Group, Program, Steps, Run, Makes, Breaks, Way, Goes, Stuck, turned_if, over_limit, way_of, arrived, settled, fresh}
use Rattle.group.specs.Group.{a_op, pop_count, branch_op, boolean_number, integer_number, jump_address, jump_any, jump_func, b_else, op_of, permits, allowed, allowed_loop}
use Rattle.group.specs.Group.{wish_of, on_turn, with_loops, jump_step, loop_step, slot_step, ended, group_step, go_on, once_more, group_steps, group_run}
use Rattle.group.specs.Cells.{mode_in, group_of, at_start, Sound, GroupGiven}
use Rattle.group.proofs.State.{turned_live, branched_live, still_start, start_of_fresh, given_of, mode_kept}
use Rattle.std.specs.Prelude.{Result}
use Rattle.refusal.specs.declared.Refusal.{Refusal}
use Rattle.kill.specs.Kill.{Outcome, Kills, Fails, is_killed, killed_now, after_kill, start_size, kill_of, kill_leaves}
use Rattle.kill.specs.Answers.{KillDone}
use Rattle.kill.specs.Through.{Made, Refused, has_ended, bad_mask, bad_length, Leads, stays, steps, runs, kills, with_killed, with_killed_after}

-- who isn't in the group is absent
absent_of : (p : Proc) → is_live p ≡ false → p ≡ Absent
absent_of Active e = absurd (true≢false e)
absent_of (Idle n) e = absurd (true≢false e)
absent_of Absent e = refl

-- what a step keeps: who is in the group, and the mask of the killed
record Keeps (g g' : Group) : Type 0 where
  live : (i : ℕ) → is_live (g'.procs i) ≡ is_live (g.procs i)
  same : g'.killed ≡ g.killed

abbrev KeepsAfter : Group → group.Outcome → Type 0
KeepsAfter g (group.Steps jump g') = Keeps g g'
KeepsAfter g (group.Fails why) = Unit {0}

arrived_keeps :
    (slots : ℕ) (jump : Bool) (procs : ℕ → Proc) (g h : Group) (w : Way) →
    ((i : ℕ) → is_live (procs i) ≡ is_live (g.procs i)) → h.killed ≡ g.killed → KeepsAfter g (arrived slots jump procs h w)
arrived_keeps slots jump procs g h Stuck l e = tt
arrived_keeps slots jump procs g h (Goes next rs) l e =
    by_pick (KeepsAfter g) (leb next slots) _ _ (λ t. record { live = l; same = e }) (λ t. tt)

settled_keeps :
    (limit slots first second : ℕ) (jump : Bool) (wish : ℕ → Bool) (g h : Group) → h.killed ≡ g.killed →
    KeepsAfter g (settled limit slots first second jump wish (turned_if (b_else first) g.procs) h)
unfolding settled turned_if
settled_keeps limit slots first second jump wish g h e =
    by_pick (KeepsAfter g) (over_limit limit (branch_op jump first) (turned_if (b_else first) g.procs)) _ _ (λ t. tt)
    (λ t.
    arrived_keeps slots jump _ g h (way_of (a_op first) jump h.position (jump_address second) h.returns)
    (λ i. branched_live (branch_op jump first) (pop_count first) jump (wish i) _ ∙ turned_live (b_else first) (g.procs i)) e)

module _ (limit slots first second alu predicate booleans : ℕ) (g : Group) where
  jump_keeps : KeepsAfter g (jump_step limit slots first second alu predicate booleans g)
  unfolding jump_step
  jump_keeps =
      by_pick (KeepsAfter g) (allowed first second) _ _ (λ t. settled_keeps limit slots first second _ _ g g refl) (λ t. tt)

  turn_keeps :
      (t : Turn) (wish : ℕ → Bool) →
      KeepsAfter g
      (on_turn t (λ jump loops. settled limit slots first second jump wish (turned_if (b_else first) g.procs) (with_loops g loops)))
  turn_keeps (Turns jump loops) wish = settled_keeps limit slots first second jump wish g (with_loops g loops) refl
  turn_keeps NoRoom wish = tt
  turn_keeps NoWord wish = tt

  loop_keeps : (word : ℕ) → KeepsAfter g (loop_step limit slots word first second alu predicate booleans g)
  unfolding loop_step
  loop_keeps word =
      by_pick (KeepsAfter g) (allowed_loop first second) _ _ (λ t. turn_keeps (turn_of (op_of first) word g.loops) _) (λ t. tt)

step_keeps :
    (mode : Mode) (program : Program) (alu predicate booleans : ℕ) (g : Group) →
    KeepsAfter g (group_step mode program alu predicate booleans g)
unfolding group_step slot_step
step_keeps mode program alu predicate booleans g =
    let first = get_or program.firsts g.position 0 in
    let second = get_or program.seconds g.position 0 in
    let word = word_at (integer_number second) program.integers in
    by_pick (KeepsAfter g) (ended program g) _ _ (λ t. tt)
    (λ t.
    by_pick (KeepsAfter g) (leb program.slots 512) _ _
    (λ u.
    by_pick (KeepsAfter g) (permits mode first) _ _
    (λ p.
    by_pick (KeepsAfter g) (eqb (op_of first) 0) _ _
    (λ v. jump_keeps (limit_of mode) program.slots first second alu predicate booleans g)
    (λ v. loop_keeps (limit_of mode) program.slots first second alu predicate booleans g word))
    (λ p. tt))
    (λ u. tt))

keeps_on : {g h k : Group} → Keeps g h → Keeps h k → Keeps g k
keeps_on a b = record { live = λ i. b.live i ∙ a.live i; same = b.same ∙ a.same }

-- and so does a run
abbrev RunKeeps : Group → Run → Type 0
RunKeeps g (Makes n g') = Keeps g g'
RunKeeps g (Breaks why) = Unit {0}

module _ (mode : Mode) (program : Program) (booleans : ℕ) where
  after_step :
      (g : Group) (o : group.Outcome) → KeepsAfter g o → (rest : Group → Run) → ((h : Group) → RunKeeps h (rest h)) → RunKeeps g (go_on o rest)
  after_step g (group.Steps jump h) a rest b = go (rest h) (b h)
    where
      go : (r : Run) → RunKeeps h r → RunKeeps g (once_more r)
      go (Makes n k) c = keeps_on a c
      go (Breaks why) c = tt
  after_step g (group.Fails why) a rest b = tt

  run_steps : (masks : List ℕ) (g : Group) → RunKeeps g (group_steps mode program booleans masks g)
  unfolding group_steps
  run_steps [] g = record { live = λ i. refl; same = refl }
  run_steps (alu ∷ []) g = record { live = λ i. refl; same = refl }
  run_steps (alu ∷ (predicate ∷ masks)) g =
      by_pick (RunKeeps g) (ended program g) _ _ (λ t. record { live = λ i. refl; same = refl })
      (λ t.
      after_step g (group_step mode program alu predicate booleans g) (step_keeps mode program alu predicate booleans g)
      (λ h. group_steps mode program booleans masks h) (run_steps masks))

  run_keeps : (masks : List ℕ) (g : Group) → RunKeeps g (group_run mode program booleans masks g)
  unfolding group_run
  run_keeps masks g = by_pick (RunKeeps g) (ended program g) _ _ (λ t. tt) (λ t. run_steps masks g)

-- a kill that is made is the kill of the definition
module _ (slots : ℕ) (registers : List Float) (mask : ℕ) (g : Group) where
  abbrev MadeAfter : Outcome → Type 0
  MadeAfter (Kills now h) = Made registers mask g now h
  MadeAfter (Fails why) = Unit {0}

  pub made : (now : ℕ) (h : Group) → kill_of slots registers mask g ≡ Kills now h → Made registers mask g now h
  unfolding kill_of after_kill
  made now h e = subst MadeAfter e by
    where
      here : MadeAfter (Kills (killed_now registers mask g) (after_kill registers mask g))
      here =
          record {
            who = λ i k. on_pack 32 i (is_killed registers mask g) k;
            each_processor = λ i. refl;
            so_far = λ i k. on_pack 32 i (λ j. on j g.killed or is_killed registers mask g j) k;
            position = refl;
            returns = refl;
            loops = refl;
          }

      by : MadeAfter (kill_of slots registers mask g)
      by =
          by_pick MadeAfter (leb slots g.position) _ _ (λ t. tt)
          (λ t.
          by_pick MadeAfter (ltb 15 mask) _ _ (λ u. tt)
          (λ u. by_pick MadeAfter (eqb (length registers) (start_size g * 4)) _ _ (λ v. here) (λ v. tt)))

  -- and one that is refused has the cause of its number
  abbrev RefusedAfter : Outcome → Type 0
  RefusedAfter (Kills now h) = Unit {0}
  RefusedAfter (Fails why) = Refused slots registers mask g why

  pub refused : (why : ℕ) → kill_of slots registers mask g ≡ Fails why → Refused slots registers mask g why
  unfolding kill_of
  refused why e = subst RefusedAfter e by
    where
      by : RefusedAfter (kill_of slots registers mask g)
      by =
          by_pick RefusedAfter (leb slots g.position) _ _ (λ t. has_ended (leb-true slots g.position t))
          (λ t.
          let running = leb-false slots g.position t in
          by_pick RefusedAfter (ltb 15 mask) _ _ (λ u. bad_mask running (ltb-true 15 mask u))
          (λ u.
          by_pick RefusedAfter (eqb (length registers) (start_size g * 4)) _ _ (λ v. tt)
          (λ v. bad_length running (ltb-false 15 mask u) (eqb-false (length registers) (start_size g * 4) v))))

or_left : {a : Bool} (b : Bool) → a ≡ true → (a or b) ≡ true
unfolding ◌or◌
or_left {a} b e = ap (λ (t : Bool). t or b) e

or_right : (a : Bool) {b : Bool} → b ≡ true → (a or b) ≡ true
unfolding ◌or◌
or_right true e = refl
or_right false e = e

-- a kill takes nobody in
picked_absent : (t : Bool) {p : Proc} → p ≡ Absent → pick t Absent p ≡ Absent
picked_absent t {p} e = by_pick (λ (q : Proc). q ≡ Absent) t _ _ (λ u. refl) (λ u. e)

-- who isn't in the group never is again
pub absent_stays : {mode : Mode} {g h : Group} → Leads mode g h → (i : ℕ) → g.procs i ≡ Absent → h.procs i ≡ Absent
absent_stays stays i e = e
absent_stays {mode} (steps {h} {k} w program alu predicate booleans jump s) i e =
    let kept : Keeps h k = subst (KeepsAfter h) s (step_keeps mode program alu predicate booleans h) in
    absent_of (k.procs i) (kept.live i ∙ ap is_live (absent_stays w i e))
absent_stays {mode} (runs {h} {k} w program booleans masks n s) i e =
    let kept : Keeps h k = subst (RunKeeps h) s (run_keeps mode program booleans masks h) in
    absent_of (k.procs i) (kept.live i ∙ ap is_live (absent_stays w i e))
absent_stays (kills {h} {k} w slots registers mask now s) i e =
    (made slots registers mask h now k s).each_processor i ∙ picked_absent (is_killed registers mask h i) (absent_stays w i e)

-- who was killed stays killed
pub killed_stays : {mode : Mode} {g h : Group} → Leads mode g h → (i : ℕ) → i < 32 → on i g.killed ≡ true → on i h.killed ≡ true
killed_stays stays i l e = e
killed_stays {mode} (steps {h} {k} w program alu predicate booleans jump s) i l e =
    let kept : Keeps h k = subst (KeepsAfter h) s (step_keeps mode program alu predicate booleans h) in
    ap (on i) kept.same ∙ killed_stays w i l e
killed_stays {mode} (runs {h} {k} w program booleans masks n s) i l e =
    let kept : Keeps h k = subst (RunKeeps h) s (run_keeps mode program booleans masks h) in
    ap (on i) kept.same ∙ killed_stays w i l e
killed_stays (kills {h} {k} w slots registers mask now s) i l e =
    (made slots registers mask h now k s).so_far i l ∙ or_left (is_killed registers mask h i) (killed_stays w i l e)

-- "Killed processors are never active again": whoever a kill kills is absent after it, through any number of steps, runs and kills
pub never_again :
    {mode : Mode} (slots : ℕ) (registers : List Float) (mask now : ℕ) (g h k : Group) → kill_of slots registers mask g ≡ Kills now h →
    Leads mode h k → (i : ℕ) → i < 32 → on i now ≡ true → k.procs i ≡ Absent
never_again slots registers mask now g h k e w i l t =
    let m = made slots registers mask g now h e in
    absent_stays w i (m.each_processor i ∙ pick_yes Absent (g.procs i) (sym (m.who i l) ∙ t))

-- the starting group is the group that began: killed or not, everybody of it is counted
start_of_kept : {g h : Group} → Keeps g h → start_size h ≡ start_size g
unfolding start_size
start_of_kept kept =
    count_same 32 _ _ (λ i l. ap₂ (λ (b : Bool) (n : ℕ). b or on i n) (kept.live i) kept.same)

-- who is killed was in the group
moved : (b c : Bool) (p : Proc) → (is_live (pick (is_active p and b) Absent p) or (c or (is_active p and b))) ≡ (is_live p or c)
unfolding ◌or◌ ◌and◌ pick
moved true true Active = refl
moved true false Active = refl
moved false c Active = refl
moved b c (Idle n) = refl
moved b true Absent = refl
moved b false Absent = refl

start_kept :
    {registers : List Float} {mask now : ℕ} {g h : Group} → Made registers mask g now h → (i : ℕ) → i < 32 →
    at_start h.procs h.killed i ≡ at_start g.procs g.killed i
start_kept {g = g} m i l =
    ap₂ (λ (p : Proc) (b : Bool). is_live p or b) (m.each_processor i) (m.so_far i l) ∙ moved _ (on i g.killed) (g.procs i)

start_of_kill : {registers : List Float} {mask now : ℕ} {g h : Group} → Made registers mask g now h → start_size h ≡ start_size g
unfolding start_size
start_of_kill m = count_same 32 _ _ (start_kept m)

pub start_stays : {mode : Mode} {g h : Group} → Leads mode g h → start_size h ≡ start_size g
start_stays stays = refl
start_stays {mode} (steps {h} {k} w program alu predicate booleans jump s) =
    start_of_kept (subst (KeepsAfter h) s (step_keeps mode program alu predicate booleans h)) ∙ start_stays w
start_stays {mode} (runs {h} {k} w program booleans masks n s) =
    start_of_kept (subst (RunKeeps h) s (run_keeps mode program booleans masks h)) ∙ start_stays w
start_stays (kills {h} {k} w slots registers mask now s) = start_of_kill (made slots registers mask h now k s) ∙ start_stays w

-- a fresh group's is its size, so that 11 asks for the number that the group began with
count_below : (k n : ℕ) → n ≤ k → count k (λ i. ltb i n) ≡ n
unfolding count sum digit
count_below zero n h = omega arith
count_below (suc k) zero h = count_none (suc k) (λ i. ltb i 0) (λ i l. le-ltb i 0 zero-le)
count_below (suc k) (suc n) h =
    ap₂ (λ (b : Bool) (m : ℕ). digit b + m) (lt-ltb 0 (suc n) (suc-le-suc zero-le))
    (count_same k (λ i. ltb (suc i) (suc n)) (λ i. ltb i n) (λ i l. next i (tested (ltb i n))) ∙ count_below k n (le_of_suc-le-suc h)) ∙
    one_more n
  where
    one_more : (n : ℕ) → 1 + n ≡ suc n
    one_more n = omega arith

    next : (i : ℕ) → Tested (ltb i n) → ltb (suc i) (suc n) ≡ ltb i n
    next i (holds t) = lt-ltb (suc i) (suc n) (suc-le-suc (ltb-true i n t)) ∙ sym t
    next i (fails t) = le-ltb (suc i) (suc n) (suc-le-suc (ltb-false i n t)) ∙ sym t

pub start_fresh : (size : ℕ) → size ≤ 32 → start_size (fresh size) ≡ size
unfolding start_size fresh
start_fresh size h = count_same 32 _ (λ i. ltb i size) (λ i l. start_of_fresh size i) ∙ count_below 32 size h

-- a kill leads from a sound group to a sound one
or_cases : (a b : Bool) → (a or b) ≡ true → (a ≡ true) ⊎ (b ≡ true)
unfolding ◌or◌
or_cases true b e = inl refl
or_cases false b e = inr e

pub killed_sound :
    (limit : ℕ) (registers : List Float) (mask : ℕ) (g : Group) → Sound limit g → Sound limit (after_kill registers mask g)
unfolding after_kill
killed_sound limit registers mask g s =
    record {
      outside = λ i h. picked_absent (is_killed registers mask g i) (s.outside i h);
      counters =
          λ i.
          by_pick (λ (p : Proc). within limit p ≡ true) (is_killed registers mask g i) _ _ (λ e. refl) (λ e. s.counters i);
      place = s.place;
      depth = s.depth;
      slots = s.slots;
      nested = s.nested;
      opened = s.opened;
      killed_word = pack_lt 32 so_far;
      gone = λ i e. gone_at i e (tested (ltb i 32));
      start =
          still_start
          (λ i h.
          ap (λ (b : Bool). is_live (pick (is_killed registers mask g i) Absent (g.procs i)) or b) (on_pack 32 i so_far h) ∙
          moved _ (on i g.killed) (g.procs i))
          s.start;
    }
  where
    so_far : ℕ → Bool
    so_far i = on i g.killed or is_killed registers mask g i

    absent_by : (i : ℕ) → (on i g.killed ≡ true) ⊎ (is_killed registers mask g i ≡ true) → pick (is_killed registers mask g i) Absent (g.procs i) ≡ Absent
    absent_by i (inl e) = picked_absent (is_killed registers mask g i) (s.gone i e)
    absent_by i (inr e) = pick_yes Absent (g.procs i) e

    gone_at : (i : ℕ) → on i (pack 32 so_far) ≡ true → Tested (ltb i 32) → pick (is_killed registers mask g i) Absent (g.procs i) ≡ Absent
    gone_at i e (holds t) =
        absent_by i (or_cases (on i g.killed) (is_killed registers mask g i) (sym (on_pack 32 i so_far (ltb-true i 32 t)) ∙ e))
    gone_at i e (fails t) = absurd (true≢false (sym e ∙ on_above 32 i so_far (ltb-false i 32 t)))

-- so the cells that it leaves may be handed in again
abbrev SoundKill : ℕ → Outcome → Type 0
SoundKill limit (Kills now g) = Sound limit g
SoundKill limit (Fails why) = Unit {0}

pub kill_sound :
    (limit slots : ℕ) (registers : List Float) (mask : ℕ) (g : Group) → Sound limit g → SoundKill limit (kill_of slots registers mask g)
unfolding kill_of
kill_sound limit slots registers mask g s =
    by_pick (SoundKill limit) (leb slots g.position) _ _ (λ t. tt)
    (λ t.
    by_pick (SoundKill limit) (ltb 15 mask) _ _ (λ u. tt)
    (λ u.
    by_pick (SoundKill limit) (eqb (length registers) (start_size g * 4)) _ _ (λ v. killed_sound limit registers mask g s) (λ v. tt)))

kill_left : (l : List ℕ) (o : Outcome) → GroupGiven l → SoundKill (limit_of (mode_in l)) o → GroupGiven (kill_leaves l o)
kill_left l (Kills now g) m s = given_of (mode_in l) g s
kill_left l (Fails why) m s = m

pub kill_leaves_given :
    (l : List ℕ) (slots : ℕ) (registers : List Float) (mask : ℕ) → GroupGiven l →
    GroupGiven (kill_leaves l (kill_of slots registers mask (group_of l)))
kill_leaves_given l slots registers mask m =
    kill_left l (kill_of slots registers mask (group_of l)) m (kill_sound (limit_of (mode_in l)) slots registers mask (group_of l) m.sound)

pub kill_gives :
    {l leaves : List ℕ} {r : Result ℕ Refusal} (slots : ℕ) (registers : List Float) (mask : ℕ) → GroupGiven l →
    KillDone l leaves r (kill_of slots registers mask (group_of l)) → GroupGiven leaves
kill_gives {l} slots registers mask m d = subst GroupGiven (sym d.left) (kill_leaves_given l slots registers mask m)

-- and they are in the mode that they were in: a kill is the same in both
pub kill_mode : (l : List ℕ) (o : Outcome) → mode_in (kill_leaves l o) ≡ mode_in l
kill_mode l (Kills now g) = mode_kept (mode_in l) g
kill_mode l (Fails why) = refl

-- "they count as not in the group": a step doesn't ask who was killed, so that it is the step of a group that never had them
chosen_blind :
    (dead : ℕ) (t : Bool) (a b : group.Outcome) {a' b' : group.Outcome} → a' ≡ with_killed_after dead a → b' ≡ with_killed_after dead b →
    pick t a' b' ≡ with_killed_after dead (pick t a b)
unfolding pick
chosen_blind dead true a b e f = e
chosen_blind dead false a b e f = f

arrived_blind :
    (slots : ℕ) (jump : Bool) (procs : ℕ → Proc) (g : Group) (dead : ℕ) (w : Way) →
    arrived slots jump procs (with_killed g dead) w ≡ with_killed_after dead (arrived slots jump procs g w)
arrived_blind slots jump procs g dead Stuck = refl
arrived_blind slots jump procs g dead (Goes next rs) = chosen_blind dead (leb next slots) _ _ refl refl

settled_blind :
    (limit slots first second : ℕ) (jump : Bool) (wish : ℕ → Bool) (procs : ℕ → Proc) (g : Group) (dead : ℕ) →
    settled limit slots first second jump wish procs (with_killed g dead) ≡
    with_killed_after dead (settled limit slots first second jump wish procs g)
unfolding settled
settled_blind limit slots first second jump wish procs g dead =
    chosen_blind dead (over_limit limit (branch_op jump first) procs) _ _ refl
    (arrived_blind slots jump _ g dead (way_of (a_op first) jump g.position (jump_address second) g.returns))

module _ (limit slots first second alu predicate booleans : ℕ) (g : Group) (dead : ℕ) where
  jump_blind :
      jump_step limit slots first second alu predicate booleans (with_killed g dead) ≡
      with_killed_after dead (jump_step limit slots first second alu predicate booleans g)
  unfolding jump_step
  jump_blind = chosen_blind dead (allowed first second) _ _ (settled_blind limit slots first second _ _ _ g dead) refl

  turn_blind :
      (t : Turn) (wish : ℕ → Bool) (procs : ℕ → Proc) →
      on_turn t (λ jump loops. settled limit slots first second jump wish procs (with_loops (with_killed g dead) loops)) ≡
      with_killed_after dead (on_turn t (λ jump loops. settled limit slots first second jump wish procs (with_loops g loops)))
  turn_blind (Turns jump loops) wish procs = settled_blind limit slots first second jump wish procs (with_loops g loops) dead
  turn_blind NoRoom wish procs = refl
  turn_blind NoWord wish procs = refl

  loop_blind :
      (word : ℕ) →
      loop_step limit slots word first second alu predicate booleans (with_killed g dead) ≡
      with_killed_after dead (loop_step limit slots word first second alu predicate booleans g)
  unfolding loop_step
  loop_blind word = chosen_blind dead (allowed_loop first second) _ _ (turn_blind (turn_of (op_of first) word g.loops) _ _) refl

pub step_blind :
    (mode : Mode) (program : Program) (alu predicate booleans : ℕ) (g : Group) (dead : ℕ) →
    group_step mode program alu predicate booleans (with_killed g dead) ≡
    with_killed_after dead (group_step mode program alu predicate booleans g)
unfolding group_step slot_step ended
step_blind mode program alu predicate booleans g dead =
    let first = get_or program.firsts g.position 0 in
    let second = get_or program.seconds g.position 0 in
    let word = word_at (integer_number second) program.integers in
    chosen_blind dead (leb program.slots g.position) _ _ refl
    (chosen_blind dead (leb program.slots 512) _ _
    (chosen_blind dead (permits mode first) _ _
    (chosen_blind dead (eqb (op_of first) 0) _ _
    (jump_blind (limit_of mode) program.slots first second alu predicate booleans g dead)
    (loop_blind (limit_of mode) program.slots first second alu predicate booleans g dead word))
    refl)
    refl)
