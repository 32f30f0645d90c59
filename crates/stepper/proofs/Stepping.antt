-- A step as the code makes it, return by return: what it answers and what it leaves in the cells. Assumes nothing.
use mathlib.Core.Path.{◌≡◌, refl, sym, ap, ap₂, ◌∙◌, subst, fun_ext}
use mathlib.Core.Bool.{Bool, true, false, not}
use mathlib.Core.List.{List}
use Prim.Native.Nat.{ℕ, zero, suc, ◌/◌, ◌%◌, ◌^◌, ◌<◌, ◌≤◌, zero-le}
use native.Mathlib.Omega.{arith}
use lib.Dec.{eqb, leb, ltb}
use lib.ListN.{length, get_or}
use borrow.Author.Tests.{eqb-true, ltb-true, ltb-false, le-leb, lt-leb, ne_eqb}
use Rattle.laws.specs.Choice.{◌and◌, pick}
use Rattle.laws.specs.Below.{some}
use Rattle.laws.specs.Masks.{◌or◌, differ, on, pack}
use Rattle.laws.proofs.Choice.{Tested, holds, fails, tested, pick_yes, pick_no, and_left, and_no_right, by_pick}
use Rattle.laws.proofs.Below.{some_same, every_same}
use Rattle.laws.proofs.Masks.{pack_same, on_pack, on_above}
use Rattle.group.specs.Proc.{Proc, Active, Idle, Absent, is_live, is_active, counter_bit, within, turned, lowered, raised, at_limit, branched, decided, increment, counter_limit}
use Rattle.std.specs.Prelude.{Option, Some, None, unwrap_or, Result, Ok, Err}
use Rattle.refusal.specs.declared.Refusal.{Refusal}
use Rattle.refusal.specs.declared.Refusal.TheVariants.{AtLimit, PastEnd, FlowField, Ended}
use Rattle.loops.specs.declared.Turned.{Turned}
use Rattle.loops.specs.Loops.{field, cell_at, Opened, Turn, Turns, NoRoom, NoWord, word_at, turn_of, turned as turn_answer}
use Rattle.group.specs.Modes.{Mode, Full, Partial, limit_of}
use Rattle.group.specs.Group.{Group, Outcome, Steps, Fails, Way, Goes, Stuck, op_of, b_else, jump_any, a_op, jump_func, pop_count, branch_op, boolean_number, jump_address}
use Rattle.group.specs.Group.{permits, allowed_loop, fits_first, plain_second, turned_if, wish_of, over_limit, way_of, arrived, settled}
use Rattle.group.specs.Group.{jump_step, on_turn, with_loops, loop_step, slot_step, store_slots, ended, group_step}
use Rattle.group.specs.Cells.{cell_count, live_in, plane_in, position_in, mode_in, live_mask, active_mask, plane, with_active, group_of, cells_with, last_in, cells_of, GroupGiven, step_leaves}
use Rattle.group.specs.Masks.{MasksOf, OwnMasksIn, with_masks, shown_as, some_at_limit_in, some_at_own_limit}
use Rattle.stepper.specs.Answers.{refusal_of, step_answer, MoveDone, GoDone, own_limit, settled_in, limit_by, some_at_limit_by, decided_step, set_loops, step_in}
use Rattle.stepper.proofs.Words.{low_field, and_last, allowed_parts, loop_fits_lem}
use Rattle.stepper.proofs.Going.{never, Gone, went_on}
use Rattle.group.proofs.Places.{limit_shown, partial_shown}
use Rattle.group.proofs.State.{jump_permitted, given_masks, shows, turned_absent, turned_within, branched_absent}

-- the refusals of a step, by their numbers
at_13 : FlowField ≡ refusal_of 13
unfolding refusal_of pick
at_13 = refl

at_14 : AtLimit ≡ refusal_of 14
unfolding refusal_of pick
at_14 = refl

at_15 : PastEnd ≡ refusal_of 15
unfolding refusal_of pick
at_15 = refl

at_16 : Ended ≡ refusal_of 16
unfolding refusal_of pick
at_16 = refl

-- a refusal, and the cells are as they were
pub refused : {l : List ℕ} {o : Outcome} {r : Result Bool Refusal} {why : Refusal} {n : ℕ} → why ≡ refusal_of n → r ≡ Err why → o ≡ Fails n → MoveDone l l r o
refused {l} {o} {r} {why} {n} named en e =
    record { answer = en ∙ ap (λ (w : Refusal). Err w) named ∙ sym (ap step_answer e); left = sym (ap (step_leaves l) e) }

-- a refusal keeps its name in another answer
abbrev carried : Bool → Result (Unit {0}) Refusal → Result Bool Refusal
carried jump (Ok x) = Ok jump
carried jump (Err why) = Err why

abbrev turn_carried : Result Turned Refusal → Result Bool Refusal
turn_carried (Ok t) = Ok t.jump
turn_carried (Err why) = Err why

-- an operation leaves everybody in the group
live_branched : (op k : ℕ) (jump wish : Bool) (p : Proc) → is_live p ≡ is_live (branched op k jump wish p)
unfolding branched
live_branched op k jump wish p =
    by_pick (λ (q : Proc). is_live p ≡ is_live q) (eqb op 1) _ _ (λ e. low p)
    (λ e. by_pick (λ (q : Proc). is_live p ≡ is_live q) (eqb op 2) _ _ (λ t. high p) (λ t. refl))
  where
    low : (q : Proc) → is_live q ≡ is_live (lowered k q)
    low Active = refl
    low (Idle n) = by_pick (λ (r : Proc). true ≡ is_live r) (ltb n k) _ _ (λ e. refl) (λ e. refl)
    low Absent = refl

    high : (q : Proc) → is_live q ≡ is_live (raised jump wish q)
    high Active = by_pick (λ (r : Proc). true ≡ is_live r) (differ wish jump) _ _ (λ e. refl) (λ e. refl)
    high (Idle n) = refl
    high Absent = refl

-- a counter at its limit under an increment, as the code finds it: document 01's limit, and that of the cells' mode
module _ (l : List ℕ) {active op : ℕ} (k : OwnMasksIn l active) (first : ℕ) (jump : Bool) (eop : op ≡ branch_op jump first) {over : Bool} where
  pub over_full :
      over ≡ (eqb op increment and some_at_limit_in l) → over ≡ over_limit counter_limit (branch_op jump first) (with_active l active)
  unfolding over_limit
  over_full e = e ∙ ap₂ (λ (n : ℕ) (b : Bool). eqb n increment and b) eop (limit_shown k)

  pub over_own :
      over ≡ (eqb op increment and some_at_own_limit (mode_in l) l) → over ≡ over_limit (own_limit l) (branch_op jump first) (with_active l active)
  unfolding over_limit
  over_own e = e ∙ ap₂ (λ (n : ℕ) (b : Bool). eqb n increment and b) eop (by (mode_in l))
    where
      by : (mode : Mode) → some_at_own_limit mode l ≡ some 32 (λ i. at_limit (limit_of mode) (with_active l active i))
      by Full = limit_shown k
      by Partial = partial_shown k

  -- and that of a step of ops 1 to 4 or of op 0
  pub over_by :
      (loop : Bool) → over ≡ (eqb op increment and some_at_limit_by loop l) →
      over ≡ over_limit (limit_by loop l) (branch_op jump first) (with_active l active)
  over_by true e = over_full e
  over_by false e = over_own e

-- the second half of a step, on given cells with the active processors after B_ELSE
module _ (limit : ℕ) (l : List ℕ) (first second slots active wish : ℕ) (jump : Bool) (m : GroupGiven l) (k : OwnMasksIn l active)
    {op : ℕ} (eop : op ≡ branch_op jump first)
    {over : Bool}
    (over_is : over ≡ over_limit limit (branch_op jump first) (with_active l active))
  where
    abbrev outcome : Outcome
    outcome = settled_in limit slots first second jump wish active l

    pub settle_over : over ≡ true → MoveDone l l (Err AtLimit) outcome
    unfolding settled
    settle_over t = refused at_14 refl (pick_yes _ _ (sym over_is ∙ t))

    module _ (free : over ≡ false) where
      abbrev way_here : Way
      way_here = way_of (a_op first) jump (position_in l) (jump_address second) (group_of l).returns

      abbrev procs_here : ℕ → Proc
      procs_here i =
          branched (branch_op jump first) (pop_count first) jump (on i wish) (with_active l active i)

      on_way : outcome ≡ arrived slots jump procs_here (group_of l) way_here
      unfolding settled
      on_way = pick_no _ _ (sym over_is ∙ free)

      -- the way is refused
      settle_by :
          (w : Way) → outcome ≡ arrived slots jump procs_here (group_of l) w → {r : Result (Unit {0}) Refusal} {why : Refusal} {l' : List ℕ} →
          GoDone l l' r slots w → r ≡ Err why → MoveDone l l' (Err why) outcome
      settle_by Stuck e {r} {why} d h =
          subst (λ (x : List ℕ). MoveDone l x (Err why) outcome) (sym d.left) (refused at_14 (ap (carried jump) (sym h ∙ d.answer)) e)
      settle_by (Goes at rs) e {r} {why} {l'} d h = by (tested (leb at slots))
        where
          by : Tested (leb at slots) → MoveDone l l' (Err why) outcome
          by (holds t) = absurd (never (d.answer ∙ pick_yes _ _ t) h)
          by (fails t) =
              subst (λ (x : List ℕ). MoveDone l x (Err why) outcome) (sym (d.left ∙ pick_no _ _ t))
              (refused at_15 (ap (carried jump) (sym h ∙ d.answer ∙ pick_no _ _ t)) (e ∙ pick_no _ _ t))

      pub settle_refused :
          {r : Result (Unit {0}) Refusal} {why : Refusal} {l' : List ℕ} → GoDone l l' r slots way_here → r ≡ Err why → MoveDone l l' (Err why) outcome
      settle_refused d h = settle_by way_here on_way d h

      -- the group goes on, and the branch operation does its work at the new place
      live_here : live_in l ≡ live_mask procs_here
      live_here =
          k.live_word ∙
          pack_same 32 _ _
          (λ i h. live_branched (branch_op jump first) (pop_count first) jump (on i wish) (with_active l active i))

      pub settle_made :
          {r : Result (Unit {0}) Refusal} {l' leaves : List ℕ} → GoDone l l' r slots way_here → r ≡ Ok tt →
          leaves ≡ with_masks l' (shown_as (λ i. branched op (pop_count first) jump (on i wish) (with_active l' active i))) →
          MoveDone l leaves (Ok jump) outcome
      settle_made {r} {l'} {leaves} d h written =
          record { answer = sym (ap step_answer steps); left = there ∙ sym (ap (step_leaves l) steps) }
        where
          g : Gone l l' slots way_here
          g = went_on way_here d h

          group_then : Group
          group_then = record { procs = procs_here; position = g.at; returns = g.rest; loops = (group_of l).loops; killed = (group_of l).killed }

          steps : outcome ≡ Steps jump group_then
          steps = on_way ∙ ap (arrived slots jump procs_here (group_of l)) g.goes ∙ pick_yes _ _ g.near

          there : leaves ≡ cells_of (mode_in l) group_then
          there =
              written ∙
              (λ j. with_masks (g.left j) (shown_as (λ i. branched (eop j) (pop_count first) jump (on i wish) (with_active (g.left j) active i)))) ∙
              (λ j.
              cells_with (live_here j) (active_mask procs_here)
              (plane 0 procs_here) (plane 1 procs_here) (plane 2 procs_here) (plane 3 procs_here) (plane 4 procs_here)
              g.at (get_or g.rest 0 0) (get_or g.rest 1 0) (get_or g.rest 2 0) (get_or g.rest 3 0) (last_in (m.whole j)))

-- the first half: B_ELSE keeps everybody in the group and every bit of a counter
live_turned : (p : Proc) → is_live p ≡ is_live (turned p)
live_turned Active = refl
live_turned (Idle zero) = refl
live_turned (Idle (suc n)) = refl
live_turned Absent = refl

no_bit : (k : ℕ) → false ≡ on k 0
unfolding pack
no_bit k = sym (on_above 0 k (λ i. false) zero-le)

bit_turned : (k : ℕ) (p : Proc) → counter_bit k p ≡ counter_bit k (turned p)
bit_turned k Active = no_bit k
bit_turned k (Idle zero) = sym (no_bit k)
bit_turned k (Idle (suc n)) = refl
bit_turned k Absent = refl

-- on a test of B_ELSE's bit, what turning keeps is kept
kept_turned :
    (f : Proc → Bool) → ((p : Proc) → f p ≡ f (turned p)) → (else : Bool) (procs : ℕ → Proc) (i : ℕ) →
    f (procs i) ≡ f (turned_if else procs i)
unfolding turned_if
kept_turned f h else procs i =
    by_pick (λ (q : Proc). f (procs i) ≡ f q) else _ _ (λ e. h (procs i)) (λ e. refl)

module _ {procs : ℕ → Proc} {live old p0 p1 p2 p3 p4 : ℕ} (m : MasksOf procs live old p0 p1 p2 p3 p4) (else : Bool)
    {active : ℕ} (ea : active ≡ active_mask (turned_if else procs)) where
  turned_masks : MasksOf (turned_if else procs) live active p0 p1 p2 p3 p4
  unfolding turned_if
  turned_masks =
      record {
        live_word = m.live_word ∙ pack_same 32 _ _ (λ i h. kept_turned is_live live_turned else procs i);
        active_word = ea;
        word0 = m.word0 ∙ pack_same 32 _ _ (λ i h. kept_turned (counter_bit 0) (bit_turned 0) else procs i);
        word1 = m.word1 ∙ pack_same 32 _ _ (λ i h. kept_turned (counter_bit 1) (bit_turned 1) else procs i);
        word2 = m.word2 ∙ pack_same 32 _ _ (λ i h. kept_turned (counter_bit 2) (bit_turned 2) else procs i);
        word3 = m.word3 ∙ pack_same 32 _ _ (λ i h. kept_turned (counter_bit 3) (bit_turned 3) else procs i);
        word4 = m.word4 ∙ pack_same 32 _ _ (λ i h. kept_turned (counter_bit 4) (bit_turned 4) else procs i);
        counters =
            λ i.
            by_pick (λ (q : Proc). within counter_limit q ≡ true) else _ _ (λ e. turned_within counter_limit (procs i) (m.counters i)) (λ e. m.counters i);
      }

-- a decision looks at the 32 places alone
decided_same :
    (any : Bool) (a b v w : ℕ → Bool) → ((i : ℕ) → i < 32 → a i ≡ b i) → ((i : ℕ) → i < 32 → v i ≡ w i) →
    decided any a v ≡ decided any b w
unfolding decided
decided_same any a b v w ha hw =
    ap₂ (pick any)
    (some_same 32 _ _ (λ i h. ap₂ ◌and◌ (ha i h) (hw i h)))
    (every_same 32 _ _ (λ i h. ap₂ (λ (x y : Bool). not x or y) (ha i h) (hw i h)))

-- and so does the rest of a step, where nobody is beyond them
settled_same :
    (limit slots first second : ℕ) (jump : Bool) (v w : ℕ → Bool) (procs : ℕ → Proc) (g : Group) →
    ((i : ℕ) → 32 ≤ i → procs i ≡ Absent) → ((i : ℕ) → i < 32 → v i ≡ w i) →
    settled limit slots first second jump v procs g ≡ settled limit slots first second jump w procs g
unfolding settled
settled_same limit slots first second jump v w procs g out h =
    let op = branch_op jump first in
    ap
    (λ (f : ℕ → Proc).
    pick (over_limit limit op procs) (Fails 14)
    (arrived slots jump f g (way_of (a_op first) jump g.position (jump_address second) g.returns)))
    (fun_ext (λ i. at i (tested (ltb i 32))))
  where
    at :
        (i : ℕ) → Tested (ltb i 32) →
        branched (branch_op jump first) (pop_count first) jump (v i) (procs i) ≡
        branched (branch_op jump first) (pop_count first) jump (w i) (procs i)
    at i (holds e) =
        ap (λ (b : Bool). branched (branch_op jump first) (pop_count first) jump b (procs i)) (h i (ltb-true i 32 e))
    at i (fails e) =
        branched_absent _ _ jump (v i) (out i (ltb-false i 32 e)) ∙ sym (branched_absent _ _ jump (w i) (out i (ltb-false i 32 e)))

-- the lowest field needs no division
boolean_field : (n : ℕ) → n % 32 ≡ field 4 0 n
boolean_field n = omega arith

-- the processors after B_ELSE, the wishes, and what they come to
abbrev turned_of : List ℕ → ℕ → ℕ → Proc
turned_of l first = turned_if (b_else first) (group_of l).procs

abbrev wishes_of : ℕ → ℕ → ℕ → ℕ → ℕ → ℕ → Bool
wishes_of first second alu predicate booleans = wish_of (jump_func first) (on (boolean_number second) booleans) alu predicate

abbrev wanted_of : List ℕ → ℕ → ℕ → ℕ → ℕ → ℕ → Bool
wanted_of l first second alu predicate booleans =
    decided (jump_any first) (λ i. is_active (turned_of l first i)) (wishes_of first second alu predicate booleans)

-- the first half of a step: the processors after B_ELSE, the wishes and what they come to, as the code has them
module _ (l : List ℕ) (first second alu predicate booleans : ℕ) (m : GroupGiven l)
    {active : ℕ} (ea : active ≡ active_mask (turned_if (eqb (first / 16 % 2) 1) (group_of l).procs)) where
  procs_turned : with_active l active ≡ turned_if (eqb (first / 16 % 2) 1) (group_of l).procs
  unfolding turned_if
  procs_turned =
      shows (turned_masks (given_masks l m) (eqb (first / 16 % 2) 1) ea)
      (λ i h. turned_absent (eqb (first / 16 % 2) 1) (m.sound.outside i h))

  pub slot_masks : OwnMasksIn l active
  slot_masks =
      subst (λ (f : ℕ → Proc). MasksOf f (live_in l) active (plane_in 0 l) (plane_in 1 l) (plane_in 2 l) (plane_in 3 l) (plane_in 4 l))
      (sym procs_turned) (turned_masks (given_masks l m) (eqb (first / 16 % 2) 1) ea)

  module _ {wish : ℕ} (ew : wish ≡ pack 32 (wish_of (first / 256 % 256) (eqb (booleans / 2 ^ (second % 32) % 2) 1) alu predicate)) where
    abbrev wish_here : ℕ → Bool
    wish_here = wishes_of first second alu predicate booleans

    abbrev procs_there : ℕ → Proc
    procs_there = turned_of l first

    wish_is : (i : ℕ) → i < 32 → on i wish ≡ wish_here i
    unfolding on
    wish_is i h =
        ap (on i) (ew ∙ ap (λ (n : ℕ). pack 32 (wish_of (first / 256 % 256) (on n booleans) alu predicate)) (boolean_field second)) ∙
        on_pack 32 i wish_here h

    active_is : (i : ℕ) → i < 32 → on i active ≡ is_active (procs_there i)
    unfolding on
    active_is i h = ap (on i) ea ∙ on_pack 32 i (λ j. is_active (procs_there j)) h

    wanted_is :
        {wanted : Bool} → wanted ≡ decided (eqb (first / 32 % 2) 1) (λ i. on i active) (λ i. on i wish) →
        wanted ≡ wanted_of l first second alu predicate booleans
    unfolding on
    wanted_is ej =
        ej ∙
        decided_same (jump_any first) (λ i. on i active) (λ i. is_active (procs_there i)) (λ i. on i wish) wish_here active_is wish_is

    settled_is :
        (limit slots : ℕ) (jump : Bool) →
        settled limit slots first second jump (λ i. on i wish) (with_active l active) (group_of l) ≡
        settled limit slots first second jump wish_here procs_there (group_of l)
    unfolding on turned_if
    settled_is limit slots jump =
        ap (λ (f : ℕ → Proc). settled limit slots first second jump (λ i. on i wish) f (group_of l)) procs_turned ∙
        settled_same limit slots first second jump (λ i. on i wish) wish_here procs_there (group_of l) outside wish_is
      where
        outside : (i : ℕ) → 32 ≤ i → procs_there i ≡ Absent
        outside i h = turned_absent (b_else first) (m.sound.outside i h)

-- a step by another name
step_as : {l leaves : List ℕ} {r : Result Bool Refusal} {o o' : Outcome} → o ≡ o' → MoveDone l leaves r o → MoveDone l leaves r o'
step_as {l} {leaves} {r} e d = subst (MoveDone l leaves r) e d

-- a step with its decision
module _ (limit : ℕ) (l : List ℕ) (first second slots : ℕ) (decision : Option Bool) (alu predicate booleans : ℕ) (m : GroupGiven l)
    {ok : Bool} (eok : ok ≡ fits_first first) where
  pub slot_refused :
      ok ≡ false → MoveDone l l (Err FlowField) (decided_step limit slots first second decision alu predicate booleans (group_of l))
  unfolding decided_step
  slot_refused f = refused at_13 refl (pick_no _ _ (sym eok ∙ f))

  module _ {active : ℕ} (ea : active ≡ active_mask (turned_if (eqb (first / 16 % 2) 1) (group_of l).procs)) (good : ok ≡ true)
      {wish : ℕ} (ew : wish ≡ pack 32 (wish_of (first / 256 % 256) (eqb (booleans / 2 ^ (second % 32) % 2) 1) alu predicate))
      {wanted : Bool} (ej : wanted ≡ decided (eqb (first / 32 % 2) 1) (λ i. on i active) (λ i. on i wish))
      {jump : Bool} (ed : jump ≡ unwrap_or decision wanted) where
    pub slot_done :
        {leaves : List ℕ} {r : Result Bool Refusal} →
        MoveDone l leaves r (settled_in limit slots first second jump wish active l) →
        MoveDone l leaves r (decided_step limit slots first second decision alu predicate booleans (group_of l))
    unfolding decided_step
    slot_done d =
        step_as
        (settled_is l first second alu predicate booleans m ea ew limit slots jump ∙
        ap (λ (j : Bool). settled limit slots first second j (wishes_of first second alu predicate booleans) (turned_of l first) (group_of l))
        (ed ∙ ap (unwrap_or decision) (wanted_is l first second alu predicate booleans m ea ew ej)) ∙
        sym (pick_yes _ (Fails 13) (sym eok ∙ good)))
        d

-- a step of op 0
module _ (limit : ℕ) (l : List ℕ) (first second slots alu predicate booleans : ℕ) (op : op_of first ≡ 0) {ok : Bool} (eok : ok ≡ plain_second second) where
  pub jump_refused :
      ok ≡ false → MoveDone l l (Err FlowField) (jump_step limit slots first second alu predicate booleans (group_of l))
  unfolding jump_step
  jump_refused f =
      refused at_13 refl
      (pick_no _ _ (allowed_parts first second op ∙ and_no_right (fits_first first) (sym eok ∙ f)))

  pub jump_done :
      {leaves : List ℕ} {r : Result Bool Refusal} → ok ≡ true →
      MoveDone l leaves r (decided_step limit slots first second None alu predicate booleans (group_of l)) →
      MoveDone l leaves r (jump_step limit slots first second alu predicate booleans (group_of l))
  unfolding jump_step decided_step
  jump_done good d =
      step_as
      (ap
      (λ (b : Bool).
      pick b
      (settled limit slots first second (wanted_of l first second alu predicate booleans) (wishes_of first second alu predicate booleans) (turned_of l first)
      (group_of l))
      (Fails 13))
      (sym (allowed_parts first second op ∙ and_last (fits_first first) (sym eok ∙ good))))
      d

-- what is stored last: the loops
abbrev reloop : List Opened → Outcome → Outcome
reloop loops (Steps jump g) = Steps jump (with_loops g loops)
reloop loops (Fails why) = Fails why

arrived_reloop :
    (slots : ℕ) (jump : Bool) (procs : ℕ → Proc) (g : Group) (loops : List Opened) (w : Way) →
    arrived slots jump procs (with_loops g loops) w ≡ reloop loops (arrived slots jump procs g w)
arrived_reloop slots jump procs g loops Stuck = refl
arrived_reloop slots jump procs g loops (Goes next rs) = by (tested (leb next slots))
  where
    by :
        Tested (leb next slots) →
        arrived slots jump procs (with_loops g loops) (Goes next rs) ≡ reloop loops (arrived slots jump procs g (Goes next rs))
    by (holds e) = pick_yes _ _ e ∙ sym (ap (reloop loops) (pick_yes _ _ e))
    by (fails e) = pick_no _ _ e ∙ sym (ap (reloop loops) (pick_no _ _ e))

settled_reloop :
    (limit slots first second : ℕ) (jump : Bool) (wish : ℕ → Bool) (procs : ℕ → Proc) (g : Group) (loops : List Opened) →
    settled limit slots first second jump wish procs (with_loops g loops) ≡ reloop loops (settled limit slots first second jump wish procs g)
unfolding settled
settled_reloop limit slots first second jump wish procs g loops = by (tested (over_limit limit (branch_op jump first) procs))
  where
    by :
        Tested (over_limit limit (branch_op jump first) procs) →
        settled limit slots first second jump wish procs (with_loops g loops) ≡
        reloop loops (settled limit slots first second jump wish procs g)
    by (holds e) = pick_yes _ _ e ∙ sym (ap (reloop loops) (pick_yes _ _ e))
    by (fails e) =
        pick_no _ _ e ∙
        arrived_reloop slots jump _ g loops (way_of (a_op first) jump g.position (jump_address second) g.returns) ∙
        sym (ap (reloop loops) (pick_no _ _ e))

-- what an answered turn holds
abbrev made_turn : Bool → List Opened → Turned
made_turn jump loops =
    record { jump = jump; loops = record { l0 = cell_at loops 0; l1 = cell_at loops 1; l2 = cell_at loops 2; l3 = cell_at loops 3 } }

abbrev turn_in : Turned → Result Turned Refusal → Turned
turn_in t (Ok x) = x
turn_in t (Err why) = t

given_turn : {t : Turned} (jump : Bool) (loops : List Opened) → Ok t ≡ turn_answer (Turns jump loops) → t ≡ made_turn jump loops
given_turn {t} jump loops e = ap (turn_in t) e

-- a step of another op, return by return
module _ (l : List ℕ) (first second slots word alu predicate booleans : ℕ) {ok : Bool} (eok : ok ≡ allowed_loop first second) where
  abbrev loop_outcome : Outcome
  loop_outcome = loop_step counter_limit slots word first second alu predicate booleans (group_of l)

  pub loop_bad : ok ≡ false → MoveDone l l (Err FlowField) loop_outcome
  unfolding loop_step
  loop_bad f = refused at_13 refl (pick_no _ _ (sym eok ∙ f))

  module _ (good : ok ≡ true) {answer : Result Turned Refusal} (et : answer ≡ turn_answer (turn_of (first % 16) word (group_of l).loops)) where
    abbrev wish_loop : ℕ → Bool
    wish_loop = wishes_of first second alu predicate booleans

    abbrev procs_loop : ℕ → Proc
    procs_loop = turned_of l first

    abbrev next : Bool → List Opened → Outcome
    next jump loops = settled counter_limit slots first second jump wish_loop procs_loop (with_loops (group_of l) loops)

    abbrev turn_here : Turn
    turn_here = turn_of (first % 16) word (group_of l).loops

    by_turn : loop_outcome ≡ on_turn turn_here next
    unfolding loop_step
    by_turn =
        pick_yes _ _ (sym eok ∙ good) ∙
        sym (ap (λ (op : ℕ). on_turn (turn_of op word (group_of l).loops) next) (low_field first))

    -- the loop is refused
    pub loop_stops : {why : Refusal} → answer ≡ Err why → MoveDone l l (Err why) loop_outcome
    loop_stops {why} h = go turn_here refl
      where
        told : {u : Turn} → turn_here ≡ u → Err why ≡ turn_answer u
        told e = sym h ∙ et ∙ ap turn_answer e

        go : (u : Turn) → turn_here ≡ u → MoveDone l l (Err why) loop_outcome
        go (Turns jump loops) e = absurd (never {x = made_turn jump loops} refl (sym (told e)))
        go NoRoom e = refused at_14 (ap turn_carried (told e)) (by_turn ∙ ap (λ (u : Turn). on_turn u next) e)
        go NoWord e = refused at_13 (ap turn_carried (told e)) (by_turn ∙ ap (λ (u : Turn). on_turn u next) e)

    -- the loop decides, and the rest of the step is made
    module _ {t : Turned} (is : answer ≡ Ok t) {l' : List ℕ} {r : Result Bool Refusal}
        (d : MoveDone l l' r (decided_step counter_limit slots first second (Some t.jump) alu predicate booleans (group_of l))) where
      told_turn : {u : Turn} → turn_here ≡ u → Ok t ≡ turn_answer u
      told_turn e = sym is ∙ et ∙ ap turn_answer e

      cells_of_lem : {jump : Bool} {loops : List Opened} → turn_here ≡ Turns jump loops → t ≡ made_turn jump loops
      cells_of_lem {jump} {loops} e = given_turn jump loops (told_turn e)

      rest_is :
          (jump : Bool) → t.jump ≡ jump →
          decided_step counter_limit slots first second (Some t.jump) alu predicate booleans (group_of l) ≡
          settled counter_limit slots first second jump wish_loop procs_loop (group_of l)
      unfolding decided_step
      rest_is jump e =
          pick_yes _ (Fails 13) (loop_fits_lem first second (sym eok ∙ good)) ∙
          ap (λ (j : Bool). settled counter_limit slots first second j wish_loop procs_loop (group_of l)) e

      pub loop_refused : {why : Refusal} → r ≡ Err why → MoveDone l l' (Err why) loop_outcome
      loop_refused {why} k = subst (λ (x : Result Bool Refusal). MoveDone l l' x loop_outcome) k (go turn_here refl)
        where
          stopped : (loops : List Opened) (o : Outcome) → MoveDone l l' r o → MoveDone l l' r (reloop loops o)
          stopped loops (Steps jump g) x = absurd (never x.answer k)
          stopped loops (Fails n) x = record { answer = x.answer; left = x.left }

          go : (u : Turn) → turn_here ≡ u → MoveDone l l' r loop_outcome
          go (Turns jump loops) e =
              step_as (sym (by_turn ∙ ap (λ (u : Turn). on_turn u next) e ∙ settled_reloop counter_limit slots first second jump _ _ (group_of l) loops))
              (stopped loops _ (step_as (rest_is jump (ap (λ (x : Turned). x.jump) (cells_of_lem e))) d))
          go NoRoom e = absurd (never is (et ∙ ap turn_answer e))
          go NoWord e = absurd (never is (et ∙ ap turn_answer e))

      pub loop_stored :
          {jumped : Bool} → r ≡ Ok jumped → {leaves : List ℕ} →
          leaves ≡ set_loops l' t.loops.l0 t.loops.l1 t.loops.l2 t.loops.l3 → MoveDone l leaves (Ok jumped) loop_outcome
      loop_stored {jumped} k {leaves} written = subst (λ (x : Result Bool Refusal). MoveDone l leaves x loop_outcome) k (go turn_here refl)
        where
          stored :
              (jump : Bool) (loops : List Opened) → turn_here ≡ Turns jump loops → (o : Outcome) →
              MoveDone l l' r o → MoveDone l leaves r (reloop loops o)
          stored jump loops e (Steps j g) x =
              record {
                answer = x.answer;
                left =
                    written ∙ ap (λ (y : List ℕ). set_loops y t.loops.l0 t.loops.l1 t.loops.l2 t.loops.l3) x.left ∙
                    ap (λ (y : Turned). set_loops (cells_of (mode_in l) g) y.loops.l0 y.loops.l1 y.loops.l2 y.loops.l3) (cells_of_lem e);
              }
          stored jump loops e (Fails n) x = absurd (never k x.answer)

          go : (u : Turn) → turn_here ≡ u → MoveDone l leaves r loop_outcome
          go (Turns jump loops) e =
              let q : loop_outcome ≡ reloop loops (settled counter_limit slots first second jump wish_loop procs_loop (group_of l)) =
              by_turn ∙ ap (λ (u : Turn). on_turn u next) e ∙ settled_reloop counter_limit slots first second jump _ _ (group_of l) loops in
              step_as (sym q) (stored jump loops e _ (step_as (rest_is jump (ap (λ (x : Turned). x.jump) (cells_of_lem e))) d))
          go NoRoom e = absurd (never is (et ∙ ap turn_answer e))
          go NoWord e = absurd (never is (et ∙ ap turn_answer e))

-- the cells that a step leaves are as many as they were
pub left_size : {l leaves : List ℕ} {r : Result Bool Refusal} {o : Outcome} → length l ≡ cell_count → MoveDone l leaves r o → length leaves ≡ cell_count
left_size {l} {leaves} {r} {o} h d = ap length d.left ∙ by o
  where
    by : (o : Outcome) → length (step_leaves l o) ≡ cell_count
    by (Steps jump g) = refl
    by (Fails why) = h

-- a mode that permits another op than 0 has document 01's limit
full_alone : (mode : Mode) (first : ℕ) → permits mode first ≡ true → (op_of first ≡ 0 → ⊥) → limit_of mode ≡ counter_limit
full_alone Full first p z = refl
full_alone Partial first p z = absurd (z (eqb-true (op_of first) 0 (and_left _ _ p)))

-- a word of the slot at the position
abbrev pub word_here : List ℕ → List ℕ → ℕ
word_here words l = get_or words (position_in l) 0

-- a whole step, under a program
module _ (l firsts seconds : List ℕ) (slots alu predicate booleans : ℕ) (integers : List ℕ) where
  abbrev whole_step : Outcome
  whole_step = step_in firsts seconds slots l alu predicate booleans integers

  abbrev slot_here : Outcome
  slot_here = slot_step (mode_in l) slots integers (word_here firsts l) (word_here seconds l) alu predicate booleans (group_of l)

  pub step_ended : slots ≤ position_in l → MoveDone l l (Err Ended) whole_step
  unfolding group_step ended
  step_ended h = refused at_16 refl (pick_yes _ _ (le-leb slots (position_in l) h))

  module _ (goes : position_in l < slots) where
    pub step_many : store_slots < slots → MoveDone l l (Err PastEnd) whole_step
    unfolding group_step ended
    step_many k =
        refused at_15 refl (pick_no _ _ (lt-leb slots (position_in l) goes) ∙ pick_no _ _ (lt-leb slots store_slots k))

    module _ (most : slots ≤ store_slots) where
      step_slot : {leaves : List ℕ} {r : Result Bool Refusal} → MoveDone l leaves r slot_here → MoveDone l leaves r whole_step
      unfolding group_step ended
      step_slot d = step_as (sym (pick_no _ _ (lt-leb slots (position_in l) goes) ∙ pick_yes _ _ (le-leb slots store_slots most))) d

      -- of a first word that the mode may permit
      module _ {may : Bool} (emay : may ≡ permits (mode_in l) (word_here firsts l)) where
        pub step_forbidden : may ≡ false → MoveDone l l (Err FlowField) whole_step
        unfolding slot_step
        step_forbidden f = step_slot (refused at_13 refl (pick_no _ _ (sym emay ∙ f)))

        -- of op 0
        pub step_jump :
            {leaves : List ℕ} {r : Result Bool Refusal} → may ≡ true → word_here firsts l % 16 ≡ 0 →
            MoveDone l leaves r (jump_step (own_limit l) slots (word_here firsts l) (word_here seconds l) alu predicate booleans (group_of l)) →
            MoveDone l leaves r whole_step
        step_jump p z d =
            step_slot
            (step_as
            (sym
            (jump_permitted (mode_in l) slots integers (word_here firsts l) (word_here seconds l) alu predicate booleans (group_of l)
            (sym (low_field (word_here firsts l)) ∙ z) (sym emay ∙ p)))
            d)

        -- of another op, which full mode alone permits, with the integer word that the list has
        pub step_loop :
            {word : ℕ} {leaves : List ℕ} {r : Result Bool Refusal} → may ≡ true → (word_here firsts l % 16 ≡ 0 → ⊥) → word ≡ word_at (word_here seconds l / 256 % 32) integers →
            MoveDone l leaves r (loop_step counter_limit slots word (word_here firsts l) (word_here seconds l) alu predicate booleans (group_of l)) →
            MoveDone l leaves r whole_step
        unfolding slot_step
        step_loop p z e d =
            step_slot
            (step_as
            (ap₂ (λ (w limit : ℕ). loop_step limit slots w (word_here firsts l) (word_here seconds l) alu predicate booleans (group_of l)) e
            (sym (full_alone (mode_in l) (word_here firsts l) (sym emay ∙ p) other)) ∙
            sym (pick_yes _ _ (sym emay ∙ p) ∙ pick_no _ _ (ne_eqb (op_of (word_here firsts l)) 0 other)))
            d)
          where
            other : op_of (word_here firsts l) ≡ 0 → ⊥
            other q = z (low_field (word_here firsts l) ∙ q)
