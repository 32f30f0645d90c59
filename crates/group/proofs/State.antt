-- A group and its cells: a sound group is read back from its cells, cells handed in show their processors and their returns,
-- a step leads from a sound group to a sound one, and with op 0 it is document 01's, in full mode. Assumes nothing.
use mathlib.Core.Path.{◌≡◌, refl, sym, ap, ap₂, ◌∙◌, subst, fun_ext}
use mathlib.Core.Bool.{Bool, true, false, true≢false}
use mathlib.Core.List.{List, [], ◌∷◌}
use Prim.Native.Nat.{ℕ, zero, suc, ◌+◌, ◌-◌, ◌%◌, ◌^◌, ◌<◌, ◌≤◌, zero-le}
use native.Mathlib.Nat.{zero-div}
use native.Mathlib.Omega.{arith}
use lib.Dec.{eqb, leb, ltb}
use lib.ListN.{length, get_or}
use borrow.Author.Tests.{leb-true, leb-false, ltb-true, ltb-false, le-leb, lt-ltb, le-ltb, eq-eqb, ne_eqb, eqb-true}
use Rattle.laws.specs.Choice.{◌and◌, pick}
use Rattle.laws.specs.Below.{some, every}
use Rattle.laws.specs.Masks.{◌or◌, differ, digit, on, pack}
use Rattle.laws.proofs.Choice.{Tested, holds, fails, tested, pick_yes, pick_no, and_left, and_right, and_intro, and_yes, by_pick, pick_same}
use Rattle.laws.proofs.Below.{none_at, every_at}
use Rattle.laws.proofs.Masks.{on_pack, on_above}
use Rattle.loops.specs.Loops.{field, Turn, Turns, NoRoom, NoWord, word_at, turn_of, are_opened, Held}
use Rattle.loops.proofs.Stack.{four_back, TurnSound, turn_of_sound}
use Rattle.group.specs.Proc.{Proc, Active, Idle, Absent, is_live, is_active, counter_bit, within, turned, lowered, raised, at_limit, branched, counter_limit}
use Rattle.group.specs.Modes.{Mode, Full, Partial, limit_of, mode_number, mode_of}
use Rattle.group.specs.Group.{Group, Outcome, Steps, Fails, Program, Way, Goes, Stuck, op_of, b_else, jump_func, boolean_number, integer_number, turned_if, wish_of, over_limit, popped, way_of, arrived, settled}
use Rattle.group.specs.Group.{permits, allowed, allowed_loop, jump_step, on_turn, with_loops, loop_step, slot_step, ended, group_step, fresh}
use Rattle.group.specs.Cells.{live_in, active_in, plane_in, mode_in, loop_in, live_mask, active_mask, plane, counter_of, proc_of, proc_at, returns_in, group_of, cells_of, a_return, are_returns, at_start, StartingGroup, Sound, GroupGiven, step_leaves}
use Rattle.group.specs.Masks.{MasksOf}

-- two equal numbers, as a computed test at each counter
counted : (n : ℕ) → n ≤ 31 → counter_of (on 0 n) (on 1 n) (on 2 n) (on 3 n) (on 4 n) ≡ n
unfolding on every digit ◌and◌
counted n h =
    eqb-true _ _
    (every_at 32 (λ m. eqb (counter_of (on 0 m) (on 1 m) (on 2 m) (on 3 m) (on 4 m)) m) refl n (omega arith))

-- a processor is read back from its bits
read_back :
    (p : Proc) → within counter_limit p ≡ true →
    proc_of (is_live p) (is_active p)
    (counter_of (counter_bit 0 p) (counter_bit 1 p) (counter_bit 2 p) (counter_bit 3 p) (counter_bit 4 p)) ≡ p
read_back Active w = refl
read_back (Idle n) w = ap Idle (counted n (leb-true n 31 w))
read_back Absent w = refl

-- seven words that are the masks of processors show just these
pub shows :
    {procs : ℕ → Proc} {live active p0 p1 p2 p3 p4 : ℕ} → MasksOf procs live active p0 p1 p2 p3 p4 →
    ((i : ℕ) → 32 ≤ i → procs i ≡ Absent) → proc_at live active p0 p1 p2 p3 p4 ≡ procs
unfolding proc_at
shows {procs} {live} {active} {p0} {p1} {p2} {p3} {p4} m out =
    fun_ext (λ i. at i (tested (ltb i 32)))
  where
    bit : {w : ℕ} (f : Proc → Bool) (i : ℕ) → i < 32 → w ≡ pack 32 (λ j. f (procs j)) → on i w ≡ f (procs i)
    bit f i h e = ap (on i) e ∙ on_pack 32 i (λ j. f (procs j)) h

    at :
        (i : ℕ) → Tested (ltb i 32) →
        proc_of (on i live) (on i active) (counter_of (on i p0) (on i p1) (on i p2) (on i p3) (on i p4)) ≡ procs i
    at i (holds e) =
        let h : i < 32 = ltb-true i 32 e in
        rw (
          bit is_live i h m.live_word,
          bit is_active i h m.active_word,
          bit (counter_bit 0) i h m.word0,
          bit (counter_bit 1) i h m.word1,
          bit (counter_bit 2) i h m.word2,
          bit (counter_bit 3) i h m.word3,
          bit (counter_bit 4) i h m.word4,
        )
        (read_back (procs i) (m.counters i))
    at i (fails e) =
        let h : 32 ≤ i = ltb-false i 32 e in
        ap (λ (b : Bool). proc_of b (on i active) (counter_of (on i p0) (on i p1) (on i p2) (on i p3) (on i p4)))
        (ap (on i) m.live_word ∙ on_above 32 i (λ j. is_live (procs j)) h) ∙
        sym (out i h)

-- returns are read back from four cells
returns_one : (r : ℕ) (l : List ℕ) → a_return r ≡ true → returns_in (r ∷ l) ≡ r ∷ returns_in l
unfolding returns_in
returns_one r l e =
    let h : 1 ≤ r = leb-true 1 r (and_left _ _ e) in
    pick_no _ _ (ne_eqb r 0 (λ z. omega arith))

-- a stored return in front of what is read back
returns_next : (r : ℕ) (l : List ℕ) {rs : List ℕ} → a_return r ≡ true → returns_in l ≡ rs → returns_in (r ∷ l) ≡ r ∷ rs
returns_next r l e q = returns_one r l e ∙ ap (λ (x : List ℕ). r ∷ x) q

returns_back :
    (rs : List ℕ) → length rs ≤ 4 → are_returns rs ≡ true →
    returns_in (get_or rs 0 0 ∷ get_or rs 1 0 ∷ get_or rs 2 0 ∷ get_or rs 3 0 ∷ []) ≡ rs
unfolding are_returns returns_in pick
returns_back [] h e = refl
returns_back (a ∷ []) h e = returns_next a (0 ∷ 0 ∷ 0 ∷ []) (and_left (a_return a) true e) refl
returns_back (a ∷ (b ∷ [])) h e =
    let f = and_right (a_return a) (a_return b and true) e in
    returns_next a (b ∷ 0 ∷ 0 ∷ []) (and_left (a_return a) (a_return b and true) e)
    (returns_next b (0 ∷ 0 ∷ []) (and_left (a_return b) true f) refl)
returns_back (a ∷ (b ∷ (c ∷ []))) h e =
    let f = and_right (a_return a) (a_return b and a_return c and true) e in
    let g = and_right (a_return b) (a_return c and true) f in
    returns_next a (b ∷ c ∷ 0 ∷ []) (and_left (a_return a) (a_return b and a_return c and true) e)
    (returns_next b (c ∷ 0 ∷ []) (and_left (a_return b) (a_return c and true) f)
    (returns_next c (0 ∷ []) (and_left (a_return c) true g) refl))
returns_back (a ∷ (b ∷ (c ∷ (d ∷ [])))) h e =
    let f = and_right (a_return a) (a_return b and a_return c and a_return d and true) e in
    let g = and_right (a_return b) (a_return c and a_return d and true) f in
    let k = and_right (a_return c) (a_return d and true) g in
    returns_next a (b ∷ c ∷ d ∷ []) (and_left (a_return a) (a_return b and a_return c and a_return d and true) e)
    (returns_next b (c ∷ d ∷ []) (and_left (a_return b) (a_return c and a_return d and true) f)
    (returns_next c (d ∷ []) (and_left (a_return c) (a_return d and true) g)
    (returns_next d ([]) (and_left (a_return d) true k) refl)))
returns_back (a ∷ (b ∷ (c ∷ (d ∷ (x ∷ l))))) h e = absurd (five (length l) h)
  where
    five : (n : ℕ) → suc (suc (suc (suc (suc n)))) ≤ 4 → ⊥
    five n h = omega arith

-- the processors of a sound group as masks
masks_of : (g : Group) → Sound counter_limit g
    → MasksOf g.procs (live_mask g.procs) (active_mask g.procs) (plane 0 g.procs) (plane 1 g.procs) (plane 2 g.procs)
    (plane 3 g.procs) (plane 4 g.procs)
masks_of g s =
    record {
      live_word = refl;
      active_word = refl;
      word0 = refl;
      word1 = refl;
      word2 = refl;
      word3 = refl;
      word4 = refl;
      counters = s.counters;
    }

-- a mode is read back from its number
pub mode_back : (mode : Mode) → mode_of (mode_number mode) ≡ mode
unfolding mode_of pick
mode_back Full = refl
mode_back Partial = refl

-- and the number tells it
pub mode_partial : (n : ℕ) → n ≡ 1 → mode_of n ≡ Partial
unfolding mode_of
mode_partial n e = pick_yes _ _ (eq-eqb n 1 e)

pub mode_full : (n : ℕ) → (n ≡ 1 → ⊥) → mode_of n ≡ Full
unfolding mode_of
mode_full n e = pick_no _ _ (ne_eqb n 1 e)

-- counters within a mode's limit are within document 01's, the most that five planes hold
pub within_mode : (mode : Mode) (p : Proc) → within (limit_of mode) p ≡ true → within counter_limit p ≡ true
within_mode Full p w = w
within_mode Partial Active w = refl
within_mode Partial (Idle n) w = let h : n ≤ 5 = leb-true n 5 w in le-leb n 31 (omega arith)
within_mode Partial Absent w = refl

pub sound_mode : (mode : Mode) {g : Group} → Sound (limit_of mode) g → Sound counter_limit g
sound_mode mode {g} s =
    record {
      outside = s.outside;
      counters = λ i. within_mode mode (g.procs i) (s.counters i);
      place = s.place;
      depth = s.depth;
      slots = s.slots;
      nested = s.nested;
      opened = s.opened;
      killed_word = s.killed_word;
      gone = s.gone;
      start = s.start;
    }

-- a sound group is read back from its cells
pub group_back : (mode : Mode) (g : Group) → Sound (limit_of mode) g → group_of (cells_of mode g) ≡ g
group_back mode g s =
    λ j. record {
      procs = shows (masks_of g (sound_mode mode s)) s.outside j;
      position = g.position;
      returns = returns_back g.returns s.depth s.slots j;
      loops = four_back g.loops s.nested s.opened j;
      killed = g.killed;
    }

-- so its cells are such as came from these entries
pub given_of : (mode : Mode) (g : Group) → Sound (limit_of mode) g → GroupGiven (cells_of mode g)
given_of mode g s =
    record {
      size = refl;
      sound =
          subst (λ (m : Mode). Sound (limit_of m) (group_of (cells_of mode g))) (sym (mode_back mode))
          (subst (Sound (limit_of mode)) (sym (group_back mode g s)) s);
      whole = λ j. cells_of (sym (mode_back mode) j) (sym (group_back mode g s) j);
    }

-- and they keep their mode
pub mode_kept : (mode : Mode) (g : Group) → mode_in (cells_of mode g) ≡ mode
mode_kept mode g = mode_back mode

-- cells handed in are the masks of their processors
pub given_masks :
    (l : List ℕ) → GroupGiven l →
    MasksOf (group_of l).procs (live_in l) (active_in l) (plane_in 0 l) (plane_in 1 l) (plane_in 2 l) (plane_in 3 l) (plane_in 4 l)
given_masks l m =
    record {
      live_word = ap live_in m.whole;
      active_word = ap active_in m.whole;
      word0 = ap (plane_in 0) m.whole;
      word1 = ap (plane_in 1) m.whole;
      word2 = ap (plane_in 2) m.whole;
      word3 = ap (plane_in 3) m.whole;
      word4 = ap (plane_in 4) m.whole;
      counters = λ i. within_mode (mode_in l) ((group_of l).procs i) (m.sound.counters i);
    }

-- and of its open loops
pub given_loops : (l : List ℕ) → GroupGiven l → Held (group_of l).loops (loop_in 0 l) (loop_in 1 l) (loop_in 2 l) (loop_in 3 l)
given_loops l m =
    record {
      cell0 = ap (loop_in 0) m.whole;
      cell1 = ap (loop_in 1) m.whole;
      cell2 = ap (loop_in 2) m.whole;
      cell3 = ap (loop_in 3) m.whole;
      depth = m.sound.nested;
      sound = m.sound.opened;
    }

-- what each part of a step keeps, whatever the limit
pub turned_absent : (else : Bool) {p : Proc} → p ≡ Absent → pick else (turned p) p ≡ Absent
turned_absent else {p} e = rw e (pick_same else Absent)

pub branched_absent : (op k : ℕ) (jump wish : Bool) {p : Proc} → p ≡ Absent → branched op k jump wish p ≡ Absent
unfolding branched
branched_absent op k jump wish {p} e = rw e (ap (pick (eqb op 1) Absent) (pick_same (eqb op 2) Absent) ∙ pick_same (eqb op 1) Absent)

-- a processor is in the group after a step where it was before
pub turned_live : (else : Bool) (q : Proc) → is_live (pick else (turned q) q) ≡ is_live q
unfolding pick
turned_live true Active = refl
turned_live true (Idle zero) = refl
turned_live true (Idle (suc n)) = refl
turned_live true Absent = refl
turned_live false q = refl

pick_live : (t : Bool) (a b : Proc) → is_live a ≡ true → is_live b ≡ true → is_live (pick t a b) ≡ true
pick_live t a b ha hb = by_pick (λ (q : Proc). is_live q ≡ true) t a b (λ e. ha) (λ e. hb)

pub branched_live : (op k : ℕ) (jump wish : Bool) (q : Proc) → is_live (branched op k jump wish q) ≡ is_live q
unfolding branched
branched_live op k jump wish Active = pick_live _ _ _ refl (pick_live _ _ _ (pick_live _ _ _ refl refl) refl)
branched_live op k jump wish (Idle n) = pick_live _ _ _ (pick_live _ _ _ refl refl) (pick_live _ _ _ refl refl)
branched_live op k jump wish Absent = gone (eqb op 1) (eqb op 2)
  where
    gone : (a b : Bool) → is_live (pick a Absent (pick b Absent Absent)) ≡ false
    gone a b = by_pick (λ (q : Proc). is_live q ≡ false) a _ _ (λ e. refl) (λ e. by_pick (λ (q : Proc). is_live q ≡ false) b _ _ (λ f. refl) (λ f. refl))

-- the starting group stays the same as long as nobody enters the group, and who leaves it was killed
pub still_start :
    {procs procs' : ℕ → Proc} {killed killed' : ℕ} → ((i : ℕ) → i < 32 → at_start procs' killed' i ≡ at_start procs killed i) →
    StartingGroup procs killed → StartingGroup procs' killed'
still_start same b =
    record {
      first = same 0 (omega arith) ∙ b.first;
      in_a_row = λ i h e. same i (omega arith) ∙ b.in_a_row i h (sym (same (suc i) h) ∙ e);
    }

still_live :
    {procs procs' : ℕ → Proc} (killed : ℕ) → ((i : ℕ) → is_live (procs' i) ≡ is_live (procs i)) → StartingGroup procs killed → StartingGroup procs' killed
still_live killed same = still_start (λ i h. ap (λ (b : Bool). b or on i killed) (same i))

pub turned_within : (limit : ℕ) (p : Proc) → within limit p ≡ true → within limit (turned p) ≡ true
turned_within limit Active w = le-leb 0 limit zero-le
turned_within limit (Idle zero) w = refl
turned_within limit (Idle (suc n)) w = w
turned_within limit Absent w = refl

lowered_within : (limit k : ℕ) (p : Proc) → within limit p ≡ true → within limit (lowered k p) ≡ true
lowered_within limit k Active w = refl
lowered_within limit k (Idle n) w =
    let h : n ≤ limit = leb-true n limit w in
    by_pick (λ (p : Proc). within limit p ≡ true) (ltb n k) _ _ (λ e. refl) (λ e. le-leb (n - k) limit (omega arith))
lowered_within limit k Absent w = refl

raised_within :
    (limit : ℕ) (jump wish : Bool) (p : Proc) → within limit p ≡ true → at_limit limit p ≡ false →
    within limit (raised jump wish p) ≡ true
raised_within limit jump wish Active w f =
    by_pick (λ (p : Proc). within limit p ≡ true) (differ wish jump) _ _ (λ e. le-leb 0 limit zero-le) (λ e. refl)
raised_within limit jump wish (Idle n) w f =
    let h : n < limit = leb-false limit n f in
    le-leb (n + 1) limit (omega arith)
raised_within limit jump wish Absent w f = refl

branched_within :
    (limit op k : ℕ) (jump wish : Bool) (p : Proc) → within limit p ≡ true → (op ≡ 2 → at_limit limit p ≡ false) →
    within limit (branched op k jump wish p) ≡ true
unfolding branched
branched_within limit op k jump wish p w f =
    by_pick (λ (q : Proc). within limit q ≡ true) (eqb op 1) _ _
    (λ e. lowered_within limit k p w)
    (λ e.
    by_pick (λ (q : Proc). within limit q ≡ true) (eqb op 2) _ _
    (λ t. raised_within limit jump wish p w (f (eqb-true op 2 t)))
    (λ t. w))

-- where a step may go on to
abbrev pub SoundWay : Way → Type 0
SoundWay Stuck = Unit {0}
SoundWay (Goes next rs) = (length rs ≤ 4) × (are_returns rs ≡ true)

popped_sound : (rs : List ℕ) → length rs ≤ 4 → are_returns rs ≡ true → SoundWay (popped rs)
unfolding are_returns
popped_sound [] h e = tt
popped_sound (r ∷ rs) h e = (shorter (length rs) h, and_right (a_return r) (are_returns rs) e)
  where
    shorter : (n : ℕ) → suc n ≤ 4 → n ≤ 4
    shorter n h = omega arith

way_sound :
    (aop : ℕ) (jump : Bool) (position address : ℕ) (rs : List ℕ) → position < 512 → length rs ≤ 4 → are_returns rs ≡ true →
    SoundWay (way_of aop jump position address rs)
unfolding way_of are_returns
way_sound aop jump position address rs p h e =
    by_pick SoundWay jump _ _
    (λ j.
    by_pick SoundWay (eqb aop 1) _ _ (λ a. popped_sound rs h e)
    (λ a.
    by_pick SoundWay (eqb aop 2) _ _
    (λ b.
    by_pick SoundWay (ltb (length rs) 4) _ _
    (λ t.
    let low : length rs < 4 = ltb-true (length rs) 4 t in
    let fits : a_return (position + 1) ≡ true = and_intro (le-leb 1 (position + 1) (omega arith)) (le-leb (position + 1) 512 (omega arith)) in
    (low, and_intro fits e))
    (λ t. tt))
    (λ b. (h, e))))
    (λ j. (h, e))

-- what a step leads to: a sound group, or one of its refusals, 13 to 16
abbrev pub SoundAfter : ℕ → Outcome → Type 0
SoundAfter limit (Steps jump g) = Sound limit g
SoundAfter limit (Fails why) = (12 < why) × (why < 17)

-- what a group keeps whatever its step does: its loops and its killed, of whom nobody is among the processors `procs`
record SoundBeside (g : Group) (procs : ℕ → Proc) : Type 0 where
  nested : length g.loops ≤ 4
  opened : are_opened g.loops ≡ true
  killed_word : g.killed < 2 ^ 32
  gone : (i : ℕ) → on i g.killed ≡ true → procs i ≡ Absent
  start : StartingGroup procs g.killed

arrived_sound :
    (limit slots : ℕ) (jump : Bool) (procs : ℕ → Proc) (g : Group) (way : Way) → slots ≤ 512 → SoundBeside g procs →
    ((i : ℕ) → 32 ≤ i → procs i ≡ Absent) → ((i : ℕ) → within limit (procs i) ≡ true) → SoundWay way →
    SoundAfter limit (arrived slots jump procs g way)
arrived_sound limit slots jump procs g Stuck h b out low w = (omega arith, omega arith)
arrived_sound limit slots jump procs g (Goes next rs) h b out low w =
    by_pick (SoundAfter limit) (leb next slots) _ _
    (λ e.
    let n : next ≤ slots = leb-true next slots e in
    record {
      outside = out;
      counters = low;
      place = omega arith;
      depth = w.0;
      slots = w.1;
      nested = b.nested;
      opened = b.opened;
      killed_word = b.killed_word;
      gone = b.gone;
      start = b.start;
    })
    (λ e. (omega arith, omega arith))

-- nobody at the limit, where an increment is made
none_over :
    (limit op : ℕ) (procs : ℕ → Proc) → ((i : ℕ) → 32 ≤ i → procs i ≡ Absent) → over_limit limit op procs ≡ false →
    (i : ℕ) → op ≡ 2 → at_limit limit (procs i) ≡ false
unfolding over_limit
none_over limit op procs out e i two = at (tested (ltb i 32))
  where
    nobody : some 32 (λ j. at_limit limit (procs j)) ≡ false
    nobody = sym (and_yes _ (eq-eqb op 2 two)) ∙ e

    at : Tested (ltb i 32) → at_limit limit (procs i) ≡ false
    at (holds t) = none_at 32 (λ j. at_limit limit (procs j)) nobody i (ltb-true i 32 t)
    at (fails t) = ap (at_limit limit) (out i (ltb-false i 32 t))

settled_sound :
    (limit slots first second : ℕ) (jump : Bool) (wish : ℕ → Bool) (procs : ℕ → Proc) (g : Group) →
    slots ≤ 512 → g.position < 512 → length g.returns ≤ 4 → are_returns g.returns ≡ true → SoundBeside g procs →
    ((i : ℕ) → 32 ≤ i → procs i ≡ Absent) → ((i : ℕ) → within limit (procs i) ≡ true) →
    SoundAfter limit (settled limit slots first second jump wish procs g)
unfolding settled
settled_sound limit slots first second jump wish procs g hs hp hr he beside out low =
    let op = pick jump (field 27 26 first) (field 25 24 first) in
    by_pick (SoundAfter limit) (over_limit limit op procs) _ _ (λ e. (omega arith, omega arith))
    (λ e.
    arrived_sound limit slots jump (λ i. branched op (field 20 16 first) jump (wish i) (procs i)) g
    (way_of (field 7 6 first) jump g.position (field 24 16 second) g.returns) hs
    (record {
      nested = beside.nested;
      opened = beside.opened;
      killed_word = beside.killed_word;
      gone = λ i h. branched_absent op (field 20 16 first) jump (wish i) (beside.gone i h);
      start = still_live g.killed (λ i. branched_live op (field 20 16 first) jump (wish i) (procs i)) beside.start;
    })
    (λ i h. branched_absent op (field 20 16 first) jump (wish i) (out i h))
    (λ i. branched_within limit op (field 20 16 first) jump (wish i) (procs i) (low i) (none_over limit op procs out e i))
    (way_sound (field 7 6 first) jump g.position (field 24 16 second) g.returns hp hr he))

-- the processors after B_ELSE
module _ (limit : ℕ) (g : Group) (s : Sound limit g) (else : Bool) where
  turned_out : (i : ℕ) → 32 ≤ i → turned_if else g.procs i ≡ Absent
  unfolding turned_if
  turned_out i h = turned_absent else (s.outside i h)

  turned_low : (i : ℕ) → within limit (turned_if else g.procs i) ≡ true
  unfolding turned_if
  turned_low i =
      by_pick (λ (p : Proc). within limit p ≡ true) else _ _
      (λ u. turned_within limit (g.procs i) (s.counters i)) (λ u. s.counters i)

  turned_beside : SoundBeside g (turned_if else g.procs)
  unfolding turned_if
  turned_beside =
      record {
        nested = s.nested;
        opened = s.opened;
        killed_word = s.killed_word;
        gone = λ i h. turned_absent else (s.gone i h);
        start = still_live g.killed (λ i. turned_live else (g.procs i)) s.start;
      }

-- a step on a slot's words
module _ (limit slots first second alu predicate booleans : ℕ) (g : Group) (s : Sound limit g) (most : slots ≤ 512) (before : g.position < slots) where
  jump_sound : SoundAfter limit (jump_step limit slots first second alu predicate booleans g)
  unfolding jump_step
  jump_sound =
      by_pick (SoundAfter limit) (allowed first second) _ _
      (λ a.
      settled_sound limit slots first second _ _ _ g most (omega arith) s.depth s.slots (turned_beside limit g s (b_else first))
      (turned_out limit g s (b_else first)) (turned_low limit g s (b_else first)))
      (λ a. (omega arith, omega arith))

  turn_sound :
      (t : Turn) → TurnSound t → (wish : ℕ → Bool) →
      SoundAfter limit
      (on_turn t (λ jump loops. settled limit slots first second jump wish (turned_if (b_else first) g.procs) (with_loops g loops)))
  turn_sound (Turns jump loops) q wish =
      let beside = turned_beside limit g s (b_else first) in
      settled_sound limit slots first second jump wish _ (with_loops g loops) most (omega arith) s.depth s.slots
      (record { nested = q.0; opened = q.1; killed_word = beside.killed_word; gone = beside.gone; start = beside.start })
      (turned_out limit g s (b_else first)) (turned_low limit g s (b_else first))
  turn_sound NoRoom q wish = (omega arith, omega arith)
  turn_sound NoWord q wish = (omega arith, omega arith)

  pub loop_sound : (word : ℕ) → SoundAfter limit (loop_step limit slots word first second alu predicate booleans g)
  unfolding loop_step
  loop_sound word =
      by_pick (SoundAfter limit) (allowed_loop first second) _ _
      (λ a.
      turn_sound (turn_of (op_of first) word g.loops)
      (turn_of_sound (op_of first) word g.loops s.nested s.opened)
      (wish_of (jump_func first) (on (boolean_number second) booleans) alu predicate))
      (λ a. (omega arith, omega arith))

-- in either mode
slot_sound :
    (mode : Mode) (slots : ℕ) (integers : List ℕ) (first second alu predicate booleans : ℕ) (g : Group) → Sound (limit_of mode) g →
    slots ≤ 512 → g.position < slots → SoundAfter (limit_of mode) (slot_step mode slots integers first second alu predicate booleans g)
unfolding slot_step
slot_sound mode slots integers first second alu predicate booleans g s most before =
    by_pick (SoundAfter (limit_of mode)) (permits mode first) _ _
    (λ p.
    by_pick (SoundAfter (limit_of mode)) (eqb (op_of first) 0) _ _
    (λ e. jump_sound (limit_of mode) slots first second alu predicate booleans g s most before)
    (λ e. loop_sound (limit_of mode) slots first second alu predicate booleans g s most before (word_at (integer_number second) integers)))
    (λ p. (omega arith, omega arith))

-- a step leads from a sound group to a sound one
pub step_sound :
    (mode : Mode) (program : Program) (alu predicate booleans : ℕ) (g : Group) → Sound (limit_of mode) g →
    SoundAfter (limit_of mode) (group_step mode program alu predicate booleans g)
unfolding group_step ended
step_sound mode program alu predicate booleans g s =
    by_pick (SoundAfter (limit_of mode)) (leb program.slots g.position) _ _ (λ e. (omega arith, omega arith))
    (λ e.
    let before : g.position < program.slots = leb-false program.slots g.position e in
    by_pick (SoundAfter (limit_of mode)) (leb program.slots 512) _ _
    (λ t.
    slot_sound mode program.slots program.integers (get_or program.firsts g.position 0) (get_or program.seconds g.position 0)
    alu predicate booleans g s (leb-true program.slots 512 t) before)
    (λ t. (omega arith, omega arith)))

-- a slot of op 0 that the mode permits: document 01's step, with the mode's limit
pub jump_permitted :
    (mode : Mode) (slots : ℕ) (integers : List ℕ) (first second alu predicate booleans : ℕ) (g : Group) → op_of first ≡ 0 → permits mode first ≡ true →
    slot_step mode slots integers first second alu predicate booleans g ≡ jump_step (limit_of mode) slots first second alu predicate booleans g
unfolding slot_step
jump_permitted mode slots integers first second alu predicate booleans g e p = pick_yes _ _ p ∙ pick_yes _ _ (eq-eqb (op_of first) 0 e)

-- Request 4: with op 0 every old answer stays, whatever the open loops and the integer words: the step is document 01's
pub old_answers :
    (slots : ℕ) (integers : List ℕ) (first second alu predicate booleans : ℕ) (g : Group) → op_of first ≡ 0 →
    slot_step Full slots integers first second alu predicate booleans g ≡ jump_step counter_limit slots first second alu predicate booleans g
old_answers slots integers first second alu predicate booleans g e = jump_permitted Full slots integers first second alu predicate booleans g e refl

-- so do the cells that a step leaves
pub left_given :
    (l : List ℕ) (o : Outcome) → GroupGiven l → SoundAfter (limit_of (mode_in l)) o → GroupGiven (step_leaves l o)
left_given l (Steps jump g) m s = given_of (mode_in l) g s
left_given l (Fails why) m s = m

-- a fresh group starts with the processors below its size
nobody_killed : (i : ℕ) → on i 0 ≡ false
unfolding on
nobody_killed i = ap (λ (n : ℕ). eqb (n % 2) 1) (zero-div (2 ^ i))

pub start_of_fresh : (size i : ℕ) → at_start (fresh size).procs 0 i ≡ ltb i size
unfolding fresh ◌or◌
start_of_fresh size i = by (tested (ltb i size))
  where
    by : Tested (ltb i size) → (is_live (pick (ltb i size) Active Absent) or on i 0) ≡ ltb i size
    by (holds t) = ap (λ (p : Proc). is_live p or on i 0) (pick_yes Active Absent t) ∙ sym t
    by (fails t) = ap₂ (λ (p : Proc) (b : Bool). is_live p or b) (pick_no Active Absent t) (nobody_killed i) ∙ sym t

fresh_start : (size : ℕ) → 1 ≤ size → StartingGroup (fresh size).procs 0
fresh_start size o =
    record {
      first = start_of_fresh size 0 ∙ lt-ltb 0 size o;
      in_a_row =
          λ i h e.
          let below : suc i < size = ltb-true (suc i) size (sym (start_of_fresh size (suc i)) ∙ e) in
          start_of_fresh size i ∙ lt-ltb i size (omega arith);
    }

-- and a fresh group is sound
pub fresh_sound : (limit size : ℕ) → 1 ≤ size → size ≤ 32 → Sound limit (fresh size)
unfolding fresh are_returns are_opened
fresh_sound limit size o h =
    record {
      outside = λ i k. pick_no _ _ (le-ltb i size (omega arith));
      counters = λ i. by_pick (λ (p : Proc). within limit p ≡ true) (ltb i size) _ _ (λ e. refl) (λ e. refl);
      place = zero-le;
      depth = zero-le;
      slots = refl;
      nested = zero-le;
      opened = refl;
      killed_word = omega arith;
      gone = λ i e. absurd (true≢false (sym e ∙ nobody_killed i));
      start = fresh_start size o;
    }
