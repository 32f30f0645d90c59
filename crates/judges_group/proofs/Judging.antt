-- Cells that pass all tests are a group's, and a group's cells pass them. Assumes nothing.
use mathlib.Core.Path.{◌≡◌, refl, sym, ap, ◌∙◌}
use mathlib.Core.Bool.{Bool, true, false, not, true≢false}
use mathlib.Core.List.{List, [], ◌∷◌}
use Prim.Native.Nat.{ℕ, zero, suc, ◌<◌, ◌≤◌}
use native.Mathlib.Omega.{arith}
use lib.Dec.{eqb, leb, ltb}
use lib.ListN.{length, get_or}
use borrow.Author.Tests.{leb-true, ltb-true, ltb-false, eqb-true, eqb-false, le-leb, eq-eqb}
use Rattle.laws.specs.Choice.{◌and◌}
use Rattle.laws.specs.Below.{some}
use Rattle.laws.specs.Masks.{◌or◌, on, pack}
use Rattle.laws.proofs.Choice.{Tested, holds, fails, tested, pick_yes, pick_no, and_intro, and_left, and_right, and_no_left}
use Rattle.laws.proofs.Below.{some_same, none_at}
use Rattle.laws.proofs.Masks.{pack_on, pack_same, on_pack, on_above}
use Rattle.loops.specs.Loops.{HeldIn}
use Rattle.group.specs.Proc.{Proc, Absent, is_live, is_active, counter_bit, within}
use Rattle.group.specs.Modes.{Mode, Full, Partial, limit_of, mode_number}
use Rattle.group.specs.Cells.{live_in, active_in, plane_in, position_in, return_in, mode_in, loop_in, killed_in, counter_of, proc_of, proc_at, group_of, cells_of}
use Rattle.group.specs.Cells.{at_start, StartingGroup, GroupGiven}
use Rattle.group.proofs.State.{mode_partial, mode_full, given_loops}
use Rattle.judges_group.specs.Judged.{strays, in_aRow, too_high, counters_fit, returns_fit, loops_fit, is_group, zero_cells, Words, JudgesGroup}
use Rattle.judges_group.proofs.Bits.{OwnBits, own_bits, live_bit, own_not_stray, full_counter, partial_counter, shown_within, low_not_high}
use Rattle.judges_group.proofs.Stacks.{FourReturns, returns_judged, returns_fit_lem, loops_judged, loops_fit_lem}

not_yes : (b : Bool) → not b ≡ true → b ≡ false
not_yes true e = sym e
not_yes false e = refl

none_of : (f : ℕ → Bool) → ((i : ℕ) → i < 32 → f i ≡ false) → not (some 32 f) ≡ true
unfolding some ◌or◌
none_of f h = ap not (some_same 32 f (λ i. false) h)

abbrev pub WordsIn : List ℕ → Type 0
WordsIn l = Words (live_in l) (active_in l) (plane_in 0 l) (plane_in 1 l) (plane_in 2 l) (plane_in 3 l) (plane_in 4 l) (killed_in l)

abbrev strays_in : List ℕ → ℕ → Bool
strays_in l = strays (live_in l) (active_in l) (plane_in 0 l) (plane_in 1 l) (plane_in 2 l) (plane_in 3 l) (plane_in 4 l) (killed_in l)

-- who is of the starting group, by the cells
abbrev start_in : List ℕ → ℕ → Bool
start_in l i = on i (live_in l) or on i (killed_in l)

-- the tests by name
record Tests (l : List ℕ) : Type 0 where
  masks : not (some 32 (strays_in l)) ≡ true
  row : in_aRow (pack 32 (start_in l)) ≡ true
  counters : counters_fit (get_or l 12 0) (plane_in 1 l) (plane_in 2 l) (plane_in 3 l) (plane_in 4 l) ≡ true
  returns : returns_fit (return_in 0 l) (return_in 1 l) (return_in 2 l) (return_in 3 l) ≡ true
  loops : loops_fit (loop_in 0 l) (loop_in 1 l) (loop_in 2 l) (loop_in 3 l) ≡ true
  place : leb (position_in l) 512 ≡ true
  spare0 : eqb (get_or l 18 0) 0 ≡ true
  spare1 : eqb (get_or l 19 0) 0 ≡ true

tests : (l : List ℕ) → is_group l ≡ true → Tests l
unfolding is_group
tests l t0 =
    let t1 = and_right (not (some 32 (strays_in l))) _ t0 in
    let t2 = and_right (in_aRow (pack 32 (start_in l))) _ t1 in
    let t3 = and_right (counters_fit (get_or l 12 0) (plane_in 1 l) (plane_in 2 l) (plane_in 3 l) (plane_in 4 l)) _ t2 in
    let t4 = and_right (returns_fit (return_in 0 l) (return_in 1 l) (return_in 2 l) (return_in 3 l)) _ t3 in
    let t5 = and_right (loops_fit (loop_in 0 l) (loop_in 1 l) (loop_in 2 l) (loop_in 3 l)) _ t4 in
    let t6 = and_right (leb (position_in l) 512) _ t5 in
    record {
      masks = and_left _ _ t0;
      row = and_left _ _ t1;
      counters = and_left _ _ t2;
      returns = and_left _ _ t3;
      loops = and_left _ _ t4;
      place = and_left _ _ t5;
      spare0 = and_left _ _ t6;
      spare1 = and_right (eqb (get_or l 18 0) 0) _ t6;
    }

all_tests : (l : List ℕ) → Tests l → is_group l ≡ true
unfolding is_group
all_tests l t =
    and_intro t.masks
    (and_intro t.row
    (and_intro t.counters
    (and_intro t.returns (and_intro t.loops (and_intro t.place (and_intro t.spare0 t.spare1))))))

-- a list is the list of its entries
listed : ℕ → ℕ → List ℕ → List ℕ
listed zero k l = []
listed (suc n) k l = get_or l k 0 ∷ listed n (suc k) l

listed_later : (n k x : ℕ) (l : List ℕ) → listed n (suc k) (x ∷ l) ≡ listed n k l
unfolding listed
listed_later zero k x l = refl
listed_later (suc n) k x l = ap (λ (r : List ℕ). get_or l k 0 ∷ r) (listed_later n (suc k) x l)

all_listed : (l : List ℕ) → listed (length l) 0 l ≡ l
unfolding listed
all_listed [] = refl
all_listed (x ∷ l) = ap (λ (r : List ℕ). x ∷ r) (listed_later (length l) 0 x l ∙ all_listed l)

-- one test of two neighbours in a row
no_gap : (a b : Bool) → (a and not b) ≡ false → a ≡ true → b ≡ true
unfolding ◌and◌
no_gap true true e h = refl
no_gap true false e h = sym e
no_gap false b e h = absurd (true≢false (sym h))

gap_closed : (a b : Bool) → (a ≡ true → b ≡ true) → (a and not b) ≡ false
unfolding ◌and◌
gap_closed true b h = ap not (h refl)
gap_closed false b h = refl

module _ (l : List ℕ) (size : length l ≡ 20) (w : WordsIn l) (t : Tests l) where
  abbrev procs : ℕ → Proc
  procs = (group_of l).procs

  abbrev counter : ℕ → ℕ
  counter i = counter_of (on i (plane_in 0 l)) (on i (plane_in 1 l)) (on i (plane_in 2 l)) (on i (plane_in 3 l)) (on i (plane_in 4 l))

  own_at :
      (i : ℕ) → i < 32 →
      OwnBits (on i (live_in l)) (on i (active_in l)) (on i (killed_in l)) (on i (plane_in 0 l)) (on i (plane_in 1 l)) (on i (plane_in 2 l))
      (on i (plane_in 3 l)) (on i (plane_in 4 l)) (procs i)
  unfolding proc_at strays
  own_at i h = own_bits _ _ _ _ _ _ _ _ (none_at 32 (strays_in l) (not_yes _ t.masks) i h)

  live_at : (i : ℕ) → on i (live_in l) ≡ is_live (procs i)
  unfolding proc_at
  live_at i = live_bit (on i (live_in l)) (on i (active_in l)) _

  outside : (i : ℕ) → 32 ≤ i → procs i ≡ Absent
  unfolding proc_at
  outside i h =
      ap (λ (b : Bool). proc_of b (on i (active_in l)) (counter i))
      (ap (on i) (pack_on 32 (live_in l) w.live_fits) ∙ on_above 32 i (λ j. on j (live_in l)) h)

  -- counters by the mode
  low_at :
      (i : ℕ) → i < 32 → not (some 32 (too_high (plane_in 1 l) (plane_in 2 l) (plane_in 3 l) (plane_in 4 l))) ≡ true → within 5 (procs i) ≡ true
  unfolding proc_at too_high
  low_at i h e =
      shown_within 5 (on i (live_in l)) (on i (active_in l)) (counter i)
      (partial_counter (on i (plane_in 0 l)) (on i (plane_in 1 l)) (on i (plane_in 2 l)) (on i (plane_in 3 l)) (on i (plane_in 4 l))
      (none_at 32 (too_high (plane_in 1 l) (plane_in 2 l) (plane_in 3 l) (plane_in 4 l)) (not_yes _ e) i h))

  full_at : (i : ℕ) → within 31 (procs i) ≡ true
  unfolding proc_at
  full_at i =
      shown_within 31 (on i (live_in l)) (on i (active_in l)) (counter i)
      (full_counter (on i (plane_in 0 l)) (on i (plane_in 1 l)) (on i (plane_in 2 l)) (on i (plane_in 3 l)) (on i (plane_in 4 l)))

  record OwnMode : Type 0 where
    counters : (i : ℕ) → within (limit_of (mode_in l)) (procs i) ≡ true
    number : get_or l 12 0 ≡ mode_number (mode_in l)

  own_mode : OwnMode
  unfolding counters_fit
  own_mode = go (tested (eqb (get_or l 12 0) 1))
    where
      go : Tested (eqb (get_or l 12 0) 1) → OwnMode
      go (holds q) =
          let is : mode_in l ≡ Partial = mode_partial (get_or l 12 0) (eqb-true _ 1 q) in
          let low = sym (pick_yes _ _ q) ∙ t.counters in
          record {
            counters = λ i. ap (λ (m : Mode). within (limit_of m) (procs i)) is ∙ at low i (tested (ltb i 32));
            number = eqb-true _ 1 q ∙ sym (ap mode_number is);
          }
        where
          at :
              not (some 32 (too_high (plane_in 1 l) (plane_in 2 l) (plane_in 3 l) (plane_in 4 l))) ≡ true → (i : ℕ) → Tested (ltb i 32) →
              within 5 (procs i) ≡ true
          at low i (holds h) = low_at i (ltb-true i 32 h) low
          at low i (fails h) = ap (within 5) (outside i (ltb-false i 32 h))
      go (fails q) =
          let is : mode_in l ≡ Full = mode_full (get_or l 12 0) (eqb-false _ 1 q) in
          record {
            counters = λ i. ap (λ (m : Mode). within (limit_of m) (procs i)) is ∙ full_at i;
            number = eqb-true _ 0 (sym (pick_no _ _ q) ∙ t.counters) ∙ sym (ap mode_number is);
          }

  gone : (i : ℕ) → on i (killed_in l) ≡ true → procs i ≡ Absent
  gone i e = at (tested (ltb i 32))
    where
      at : Tested (ltb i 32) → procs i ≡ Absent
      at (holds h) = (own_at i (ltb-true i 32 h)).killed_bit e
      at (fails h) = outside i (ltb-false i 32 h)

  -- the starting group
  start_at_lem : (i : ℕ) → i < 32 → at_start procs (killed_in l) i ≡ on i (pack 32 (start_in l))
  start_at_lem i h = ap (λ (b : Bool). b or on i (killed_in l)) (sym (live_at i)) ∙ sym (on_pack 32 i (start_in l) h)

  start : StartingGroup procs (killed_in l)
  unfolding in_aRow
  start =
      record {
        first = start_at_lem 0 (omega arith) ∙ and_left (on 0 all) _ t.row;
        in_a_row =
            λ i h e.
            start_at_lem i (omega arith) ∙
            no_gap (on (suc i) all) (on i all)
            (none_at 32 (λ j. on (suc j) all and not (on j all)) (not_yes _ (and_right (on 0 all) _ t.row)) i (omega arith))
            (sym (start_at_lem (suc i) h) ∙ e);
      }
    where
      all : ℕ
      all = pack 32 (start_in l)

  four_returns :
      FourReturns (return_in 0 l) (return_in 1 l) (return_in 2 l) (return_in 3 l) (group_of l).returns
  four_returns = returns_judged (return_in 0 l) (return_in 1 l) (return_in 2 l) (return_in 3 l) t.returns

  held : HeldIn (loop_in 0 l) (loop_in 1 l) (loop_in 2 l) (loop_in 3 l)
  held = loops_judged (loop_in 0 l) (loop_in 1 l) (loop_in 2 l) (loop_in 3 l) t.loops

  -- the cells are just those of the group
  packed : {v : ℕ} (f : ℕ → Bool) → v < 4294967296 → ((i : ℕ) → i < 32 → on i v ≡ f i) → v ≡ pack 32 f
  packed {v} f h same = pack_on 32 v h ∙ pack_same 32 (λ i. on i v) f same

  whole : l ≡ cells_of (mode_in l) (group_of l)
  unfolding listed
  whole =
      sym (all_listed l) ∙ ap (λ (n : ℕ). listed n 0 l) size ∙
      (λ j.
      packed (λ i. is_live (procs i)) w.live_fits (λ i h. live_at i) j ∷
      packed (λ i. is_active (procs i)) w.active_fits (λ i h. (own_at i h).active_bit) j ∷
      packed (λ i. counter_bit 0 (procs i)) w.fits0 (λ i h. (own_at i h).bit0) j ∷
      packed (λ i. counter_bit 1 (procs i)) w.fits1 (λ i h. (own_at i h).bit1) j ∷
      packed (λ i. counter_bit 2 (procs i)) w.fits2 (λ i h. (own_at i h).bit2) j ∷
      packed (λ i. counter_bit 3 (procs i)) w.fits3 (λ i h. (own_at i h).bit3) j ∷
      packed (λ i. counter_bit 4 (procs i)) w.fits4 (λ i h. (own_at i h).bit4) j ∷
      position_in l ∷
      four_returns.first j ∷ four_returns.second j ∷ four_returns.third j ∷ four_returns.fourth j ∷
      own_mode.number j ∷ killed_in l ∷
      held.cell0 j ∷ held.cell1 j ∷ held.cell2 j ∷ held.cell3 j ∷
      eqb-true (get_or l 18 0) 0 t.spare0 j ∷ eqb-true (get_or l 19 0) 0 t.spare1 j ∷ [])

  passed : GroupGiven l
  passed =
      record {
        size = size;
        sound =
            record {
              outside = outside;
              counters = own_mode.counters;
              place = leb-true _ _ t.place;
              depth = four_returns.few;
              slots = four_returns.good;
              nested = held.depth;
              opened = held.sound;
              killed_word = w.killed_fits;
              gone = gone;
              start = start;
            };
        whole = whole;
      }

pub judged_given : (l : List ℕ) → length l ≡ 20 → WordsIn l → is_group l ≡ true → GroupGiven l
judged_given l size w e = passed l size w (tests l e)

-- and back
module _ (l : List ℕ) (v : GroupGiven l) where
  abbrev shown : ℕ → Proc
  shown = (group_of l).procs

  -- a cell and a bit of a mask, by the group's own cells
  cell : (k : ℕ) → get_or l k 0 ≡ get_or (cells_of (mode_in l) (group_of l)) k 0
  cell k = ap (λ (x : List ℕ). get_or x k 0) v.whole

  bit : (k : ℕ) (f : ℕ → Bool) → get_or l k 0 ≡ pack 32 f → (i : ℕ) → i < 32 → on i (get_or l k 0) ≡ f i
  bit k f e i h = ap (on i) e ∙ on_pack 32 i f h

  bit_live : (i : ℕ) → i < 32 → on i (live_in l) ≡ is_live (shown i)
  bit_live = bit 0 (λ i. is_live (shown i)) (cell 0)

  bit_active : (i : ℕ) → i < 32 → on i (active_in l) ≡ is_active (shown i)
  bit_active = bit 1 (λ i. is_active (shown i)) (cell 1)

  bit0 : (i : ℕ) → i < 32 → on i (plane_in 0 l) ≡ counter_bit 0 (shown i)
  bit0 = bit 2 (λ i. counter_bit 0 (shown i)) (cell 2)

  bit1 : (i : ℕ) → i < 32 → on i (plane_in 1 l) ≡ counter_bit 1 (shown i)
  bit1 = bit 3 (λ i. counter_bit 1 (shown i)) (cell 3)

  bit2 : (i : ℕ) → i < 32 → on i (plane_in 2 l) ≡ counter_bit 2 (shown i)
  bit2 = bit 4 (λ i. counter_bit 2 (shown i)) (cell 4)

  bit3 : (i : ℕ) → i < 32 → on i (plane_in 3 l) ≡ counter_bit 3 (shown i)
  bit3 = bit 5 (λ i. counter_bit 3 (shown i)) (cell 5)

  bit4 : (i : ℕ) → i < 32 → on i (plane_in 4 l) ≡ counter_bit 4 (shown i)
  bit4 = bit 6 (λ i. counter_bit 4 (shown i)) (cell 6)

  no_stray : (i : ℕ) → i < 32 → strays_in l i ≡ false
  unfolding strays
  no_stray i h =
      (λ j.
      ((bit_active i h j and not (bit_live i h j)) or (on i (killed_in l) and bit_live i h j)) or
      (((((bit0 i h j or bit1 i h j) or bit2 i h j) or bit3 i h j) or bit4 i h j) and not (bit_live i h j and not (bit_active i h j)))) ∙
      own_not_stray (shown i) (on i (killed_in l)) (v.sound.gone i)

  own_counters :
      (mode : Mode) → get_or l 12 0 ≡ mode_number mode → ((i : ℕ) → within (limit_of mode) (shown i) ≡ true) →
      counters_fit (get_or l 12 0) (plane_in 1 l) (plane_in 2 l) (plane_in 3 l) (plane_in 4 l) ≡ true
  unfolding counters_fit too_high
  own_counters Full e c = pick_no _ _ (ap (λ (n : ℕ). eqb n 1) e) ∙ ap (λ (n : ℕ). eqb n 0) e
  own_counters Partial e c =
      pick_yes _ _ (ap (λ (n : ℕ). eqb n 1) e) ∙
      none_of _
      (λ i h.
      (λ j. (bit3 i h j or bit4 i h j) or (bit1 i h j and bit2 i h j)) ∙
      low_not_high (shown i) (c i))

  -- the starting group
  on_start : (i : ℕ) → i < 32 → on i (pack 32 (start_in l)) ≡ at_start shown (killed_in l) i
  on_start i h = on_pack 32 i (start_in l) h ∙ ap (λ (b : Bool). b or on i (killed_in l)) (bit_live i h)

  own_row : in_aRow (pack 32 (start_in l)) ≡ true
  unfolding in_aRow
  own_row = and_intro (on_start 0 (omega arith) ∙ v.sound.start.first) (none_of _ (λ i h. gap i h (tested (ltb (suc i) 32))))
    where
      gap : (i : ℕ) → i < 32 → Tested (ltb (suc i) 32) → (on (suc i) (pack 32 (start_in l)) and not (on i (pack 32 (start_in l)))) ≡ false
      gap i h (holds q) =
          let k : suc i < 32 = ltb-true (suc i) 32 q in
          gap_closed _ _ (λ e. on_start i h ∙ v.sound.start.in_a_row i k (sym (on_start (suc i) k) ∙ e))
      gap i h (fails q) = and_no_left _ (on_above 32 (suc i) (start_in l) (ltb-false (suc i) 32 q))

  own_tests : Tests l
  own_tests =
      record {
        masks = none_of (strays_in l) no_stray;
        row = own_row;
        counters = own_counters (mode_in l) (cell 12) v.sound.counters;
        returns =
            returns_fit_lem (group_of l).returns
            (record {
              first = cell 8;
              second = cell 9;
              third = cell 10;
              fourth = cell 11;
              few = v.sound.depth;
              good = v.sound.slots;
            });
        loops = loops_fit_lem (group_of l).loops (given_loops l v);
        place = le-leb _ _ v.sound.place;
        spare0 = eq-eqb _ 0 (cell 18);
        spare1 = eq-eqb _ 0 (cell 19);
      }

pub given_judged : (l : List ℕ) → GroupGiven l → is_group l ≡ true
given_judged l v = all_tests l (own_tests l v)

-- zeros have no starting group
zeros_none : GroupGiven zero_cells → false ≡ true
unfolding proc_at on ◌or◌
zeros_none v = v.sound.start.first

pub zeros_refused : (r : Bool) → JudgesGroup zero_cells r → r ≡ false
zeros_refused true j = sym (zeros_none (j.sound refl))
zeros_refused false j = refl
