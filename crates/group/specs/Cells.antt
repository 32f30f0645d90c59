-- The state of a group in 20 lent cells of 32 bits: how a group is read from its cells and how it is written.
--
--     0        the processors in the group, bit i for processor i
--     1        the active ones
--     2 to 6   the branch counters as five planes: bit i of cell 2 + k is bit k of processor i's counter
--     7        the position
--     8 to 11  the stored returns, the last one first, 0 where there is none
--     12       the mode: 0 full, 1 partial
--     13       the processors that were killed, who are in neither mask above
--     14 to 17 the open loops, the innermost first, 0 where there is none (crates/loops/specs/Loops.antt)
--     18 and 19 are 0
--
-- The encoding is canonical: a plane has no bit of a processor that is active or absent, and a return or a loop of 0 has none after
-- it, so a group has one list of cells, and the cells at a routine's end are stated whole. Assumes nothing.
use Rattle.std.specs.Prelude.{◌≡◌, Bool, true, false, List, [], ◌∷◌, ℕ, suc, ◌+◌, ◌*◌, ◌^◌, ◌<◌, ◌≤◌, eqb, leb, length, get_or, drop}
use Rattle.laws.specs.Choice.{◌and◌, pick}
use Rattle.laws.specs.Masks.{◌or◌, digit, on, pack}
use Rattle.loops.specs.Loops.{Opened, most_loops, loops_of, cell_at, are_opened}
use Rattle.group.specs.Proc.{Proc, Active, Idle, Absent, is_live, is_active, counter_bit, within, most_processors}
use Rattle.group.specs.Modes.{Mode, limit_of, mode_number, mode_of}
use Rattle.group.specs.Group.{Group, Outcome, Steps, Fails, Run, Makes, Breaks, fresh, may_begin, most_returns, store_slots}

-- how many cells there are, and the numbers in them by name
abbrev pub cell_count : ℕ
cell_count = 20

abbrev pub live_in : List ℕ → ℕ
live_in l = get_or l 0 0

abbrev pub active_in : List ℕ → ℕ
active_in l = get_or l 1 0

-- plane `k` of the branch counters
abbrev pub plane_in : ℕ → List ℕ → ℕ
plane_in k l = get_or l (2 + k) 0

abbrev pub position_in : List ℕ → ℕ
position_in l = get_or l 7 0

-- the cell of a return, 0 the last one
abbrev pub return_in : ℕ → List ℕ → ℕ
return_in k l = get_or l (8 + k) 0

abbrev pub mode_in : List ℕ → Mode
mode_in l = mode_of (get_or l 12 0)

-- the cell of a loop, 0 the innermost
abbrev pub loop_in : ℕ → List ℕ → ℕ
loop_in k l = get_or l (14 + k) 0

-- the processors that were killed, as a mask
abbrev pub killed_in : List ℕ → ℕ
killed_in l = get_or l 13 0

-- a group of processors as masks
abbrev pub live_mask : (ℕ → Proc) → ℕ
live_mask procs = pack most_processors (λ i. is_live (procs i))

abbrev pub active_mask : (ℕ → Proc) → ℕ
active_mask procs = pack most_processors (λ i. is_active (procs i))

abbrev pub plane : ℕ → (ℕ → Proc) → ℕ
plane k procs = pack most_processors (λ i. counter_bit k (procs i))

-- the counter whose bits are given, bit 0 first
abbrev pub counter_of : Bool → Bool → Bool → Bool → Bool → ℕ
counter_of b0 b1 b2 b3 b4 = digit b0 + 2 * digit b1 + 4 * digit b2 + 8 * digit b3 + 16 * digit b4

-- a processor from its bits: in the group, active, and its counter
abbrev pub proc_of : Bool → Bool → ℕ → Proc
proc_of false active n = Absent
proc_of true true n = Active
proc_of true false n = Idle n

unfoldable pub proc_at : ℕ → ℕ → ℕ → ℕ → ℕ → ℕ → ℕ → ℕ → Proc
proc_at live active p0 p1 p2 p3 p4 i =
    proc_of (on i live) (on i active) (counter_of (on i p0) (on i p1) (on i p2) (on i p3) (on i p4))

-- the returns that four cells hold: those before the first 0
unfoldable pub returns_in : List ℕ → List ℕ
returns_in [] = []
returns_in (r ∷ rs) = pick (eqb r 0) [] (r ∷ returns_in rs)

-- the processors that the cells show with another word for the active ones
abbrev pub with_active : List ℕ → ℕ → ℕ → Proc
with_active l active = proc_at (live_in l) active (plane_in 0 l) (plane_in 1 l) (plane_in 2 l) (plane_in 3 l) (plane_in 4 l)

abbrev pub group_of : List ℕ → Group
group_of l =
    record {
      procs = with_active l (active_in l);
      position = position_in l;
      returns = returns_in (return_in 0 l ∷ return_in 1 l ∷ return_in 2 l ∷ return_in 3 l ∷ []);
      loops = loops_of (loop_in 0 l) (loop_in 1 l) (loop_in 2 l) (loop_in 3 l);
      killed = killed_in l;
    }

-- cells 12 to 19: the mode and the killed, which no step changes, and the open loops, which document 01's step neither reads nor writes
abbrev pub last_cells : Mode → ℕ → List Opened → List ℕ
last_cells mode killed loops = mode_number mode ∷ killed ∷ cell_at loops 0 ∷ cell_at loops 1 ∷ cell_at loops 2 ∷ cell_at loops 3 ∷ 0 ∷ 0 ∷ []

abbrev pub last_in : List ℕ → List ℕ
last_in l = drop 12 l

abbrev pub cells_with : ℕ → ℕ → ℕ → ℕ → ℕ → ℕ → ℕ → ℕ → ℕ → ℕ → ℕ → ℕ → List ℕ → List ℕ
cells_with live active p0 p1 p2 p3 p4 position r0 r1 r2 r3 last =
    live ∷ active ∷ p0 ∷ p1 ∷ p2 ∷ p3 ∷ p4 ∷ position ∷ r0 ∷ r1 ∷ r2 ∷ r3 ∷ last

abbrev pub cells_of : Mode → Group → List ℕ
cells_of mode g =
    cells_with (live_mask g.procs) (active_mask g.procs)
    (plane 0 g.procs) (plane 1 g.procs) (plane 2 g.procs) (plane 3 g.procs) (plane 4 g.procs)
    g.position
    (get_or g.returns 0 0) (get_or g.returns 1 0) (get_or g.returns 2 0) (get_or g.returns 3 0)
    (last_cells mode g.killed g.loops)

-- a stored return is a slot number from 1 to 512
abbrev pub a_return : ℕ → Bool
a_return r = leb 1 r and leb r store_slots

unfoldable pub are_returns : List ℕ → Bool
are_returns [] = true
are_returns (r ∷ rs) = a_return r and are_returns rs

-- processor `i` is of the starting group: it is in the group or was killed
abbrev pub at_start : (ℕ → Proc) → ℕ → ℕ → Bool
at_start procs killed i = is_live (procs i) or on i killed

-- "A group has 1 to 32 processors": processor 0 is of the starting group, and with each processor the one before it
pub record StartingGroup (procs : ℕ → Proc) (killed : ℕ) : Type 0 where
  pub first : at_start procs killed 0 ≡ true
  pub in_a_row : (i : ℕ) → suc i < most_processors → at_start procs killed (suc i) ≡ true → at_start procs killed i ≡ true

-- what holds of every state given out: nobody is beyond the 32 places, counters are within the limit, the position is at
-- most 512, there are at most 4 returns, each from 1 to 512, and at most 4 open loops, each with a turn left and bytes for numbers;
-- the killed are places of a mask, and nobody of them is in the group; and there was a starting group, so that all-zero cells are none
pub record Sound (limit : ℕ) (g : Group) : Type 0 where
  pub outside : (i : ℕ) → most_processors ≤ i → g.procs i ≡ Absent
  pub counters : (i : ℕ) → within limit (g.procs i) ≡ true
  pub place : g.position ≤ store_slots
  pub depth : length g.returns ≤ most_returns
  pub slots : are_returns g.returns ≡ true
  pub nested : length g.loops ≤ most_loops
  pub opened : are_opened g.loops ≡ true
  pub killed_word : g.killed < 2 ^ most_processors
  pub gone : (i : ℕ) → on i g.killed ≡ true → g.procs i ≡ Absent
  pub start : StartingGroup g.procs g.killed

-- cells that came from these entries: they are just those of a sound group in its mode
pub record GroupGiven (l : List ℕ) : Type 0 where
  pub size : length l ≡ cell_count
  pub sound : Sound (limit_of (mode_in l)) (group_of l)
  pub whole : l ≡ cells_of (mode_in l) (group_of l)

-- the same processors at another place, with other returns
abbrev pub placed_at : List ℕ → ℕ → ℕ → ℕ → ℕ → ℕ → List ℕ
placed_at l at r0 r1 r2 r3 =
    cells_with (live_in l) (active_in l) (plane_in 0 l) (plane_in 1 l) (plane_in 2 l) (plane_in 3 l) (plane_in 4 l) at r0 r1 r2 r3 (last_in l)

abbrev pub with_place : List ℕ → ℕ → List ℕ → List ℕ
with_place l at rs = placed_at l at (get_or rs 0 0) (get_or rs 1 0) (get_or rs 2 0) (get_or rs 3 0)

-- as many cells as a group has, and so each under its name
pub record CellsNamed (l : List ℕ) : Type 0 where
  pub size : length l ≡ cell_count
  pub cells : l ≡ placed_at l (position_in l) (return_in 0 l) (return_in 1 l) (return_in 2 l) (return_in 3 l)

-- the cells after a step: those of the state that it leads to, in the same mode; a refusal leaves them as they were
abbrev pub step_leaves : List ℕ → Outcome → List ℕ
step_leaves l (Steps jump g) = cells_of (mode_in l) g
step_leaves l (Fails why) = l

abbrev pub run_leaves : List ℕ → Run → List ℕ
run_leaves l (Makes n g) = cells_of (mode_in l) g
run_leaves l (Breaks why) = l

unfoldable pub begin_leaves : List ℕ → ℕ → ℕ → List ℕ
begin_leaves l size mode = pick (may_begin size mode) (cells_of (mode_of mode) (fresh size)) l
