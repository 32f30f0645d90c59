-- What 20 cells that were kept elsewhere are judged by, test by test, and what the judgement means. Assumes nothing.
use Rattle.std.specs.Prelude.{◌≡◌, Bool, true, not, List, [], ◌∷◌, ℕ, suc, ◌/◌, ◌%◌, ◌^◌, ◌<◌, eqb, leb, get_or}
use Rattle.laws.specs.Choice.{◌and◌, pick}
use Rattle.laws.specs.Below.{some}
use Rattle.laws.specs.Masks.{◌or◌, on, pack}
use Rattle.loops.specs.Loops.{loop_mark, highest}
use Rattle.group.specs.Proc.{most_processors}
use Rattle.group.specs.Group.{store_slots}
use Rattle.group.specs.Cells.{live_in, active_in, plane_in, position_in, return_in, loop_in, killed_in, GroupGiven}

-- processor `i` is active and not in the group, or killed and in it, or has a bit of a counter without being idle
unfoldable pub strays : ℕ → ℕ → ℕ → ℕ → ℕ → ℕ → ℕ → ℕ → ℕ → Bool
strays live active p0 p1 p2 p3 p4 killed i =
    ((on i active and not (on i live)) or (on i killed and on i live)) or
    (((((on i p0 or on i p1) or on i p2) or on i p3) or on i p4) and not (on i live and not (on i active)))

-- a mask has bit 0, and with each bit the one before it
unfoldable pub in_aRow : ℕ → Bool
in_aRow all = on 0 all and not (some most_processors (λ i. on (suc i) all and not (on i all)))

-- the counter of processor `i` is above 5, whatever its lowest bit
unfoldable pub too_high : ℕ → ℕ → ℕ → ℕ → ℕ → Bool
too_high p1 p2 p3 p4 i = (on i p3 or on i p4) or (on i p1 and on i p2)

-- the number is a mode's, and no counter is above the mode's limit: 31 is the highest that five planes hold
unfoldable pub counters_fit : ℕ → ℕ → ℕ → ℕ → ℕ → Bool
counters_fit mode p1 p2 p3 p4 = pick (eqb mode 1) (not (some most_processors (too_high p1 p2 p3 p4))) (eqb mode 0)

-- four cells of a stack, the last thing stored first, and for each whether it is good: what isn't 0 is good, and after a 0 there are only 0s
unfoldable pub stack_of : ℕ → ℕ → ℕ → ℕ → Bool → Bool → Bool → Bool → Bool
stack_of c0 c1 c2 c3 g0 g1 g2 g3 =
    pick (eqb c0 0) (eqb c1 0 and eqb c2 0 and eqb c3 0 and true)
    (g0 and
    pick (eqb c1 0) (eqb c2 0 and eqb c3 0 and true)
    (g1 and pick (eqb c2 0) (eqb c3 0 and true) (g2 and pick (eqb c3 0) true (g3 and true))))

unfoldable pub returns_fit : ℕ → ℕ → ℕ → ℕ → Bool
returns_fit r0 r1 r2 r3 = stack_of r0 r1 r2 r3 (leb r0 store_slots) (leb r1 store_slots) (leb r2 store_slots) (leb r3 store_slots)

-- a cell that isn't 0 is an open loop's: a LOOP's has a turn left, and a REP's is the turns left
unfoldable pub loop_fits : ℕ → Bool
loop_fits c = pick (eqb (c / loop_mark) 1) (not (eqb (c % 256) 0)) (leb c highest)

unfoldable pub loops_fit : ℕ → ℕ → ℕ → ℕ → Bool
loops_fit l0 l1 l2 l3 = stack_of l0 l1 l2 l3 (loop_fits l0) (loop_fits l1) (loop_fits l2) (loop_fits l3)

-- all tests
unfoldable pub is_group : List ℕ → Bool
is_group l =
    not
    (some most_processors
    (strays (live_in l) (active_in l) (plane_in 0 l) (plane_in 1 l) (plane_in 2 l) (plane_in 3 l) (plane_in 4 l) (killed_in l))) and
    in_aRow (pack most_processors (λ i. on i (live_in l) or on i (killed_in l))) and
    counters_fit (get_or l 12 0) (plane_in 1 l) (plane_in 2 l) (plane_in 3 l) (plane_in 4 l) and
    returns_fit (return_in 0 l) (return_in 1 l) (return_in 2 l) (return_in 3 l) and
    loops_fit (loop_in 0 l) (loop_in 1 l) (loop_in 2 l) (loop_in 3 l) and
    leb (position_in l) store_slots and eqb (get_or l 18 0) 0 and eqb (get_or l 19 0) 0

-- the masks are words of 32 bits
pub record Words (live active p0 p1 p2 p3 p4 killed : ℕ) : Type 0 where
  pub live_fits : live < 2 ^ most_processors
  pub active_fits : active < 2 ^ most_processors
  pub fits0 : p0 < 2 ^ most_processors
  pub fits1 : p1 < 2 ^ most_processors
  pub fits2 : p2 < 2 ^ most_processors
  pub fits3 : p3 < 2 ^ most_processors
  pub fits4 : p4 < 2 ^ most_processors
  pub killed_fits : killed < 2 ^ most_processors

-- the answer is yes just where the cells are such as the entries over a group give out and take
pub record JudgesGroup (l : List ℕ) (r : Bool) : Type 0 where
  pub sound : r ≡ true → GroupGiven l
  pub complete : GroupGiven l → r ≡ true

-- cells of which nothing was ever made
abbrev pub zero_cells : List ℕ
zero_cells =
    0 ∷ 0 ∷ 0 ∷ 0 ∷ 0 ∷ 0 ∷ 0 ∷ 0 ∷ 0 ∷ 0 ∷ 0 ∷ 0 ∷ 0 ∷ 0 ∷ 0 ∷ 0 ∷ 0 ∷ 0 ∷ 0 ∷ 0 ∷ []
