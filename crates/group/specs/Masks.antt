-- What the functions on masks take and give: seven words that are just the masks of the processors they show, and the words
-- that an operation leaves. Assumes nothing.
use Rattle.std.specs.Prelude.{◌≡◌, Bool, true, List, ℕ, eqb, leb}
use Rattle.laws.specs.Below.{some}
use Rattle.laws.specs.Masks.{on}
use Rattle.group.specs.declared.planes.Branched.{Branched}
use Rattle.group.specs.Proc.{Proc, within, most_processors, counter_limit}
use Rattle.group.specs.Modes.{Mode, Full, Partial, partial_limit}
use Rattle.group.specs.Cells.{counter_of, proc_at, live_mask, active_mask, plane, live_in, plane_in, position_in, return_in, last_in, cells_with}

-- the seven words are the masks of these processors, whose counters five planes hold
pub record MasksOf (procs : ℕ → Proc) (live active p0 p1 p2 p3 p4 : ℕ) : Type 0 where
  pub live_word : live ≡ live_mask procs
  pub active_word : active ≡ active_mask procs
  pub word0 : p0 ≡ plane 0 procs
  pub word1 : p1 ≡ plane 1 procs
  pub word2 : p2 ≡ plane 2 procs
  pub word3 : p3 ≡ plane 3 procs
  pub word4 : p4 ≡ plane 4 procs
  pub counters : (i : ℕ) → within counter_limit (procs i) ≡ true

-- the seven words are the masks of the processors that they show
abbrev pub OwnMasks : ℕ → ℕ → ℕ → ℕ → ℕ → ℕ → ℕ → Type 0
OwnMasks live active p0 p1 p2 p3 p4 = MasksOf (proc_at live active p0 p1 p2 p3 p4) live active p0 p1 p2 p3 p4

-- the same of the words in a group's cells, with another word for the active ones
abbrev pub OwnMasksIn : List ℕ → ℕ → Type 0
OwnMasksIn l active =
    OwnMasks (live_in l) active (plane_in 0 l) (plane_in 1 l) (plane_in 2 l) (plane_in 3 l) (plane_in 4 l)

-- some processor's counter is at its limit, by the planes of the counters
abbrev pub some_at_limit : ℕ → ℕ → ℕ → ℕ → ℕ → Bool
some_at_limit p0 p1 p2 p3 p4 =
    some most_processors (λ i. eqb (counter_of (on i p0) (on i p1) (on i p2) (on i p3) (on i p4)) counter_limit)

abbrev pub some_at_limit_in : List ℕ → Bool
some_at_limit_in l = some_at_limit (plane_in 0 l) (plane_in 1 l) (plane_in 2 l) (plane_in 3 l) (plane_in 4 l)

-- the same for the limit of partial mode
abbrev pub some_at_partial : ℕ → ℕ → ℕ → ℕ → ℕ → Bool
some_at_partial p0 p1 p2 p3 p4 =
    some most_processors (λ i. leb partial_limit (counter_of (on i p0) (on i p1) (on i p2) (on i p3) (on i p4)))

abbrev pub some_at_partial_in : List ℕ → Bool
some_at_partial_in l = some_at_partial (plane_in 0 l) (plane_in 1 l) (plane_in 2 l) (plane_in 3 l) (plane_in 4 l)

-- and for the limit of the mode that the cells have
abbrev pub some_at_own_limit : Mode → List ℕ → Bool
some_at_own_limit Full l = some_at_limit_in l
some_at_own_limit Partial l = some_at_partial_in l

-- what an operation leaves, whole: the masks of the processors after it
abbrev pub shown_as : (ℕ → Proc) → Branched
shown_as procs =
    record {
      active = active_mask procs;
      p0 = plane 0 procs;
      p1 = plane 1 procs;
      p2 = plane 2 procs;
      p3 = plane 3 procs;
      p4 = plane 4 procs;
    }

-- a group's cells with these words for the active processors and the counters, at the same place
abbrev pub with_masks : List ℕ → Branched → List ℕ
with_masks l w =
    cells_with (live_in l) w.active w.p0 w.p1 w.p2 w.p3 w.p4
    (position_in l) (return_in 0 l) (return_in 1 l) (return_in 2 l) (return_in 3 l) (last_in l)
