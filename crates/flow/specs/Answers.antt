-- What each answer of the entries tells, in document 01's numbers and values, and what a routine leaves in what it is lent (of
-- a step: crates/stepper/specs/Answers.antt). Assumes nothing.
use Rattle.std.specs.Prelude.{◌≡◌, List, [], ◌∷◌, ℕ, Result, Ok, Err}
use Rattle.refusal.specs.declared.Refusal.{Refusal}
use Rattle.refusal.specs.Number.{number_of}
use Rattle.refusal.specs.Told.{Told, gives, refuses}
use Rattle.group.specs.Group.{Run, Makes, Breaks, group_steps, run_told, begin_told}
use Rattle.group.specs.Cells.{mode_in, group_of, GroupGiven, run_leaves, begin_leaves}
use Rattle.stepper.specs.Answers.{program_of}
use Rattle.flow.specs.declared.Report.{Report}
use Rattle.flow.specs.Store.{load_told, firsts_left, seconds_left}

-- a fresh group tells nothing, a program its number of slots
abbrev pub told_begun : Result (Unit {0}) Refusal → Told
told_begun (Ok x) = gives []
told_begun (Err why) = refuses (number_of why)

pub record BeginDone (entry leaves : List ℕ) (r : Result (Unit {0}) Refusal) (size mode : ℕ) : Type 0 where
  pub told : told_begun r ≡ begin_told size mode
  pub left : leaves ≡ begin_leaves entry size mode

abbrev pub told_loaded : Result ℕ Refusal → Told
told_loaded (Ok n) = gives (n ∷ [])
told_loaded (Err why) = refuses (number_of why)

pub record LoadDone (words firsts firsts' seconds seconds' : List ℕ) (r : Result ℕ Refusal) : Type 0 where
  pub told : told_loaded r ≡ load_told words
  pub left_firsts : firsts' ≡ firsts_left firsts words
  pub left_seconds : seconds' ≡ seconds_left seconds words

-- a run's report: steps made, first active, number active
abbrev pub told_ran : Result Report Refusal → Told
told_ran (Ok r) = gives (r.steps ∷ r.first ∷ r.active ∷ [])
told_ran (Err why) = refuses (number_of why)

pub record RunDone (entry leaves : List ℕ) (r : Result Report Refusal) (o : Run) : Type 0 where
  pub told : told_ran r ≡ run_told o
  pub left : leaves ≡ run_leaves entry o

-- the steps of a run that the group in these cells, in their mode, makes under the program in these arrays
abbrev pub steps_in : List ℕ → List ℕ → ℕ → List ℕ → List ℕ → ℕ → List ℕ → Run
steps_in firsts seconds slots cells masks booleans integers =
    group_steps (mode_in cells) (program_of firsts seconds slots integers) booleans masks (group_of cells)

-- steps made one after the other, on cells that end as `leaves`, in the mode that they had
abbrev pub steps_told : Result ℕ Refusal → List ℕ → Run
steps_told (Ok n) leaves = Makes n (group_of leaves)
steps_told (Err why) leaves = Breaks (number_of why)

pub record StepsDone (entry leaves : List ℕ) (r : Result ℕ Refusal) (o : Run) : Type 0 where
  pub told : steps_told r leaves ≡ o
  pub given : GroupGiven leaves
  pub mode : mode_in leaves ≡ mode_in entry
