-- Request 7: "Partial mode refuses what full mode accepts for the three causes above and no other.": the causes by name, of a step and of a
-- run. Assumes nothing.
use Rattle.std.specs.Prelude.{◌≡◌, Bool, true, false, List, ◌∷◌, ℕ, ◌≤◌, get_or}
use Rattle.laws.specs.Masks.{on}
use Rattle.group.specs.Proc.{Proc, is_active, decided}
use Rattle.group.specs.Modes.{Full, partial_limit}
use Rattle.group.specs.Group.{Group, Steps, Program, op_of, b_else, jump_any, a_op, jump_func, branch_op, boolean_number, turned_if, wish_of, over_limit, ended, group_step}

-- the words of the slot that a group stands at, the processors once B_ELSE has done its work, and what the wishes decide
module _ (program : Program) (g : Group) where
  abbrev pub first_here : ℕ
  first_here = get_or program.firsts g.position 0

  abbrev pub second_here : ℕ
  second_here = get_or program.seconds g.position 0

  abbrev pub procs_here : ℕ → Proc
  procs_here = turned_if (b_else first_here) g.procs

  abbrev pub wanted_here : ℕ → ℕ → ℕ → Bool
  wanted_here alu predicate booleans =
      decided (jump_any first_here) (λ i. is_active (procs_here i))
      (wish_of (jump_func first_here) (on (boolean_number second_here) booleans) alu predicate)

  -- why partial mode refuses a step that full mode makes, with the refusal's number
  pub data Cause (alu predicate booleans : ℕ) : ℕ → Type 0 where
    -- "ops 1 to 4 .. get 13"
    loop_op : 1 ≤ op_of first_here → op_of first_here ≤ 4 → Cause alu predicate booleans 13
    -- "and A_OP other than 0": pop and push, whether the group jumps or stays
    return_op : 1 ≤ a_op first_here → a_op first_here ≤ 2 → Cause alu predicate booleans 13
    -- "from 5, increment gets 14", in a slot that is neither
    counter_at_five :
        op_of first_here ≡ 0 → a_op first_here ≡ 0 →
        over_limit partial_limit (branch_op (wanted_here alu predicate booleans) first_here) procs_here ≡ true → Cause alu predicate booleans 14

-- a run of full mode comes to a step with a cause, before the program's end, and no step before it has one
pub data FirstMet (program : Program) (booleans : ℕ) : List ℕ → Group → ℕ → Type 0 where
  here :
      (alu predicate : ℕ) (masks : List ℕ) (g : Group) (n : ℕ) → ended program g ≡ false → Cause program g alu predicate booleans n →
      FirstMet program booleans (alu ∷ (predicate ∷ masks)) g n
  later :
      (alu predicate : ℕ) (masks : List ℕ) (g g' : Group) (jump : Bool) (n : ℕ) → ended program g ≡ false →
      ((m : ℕ) → Cause program g alu predicate booleans m → ⊥) → group_step Full program alu predicate booleans g ≡ Steps jump g' →
      FirstMet program booleans masks g' n → FirstMet program booleans (alu ∷ (predicate ∷ masks)) g n
