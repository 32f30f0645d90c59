-- Request 4, "With op 0 every old answer stays": document 01's step and run, which know no loops: every slot's two words go to `jump_step`, and
-- neither integer words nor open loops are looked at. Assumes nothing.
use Rattle.std.specs.Prelude.{◌≡◌, List, [], ◌∷◌, ℕ, ◌<◌, leb, get_or}
use Rattle.laws.specs.Choice.{pick}
use Rattle.loops.specs.Loops.{Opened}
use Rattle.group.specs.Proc.{counter_limit}
use Rattle.group.specs.Group.{Group, Outcome, Steps, Fails, Program, Run, Makes, Breaks, go_on, op_of, jump_step, store_slots, with_loops}

-- every slot that runs has op 0
abbrev pub AllPlain : Program → Type 0
AllPlain program = (k : ℕ) → k < program.slots → op_of (get_or program.firsts k 0) ≡ 0

-- document 01's step on a store of slots
unfoldable pub plain_step : List ℕ → List ℕ → ℕ → ℕ → ℕ → ℕ → Group → Outcome
plain_step firsts seconds slots alu predicate booleans g =
    pick (leb slots g.position) (Fails 16)
    (pick (leb slots store_slots)
    (jump_step counter_limit slots (get_or firsts g.position 0) (get_or seconds g.position 0) alu predicate booleans g)
    (Fails 15))

-- document 01's run: "It ends with the list or with the program"
unfoldable pub plain_steps : List ℕ → List ℕ → ℕ → ℕ → List ℕ → Group → Run
plain_steps firsts seconds slots booleans [] g = Makes 0 g
plain_steps firsts seconds slots booleans (alu ∷ []) g = Makes 0 g
plain_steps firsts seconds slots booleans (alu ∷ (predicate ∷ masks)) g =
    pick (leb slots g.position) (Makes 0 g)
    (go_on (plain_step firsts seconds slots alu predicate booleans g) (λ g'. plain_steps firsts seconds slots booleans masks g'))

-- "it then gets 16, whatever the list"
unfoldable pub plain_run : List ℕ → List ℕ → ℕ → ℕ → List ℕ → Group → Run
plain_run firsts seconds slots booleans masks g =
    pick (leb slots g.position) (Breaks 16) (plain_steps firsts seconds slots booleans masks g)

-- an answer with other loops open
abbrev pub loops_after_step : List Opened → Outcome → Outcome
loops_after_step loops (Steps jump g) = Steps jump (with_loops g loops)
loops_after_step loops (Fails why) = Fails why

abbrev pub loops_after : List Opened → Run → Run
loops_after loops (Makes n g) = Makes n (with_loops g loops)
loops_after loops (Breaks why) = Breaks why
