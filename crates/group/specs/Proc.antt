-- Document 01, "Stepping a group": what a step does to each processor by itself, sentence by sentence, and what it asks of
-- all processors together. The counter limit is a parameter. Assumes nothing.
use Rattle.std.specs.Prelude.{Bool, true, false, not, ℕ, zero, suc, ◌+◌, ◌-◌, ◌*◌, eqb, leb, ltb}
use Rattle.laws.specs.Choice.{◌and◌, pick}
use Rattle.laws.specs.Below.{some, every}
use Rattle.laws.specs.Masks.{◌or◌, differ, digit, on}

-- "A group has 1 to 32 processors": as many places has a mask
abbrev pub most_processors : ℕ
most_processors = 32

-- "Each inactive processor has a branch counter 0 to 31": the limit of the counters
abbrev pub counter_limit : ℕ
counter_limit = 31

-- "Each inactive processor has a branch counter 0 to 31; an active one's counter is 0": a processor is active, or idle with
-- its counter, or not in the group
pub data Proc : Type 0 where
  Active : Proc
  Idle : ℕ → Proc
  Absent : Proc

-- the processor is in the group
abbrev pub is_live : Proc → Bool
is_live Active = true
is_live (Idle n) = true
is_live Absent = false

abbrev pub is_active : Proc → Bool
is_active Active = true
is_active (Idle n) = false
is_active Absent = false

-- bit `k` of the branch counter
abbrev pub counter_bit : ℕ → Proc → Bool
counter_bit k Active = false
counter_bit k (Idle n) = on k n
counter_bit k Absent = false

-- the counter is one that the limit allows
abbrev pub within : ℕ → Proc → Bool
within limit Active = true
within limit (Idle n) = leb n limit
within limit Absent = true

-- 1. "B_ELSE: active processors become inactive with counter 0; those that were inactive with counter 0 before become active."
abbrev pub turned : Proc → Proc
turned Active = Idle 0
turned (Idle zero) = Active
turned (Idle (suc n)) = Idle (suc n)
turned Absent = Absent

-- 2. "A processor wants to jump when JUMP_FUNC has bit 4·alu + 2·predicate + boolean"
unfoldable pub wants : ℕ → Bool → Bool → Bool → Bool
wants func alu predicate boolean = on (4 * digit alu + 2 * digit predicate + digit boolean) func

-- 3. "JUMP_ANY 0: jump if every active one wants to, so also if none is active. JUMP_ANY 1: jump if some active one wants to."
unfoldable pub decided : Bool → (ℕ → Bool) → (ℕ → Bool) → Bool
decided any active wants =
    pick any (some most_processors (λ i. active i and wants i)) (every most_processors (λ i. not (active i) or wants i))

-- 4. "Decrement: each inactive counter loses B_POP_CNT; one that would go below zero becomes active."
abbrev pub lowered : ℕ → Proc → Proc
lowered k Active = Active
lowered k (Idle n) = pick (ltb n k) Active (Idle (n - k))
lowered k Absent = Absent

-- "Increment: each inactive counter gains 1 (from 31: 14); active ones whose wish differs from the decision become inactive
-- with counter 0."
abbrev pub raised : Bool → Bool → Proc → Proc
raised jump wish Active = pick (differ wish jump) (Idle 0) Active
raised jump wish (Idle n) = Idle (n + 1)
raised jump wish Absent = Absent

-- the counter can't gain 1
abbrev pub at_limit : ℕ → Proc → Bool
at_limit limit Active = false
at_limit limit (Idle n) = leb limit n
at_limit limit Absent = false

-- "0 none, 1 decrement, 2 increment": the branch operations, and what each does to a processor
abbrev pub decrement : ℕ
decrement = 1

abbrev pub increment : ℕ
increment = 2

unfoldable pub branched : ℕ → ℕ → Bool → Bool → Proc → Proc
branched op k jump wish p = pick (eqb op decrement) (lowered k p) (pick (eqb op increment) (raised jump wish p) p)
