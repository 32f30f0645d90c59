-- The active processors whose registers kill are taken out of the group: what that does to each processor's bits, and to the cells.
-- Assumes nothing.
use mathlib.Core.Path.{◌≡◌, refl, sym, ap, ap₂, ◌∙◌}
use mathlib.Core.Bool.{Bool, true, false, not}
use mathlib.Core.List.{List}
use Prim.Native.Nat.{ℕ, ◌+◌, ◌*◌, ◌/◌, ◌<◌, ◌≤◌}
use native.Mathlib.Omega.{arith}
use lib.Dec.{ltb}
use lib.ListN.{length, get_or, set, get_or-eq_default}
use lib.Ieee.{Float, nan, lt}
use borrow.Author.Tests.{ltb-true, ltb-false}
use Rattle.laws.specs.Choice.{◌and◌, pick}
use Rattle.laws.specs.Below.{some, count}
use Rattle.laws.specs.Masks.{◌or◌, on, pack}
use Rattle.laws.proofs.Choice.{Tested, holds, fails, tested, and_no_right}
use Rattle.laws.proofs.Below.{count_same, count_bounded}
use Rattle.laws.proofs.Masks.{pack_same, on_pack, on_above}
use Rattle.registers.specs.Registers.{killed_by, masked_at, kill_mask}
use Rattle.group.specs.Proc.{Proc, Active, Idle, Absent, is_live, is_active, counter_bit}
use Rattle.group.specs.Group.{Group}
use Rattle.group.specs.Cells.{live_in, active_in, mode_in, killed_in, live_mask, active_mask, plane, group_of, cells_with, last_cells, cells_of, GroupGiven}
use Rattle.group.proofs.State.{given_masks}
use Rattle.kill.specs.Kill.{is_killed, after_kill, start_size}
use Rattle.kill.specs.Answers.{TakenOut}

-- a register without a number kills nobody
spared : (mask : ℕ) → killed_by (record { c0 = nan; c1 = nan; c2 = nan; c3 = nan; mask = mask }) ≡ false
unfolding killed_by some lt ◌or◌
spared mask =
    rw (
      and_no_right (on 0 mask) refl,
      and_no_right (on 1 mask) refl,
      and_no_right (on 2 mask) refl,
      and_no_right (on 3 mask) refl,
    )
    refl

-- past the list's end there is none
beyond : (l : List Float) (mask n i : ℕ) → length l ≡ n * 4 → n ≤ i → killed_by (masked_at l i mask) ≡ false
beyond l mask n i e h =
    ap killed_by
    (λ j.
    record {
      c0 = get_or-eq_default l nan {n = i * 4} (omega arith) j;
      c1 = get_or-eq_default l nan {n = i * 4 + 1} (omega arith) j;
      c2 = get_or-eq_default l nan {n = i * 4 + 2} (omega arith) j;
      c3 = get_or-eq_default l nan {n = i * 4 + 3} (omega arith) j;
      mask = mask;
    }) ∙
    spared mask

-- the mask of the registers that kill, processor by processor
mask_at :
    (l : List Float) (mask n i : ℕ) → length l ≡ n * 4 → on i (kill_mask (length l / 4) l mask) ≡ killed_by (masked_at l i mask)
mask_at l mask n i e = go (tested (ltb i (length l / 4)))
  where
    go : Tested (ltb i (length l / 4)) → on i (kill_mask (length l / 4) l mask) ≡ killed_by (masked_at l i mask)
    go (holds t) = on_pack (length l / 4) i (λ j. killed_by (masked_at l j mask)) (ltb-true i (length l / 4) t)
    go (fails t) =
        let k : length l / 4 ≤ i = ltb-false i (length l / 4) t in
        on_above (length l / 4) i (λ j. killed_by (masked_at l j mask)) k ∙ sym (beyond l mask n i e (omega arith))

-- what a kill does to a processor's bits
live_left : (b : Bool) (p : Proc) → (is_live p and not (is_active p and b)) ≡ is_live (pick (is_active p and b) Absent p)
unfolding ◌and◌ pick
live_left true Active = refl
live_left false Active = refl
live_left b (Idle n) = refl
live_left b Absent = refl

active_left : (b : Bool) (p : Proc) → (is_active p and not (is_active p and b)) ≡ is_active (pick (is_active p and b) Absent p)
unfolding ◌and◌ pick
active_left true Active = refl
active_left false Active = refl
active_left b (Idle n) = refl
active_left b Absent = refl

bit_left : (k : ℕ) (b : Bool) (p : Proc) → counter_bit k p ≡ counter_bit k (pick (is_active p and b) Absent p)
unfolding ◌and◌ pick
bit_left k true Active = refl
bit_left k false Active = refl
bit_left k b (Idle n) = refl
bit_left k b Absent = refl

module _ (l : List ℕ) (m : GroupGiven l) where
  abbrev g : Group
  g = group_of l

  bit_is : {w : ℕ} (f : Proc → Bool) → w ≡ pack 32 (λ j. f (g.procs j)) → (i : ℕ) → i < 32 → on i w ≡ f (g.procs i)
  bit_is f e i h = ap (on i) e ∙ on_pack 32 i (λ j. f (g.procs j)) h

  -- the starting group by the masks
  pub start_size_lem : count 32 (λ i. on i (live_in l) or on i (killed_in l)) ≡ start_size g
  unfolding start_size
  start_size_lem =
      count_same 32 _ _ (λ i h. ap (λ (b : Bool). b or on i (killed_in l)) (bit_is is_live (given_masks l m).live_word i h))

  module _ (registers : List Float) (mask : ℕ) (whole : length registers ≡ start_size g * 4) where
    -- a group has at most 32 registers
    pub few_channels : length registers ≤ 128
    unfolding start_size
    few_channels = omega (arith, count_bounded 32 (λ i. is_live (g.procs i) or on i g.killed))

    module _ {found gone live active dead : ℕ}
        (found_is : found ≡ kill_mask (length registers / 4) registers mask)
        (gone_is : gone ≡ pack 32 (λ i. on i (active_in l) and on i found))
        (live_is : live ≡ pack 32 (λ i. on i (live_in l) and not (on i gone)))
        (active_is : active ≡ pack 32 (λ i. on i (active_in l) and not (on i gone)))
        (dead_is : dead ≡ pack 32 (λ i. on i (killed_in l) or on i gone)) where
      killed_at : (i : ℕ) → i < 32 → (on i (active_in l) and on i found) ≡ is_killed registers mask g i
      killed_at i h =
          ap₂ ◌and◌ (bit_is is_active (given_masks l m).active_word i h)
          (ap (on i) found_is ∙ mask_at registers mask (start_size g) i whole)

      gone_at : (i : ℕ) → i < 32 → on i gone ≡ is_killed registers mask g i
      gone_at i h = ap (on i) gone_is ∙ on_pack 32 i (λ j. on j (active_in l) and on j found) h ∙ killed_at i h

      pub taken_out : {leaves : List ℕ} → leaves ≡ set (set (set l 0 live) 1 active) 13 dead → TakenOut l leaves registers mask gone
      unfolding after_kill
      taken_out {leaves} e =
          record { now = gone_is ∙ pack_same 32 _ _ killed_at; left = e ∙ written }
        where
          after : ℕ → Proc
          after = (after_kill registers mask g).procs

          live_then : live ≡ live_mask after
          live_then =
              live_is ∙
              pack_same 32 _ _
              (λ i h.
              ap₂ (λ (a b : Bool). a and not b) (bit_is is_live (given_masks l m).live_word i h) (gone_at i h) ∙
              live_left _ (g.procs i))

          active_then : active ≡ active_mask after
          active_then =
              active_is ∙
              pack_same 32 _ _
              (λ i h.
              ap₂ (λ (a b : Bool). a and not b) (bit_is is_active (given_masks l m).active_word i h) (gone_at i h) ∙
              active_left _ (g.procs i))

          dead_then : dead ≡ (after_kill registers mask g).killed
          dead_then = dead_is ∙ pack_same 32 _ _ (λ i h. ap (λ (b : Bool). on i (killed_in l) or b) (gone_at i h))

          plane_then : (k : ℕ) → plane k g.procs ≡ plane k after
          plane_then k = pack_same 32 _ _ (λ i h. bit_left k _ (g.procs i))

          written : set (set (set l 0 live) 1 active) 13 dead ≡ cells_of (mode_in l) (after_kill registers mask g)
          written =
              ap (λ (x : List ℕ). set (set (set x 0 live) 1 active) 13 dead) m.whole ∙
              (λ j.
              cells_with (live_then j) (active_then j)
              (plane_then 0 j) (plane_then 1 j) (plane_then 2 j) (plane_then 3 j) (plane_then 4 j)
              g.position (get_or g.returns 0 0) (get_or g.returns 1 0) (get_or g.returns 2 0) (get_or g.returns 3 0)
              (last_cells (mode_in l) (dead_then j) g.loops))
