-- A kill, return by return: the refusals in their order, and the kill that is made. Assumes nothing.
use mathlib.Core.Path.{◌≡◌, sym, ap, ◌∙◌}
use mathlib.Core.List.{List}
use Prim.Native.Nat.{ℕ, ◌*◌, ◌<◌, ◌≤◌}
use lib.ListN.{length}
use lib.Ieee.{Float}
use borrow.Author.Tests.{le-leb, lt-leb, le-ltb, lt-ltb, eq-eqb, ne_eqb}
use Rattle.laws.proofs.Choice.{pick_yes, pick_no}
use Rattle.refusal.specs.declared.Refusal.TheVariants.{Ended, FlowField, WrongLength}
use Rattle.group.specs.Group.{Group}
use Rattle.group.specs.Cells.{position_in, group_of}
use Rattle.std.specs.Prelude.{Ok, Err}
use Rattle.kill.specs.Kill.{Outcome, Kills, Fails, killed_now, after_kill, start_size, kill_of, kill_told, kill_leaves}
use Rattle.kill.specs.Answers.{KillDone, TakenOut}

module _ (l : List ℕ) (registers : List Float) (mask slots : ℕ) where
  abbrev g : Group
  g = group_of l

  abbrev outcome : Outcome
  outcome = kill_of slots registers mask g

  -- 16
  pub kill_ended : slots ≤ position_in l → KillDone l l (Err Ended) outcome
  unfolding kill_of
  kill_ended h =
      let e : outcome ≡ Fails 16 = pick_yes _ _ (le-leb slots (position_in l) h) in
      record { told = sym (ap kill_told e); left = sym (ap (kill_leaves l) e) }

  module _ (running : position_in l < slots) where
    -- 13
    pub kill_field : 15 < mask → KillDone l l (Err FlowField) outcome
    unfolding kill_of
    kill_field h =
        let e : outcome ≡ Fails 13 = pick_no _ _ (lt-leb slots (position_in l) running) ∙ pick_yes _ _ (lt-ltb 15 mask h) in
        record { told = sym (ap kill_told e); left = sym (ap (kill_leaves l) e) }

    module _ (few : mask ≤ 15) where
      -- 11
      pub kill_length : (length registers ≡ start_size g * 4 → ⊥) → KillDone l l (Err WrongLength) outcome
      unfolding kill_of
      kill_length h =
          let e : outcome ≡ Fails 11 =
          pick_no _ _ (lt-leb slots (position_in l) running) ∙ pick_no _ _ (le-ltb 15 mask few) ∙
          pick_no _ _ (ne_eqb (length registers) (start_size g * 4) h) in
          record { told = sym (ap kill_told e); left = sym (ap (kill_leaves l) e) }

      -- the kill is made
      pub kill_made :
          {gone : ℕ} {leaves : List ℕ} → length registers ≡ start_size g * 4 → TakenOut l leaves registers mask gone →
          KillDone l leaves (Ok gone) outcome
      unfolding kill_of
      kill_made {gone} {leaves} h d =
          let e : outcome ≡ Kills (killed_now registers mask g) (after_kill registers mask g) =
          pick_no _ _ (lt-leb slots (position_in l) running) ∙ pick_no _ _ (le-ltb 15 mask few) ∙
          pick_yes _ _ (eq-eqb (length registers) (start_size g * 4) h) in
          record {
            told = ap (λ (n : ℕ). kill_told (Kills n g)) d.now ∙ sym (ap kill_told e);
            left = d.left ∙ sym (ap (kill_leaves l) e);
          }
