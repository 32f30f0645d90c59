-- What a step's number stands for: 1 for a jump, 0 for a stay, 13 to 16 for a refusal; and what tells the open loops. Assumes nothing.
use mathlib.Core.Path.{◌≡◌, refl, sym, ap, ap₂, ◌∙◌, subst}
use mathlib.Core.Bool.{Bool, true}
use mathlib.Core.List.{List, [], ◌∷◌}
use Prim.Native.Nat.{ℕ, ◌+◌, ◌-◌, ◌/◌, ◌%◌, ◌<◌}
use native.Mathlib.Omega.{arith}
use lib.Dec.{eqb}
use borrow.Author.Tests.{eqb-true}
use Rattle.laws.specs.Choice.{◌and◌, pick}
use Rattle.laws.specs.Below.{every}
use Rattle.laws.specs.Masks.{digit}
use Rattle.laws.proofs.Below.{every_at}
use Rattle.refusal.specs.Number.{number_of}
use Rattle.refusal.specs.Told.{gives, refuses}
use Rattle.refusal.specs.declared.Refusal.{Refusal}
use Rattle.loops.specs.Loops.{Opened, shown_aL, kind_at, loops_told, Held}
use Rattle.loops.proofs.Stack.{told_of}
use Rattle.group.specs.Group.{Outcome, Steps, Fails}
use Rattle.group.specs.Cells.{position_in}
use Rattle.group.proofs.State.{SoundAfter}
use Rattle.std.specs.Prelude.{Result, Ok, Err}
use Rattle.stepper.specs.Answers.{refusal_of, MoveDone, StepDone}
use Rattle.stepper.proofs.Going.{never}

-- 13 to 16 are the numbers of the refusals that they stand for
pub refusal_number : (n : ℕ) → 12 < n → n < 17 → number_of (refusal_of n) ≡ n
unfolding refusal_of pick ◌and◌ every
refusal_number n low high =
    subst (λ (m : ℕ). number_of (refusal_of m) ≡ m) again
    (eqb-true _ _ (every_at 4 (λ k. eqb (number_of (refusal_of (k + 13))) (k + 13)) refl (n - 13) (omega arith)))
  where
    again : n - 13 + 13 ≡ n
    again = omega arith

-- what an answer holds
abbrev jump_in : Bool → Result Bool Refusal → Bool
jump_in d (Ok jump) = jump
jump_in d (Err why) = d

abbrev number_in : Result Bool Refusal → ℕ
number_in (Ok jump) = 0
number_in (Err why) = number_of why

module _ {l leaves : List ℕ} {r : Result Bool Refusal} where
  -- a step that is made, with the position that the cells then show
  pub told_made :
      (o : Outcome) → MoveDone l leaves r o → {jumped : Bool} → r ≡ Ok jumped →
      StepDone l leaves (Ok (record { jumped = jumped; next = record { 0 = position_in leaves } })) o
  told_made (Steps jump g) d {jumped} e =
      record {
        told = ap₂ (λ (j : Bool) (at : ℕ). gives (digit j ∷ at ∷ [])) (ap (jump_in true) (sym e ∙ d.answer)) (ap position_in d.left);
        left = d.left;
      }
  told_made (Fails n) d e = absurd (never e d.answer)

  -- and one that is refused
  pub told_refused : (limit : ℕ) (o : Outcome) → SoundAfter limit o → MoveDone l leaves r o → {why : Refusal} → r ≡ Err why → StepDone l leaves (Err why) o
  told_refused limit (Steps jump g) s d e = absurd (never d.answer e)
  told_refused limit (Fails n) s d e =
      record { told = ap refuses (ap number_in (sym e ∙ d.answer) ∙ refusal_number n s.0 s.1); left = d.left }

-- the open loops, from their cells
pub loops_told_lem :
    {l0 l1 l2 l3 al k0 k1 k2 k3 : ℕ} (ls : List Opened) → Held ls l0 l1 l2 l3 → al ≡ shown_aL ls →
    k0 ≡ kind_at l0 → k1 ≡ kind_at l1 → k2 ≡ kind_at l2 → k3 ≡ kind_at l3 →
    al ∷ k0 ∷ l0 % 256 ∷ l0 / 256 % 256 ∷ k1 ∷ l1 % 256 ∷ l1 / 256 % 256 ∷ k2 ∷ l2 % 256 ∷ l2 / 256 % 256 ∷ k3 ∷ l3 % 256 ∷ l3 / 256 % 256 ∷ [] ≡
    loops_told ls
loops_told_lem {l0} {l1} {l2} {l3} {al} ls h e e0 e1 e2 e3 =
    (λ j.
    al ∷ e0 j ∷ l0 % 256 ∷ l0 / 256 % 256 ∷ e1 j ∷ l1 % 256 ∷ l1 / 256 % 256 ∷ e2 j ∷ l2 % 256 ∷ l2 / 256 % 256 ∷
    e3 j ∷ l3 % 256 ∷ l3 / 256 % 256 ∷ []) ∙
    told_of ls h e
