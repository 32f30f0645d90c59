-- What a kind byte and a midnight leave, return by return: each is the step that the definitions say. Assumes nothing.
use mathlib.Core.Path.{◌≡◌, refl, sym, ap, ◌∙◌, subst}
use mathlib.Core.Bool.{Bool, true, false}
use mathlib.Core.List.{List}
use Prim.Native.Nat.{ℕ, ◌+◌, ◌*◌, ◌<◌, ◌≤◌}
use native.Mathlib.Omega.{arith}
use lib.Dec.{eqb}
use lib.ListN.{length, get_or, set, length-set}
use borrow.Author.Tests.{eq-eqb, ne_eqb, eqb-true, lt-ltb, le-ltb, ltb-true}
use Rattle.laws.specs.Masks.{◌or◌}
use Rattle.laws.proofs.Choice.{pick_yes, pick_no, and_left, and_right, and_yes, and_no_left, Tested, tested, holds, fails}
use Rattle.state.specs.Cells.{party_of, session_of}
use Rattle.replay.specs.State.{Replay}
use Rattle.replay.specs.Step.{Reply, taken, refused, Stepped, opening, stopped, taking, is_kind, of_kind, kind_step, may_begin, after_midnight, midnight_step}
use Rattle.replay.specs.Cells.{viewed}
use Rattle.replay.specs.Own.{Changed, Answered, MidnightLeft, day_begun}

-- a replay and what a step tells of it
abbrev told : Reply → Replay → Stepped
told reply r = record { reply = reply; replay = r }

-- the kind byte
module _ (l l1 : List ℕ) (b : ℕ) where
  pub kind_taken : is_kind b ≡ true → Changed (opening (of_kind b)) l l1 → Answered (λ r. kind_step r b) taken l l1
  unfolding kind_step
  kind_taken e c = record { log_length_lem = c.log_length_lem; view = λ m s. pick_yes _ _ e ∙ ap taking (sym (c.view m s)) }

  pub kind_refused : is_kind b ≡ false → Changed (stopped 18) l l1 → Answered (λ r. kind_step r b) (refused 18) l l1
  unfolding kind_step
  kind_refused e c =
      record { log_length_lem = c.log_length_lem; view = λ m s. pick_no _ _ e ∙ ap (told (refused 18)) (sym (c.view m s)) }

pub kind_first : (b : ℕ) → b ≡ 1 → true ≡ is_kind b
unfolding ◌or◌
kind_first b e = subst (λ (t : Bool). true ≡ (t or eqb b 2)) (sym (eq-eqb b 1 e)) refl

pub kind_second : (b : ℕ) → (b ≡ 1 → ⊥) → eqb b 2 ≡ is_kind b
unfolding ◌or◌
kind_second b e = subst (λ (t : Bool). eqb b 2 ≡ (t or eqb b 2)) (sym (ne_eqb b 1 e)) refl

-- which day may begin
module _ (midnights last day : ℕ) where
  pub first_midnight : midnights < 400 → midnights ≡ 0 → true ≡ may_begin midnights last day
  unfolding may_begin
  first_midnight h e = sym (and_yes _ (lt-ltb midnights 400 h) ∙ pick_yes _ _ (eq-eqb midnights 0 e))

  pub later_midnight : midnights < 400 → (midnights ≡ 0 → ⊥) → eqb day (last + 1) ≡ may_begin midnights last day
  unfolding may_begin
  later_midnight h e = sym (and_yes _ (lt-ltb midnights 400 h) ∙ pick_no _ _ (ne_eqb midnights 0 e))

  pub too_many : 400 ≤ midnights → false ≡ may_begin midnights last day
  unfolding may_begin
  too_many h = sym (and_no_left _ (le-ltb midnights 400 h))

  pub few : may_begin midnights last day ≡ true → midnights < 400
  unfolding may_begin
  few e = ltb-true midnights 400 (and_left _ _ e)

  -- as many days as midnights, the last one's among them, are numbered from 0 on
  pub enough : may_begin midnights last day ≡ true → midnights ≤ last + 1 → midnights + 1 ≤ day + 1
  unfolding may_begin
  enough e h = go (tested (eqb midnights 0))
    where
      go : Tested (eqb midnights 0) → midnights + 1 ≤ day + 1
      go (holds z) = omega (arith, eqb-true midnights 0 z)
      go (fails z) = omega (arith, eqb-true day (last + 1) (sym (pick_no _ _ z) ∙ and_right _ _ e))

-- a midnight
module _ (l marks tallies l1 : List ℕ) (day : ℕ) where
  pub midnight_taken : may_begin (get_or l 3 0) (get_or l 4 0) day ≡ true → length marks ≡ 800 →
      Changed (day_begun (get_or l 3 0 + 1) day) l l1 →
      MidnightLeft (λ r. midnight_step r day) taken l marks tallies l1
      (set (set marks (2 * get_or l 3 0) (get_or tallies 0 0)) (2 * get_or l 3 0 + 1) (get_or tallies 1 0))
  midnight_taken e h c =
      record {
        log_length_lem = c.log_length_lem;
        marks_length_lem = simp length-set h;
        view =
            λ own shared.
            unfold midnight_step viewed after_midnight party_of in (pick_yes _ _ e ∙ ap taking (sym (c.view _ (session_of own tallies shared))));
      }

  pub midnight_refused : may_begin (get_or l 3 0) (get_or l 4 0) day ≡ false → length marks ≡ 800 → Changed (stopped 19) l l1 →
      MidnightLeft (λ r. midnight_step r day) (refused 19) l marks tallies l1 marks
  midnight_refused e h c =
      record {
        log_length_lem = c.log_length_lem;
        marks_length_lem = h;
        view =
            λ own shared.
            unfold midnight_step viewed in (pick_no _ _ e ∙ ap (told (refused 19)) (sym (c.view marks (session_of own tallies shared))));
      }
