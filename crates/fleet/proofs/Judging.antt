-- The order of a report's refusals: 11 for the lengths, then 22, then what the stations tell. Assumes nothing.
use mathlib.Core.Path.{◌≡◌, refl, sym, ap, ◌∙◌, subst}
use mathlib.Core.Bool.{Bool, true, false}
use mathlib.Core.List.{List, [], ◌∷◌}
use Prim.Native.Nat.{ℕ, ◌%◌, ◌<◌, ◌≤◌}
use native.Mathlib.Omega.{arith}
use lib.Dec.{eqb, leb}
use lib.ListN.{length, get_or, set}
use borrow.Author.Tests.{eq-eqb, ne_eqb, le-leb, lt-leb, eqb-true}
use Rattle.laws.specs.Choice.{◌and◌, pick}
use Rattle.laws.proofs.Choice.{pick_yes, pick_no, and_intro, and_left, and_right, and_no_left, and_no_right, Tested, tested, holds, fails}
use Rattle.refusal.specs.Told.{Told, gives, refuses, then_told}
use Rattle.refusal.specs.Crossing.{Crosses, status_of, room_of}
use Rattle.state.specs.Start.{is_edition, edition_told}
use Rattle.fleet.specs.Fleet.{stations_in, add_up, fleet_in, counted_told, judged_told, report_told}
use Rattle.fleet.specs.Answers.{FleetAsked, CountedAsked, fleet_numbers, told_reported}
use Rattle.fleet.specs.declared.parts.Fleet.{Fleet}
use Rattle.std.specs.Prelude.{Result, Ok, Err}

-- a list of four numbers, each of which was written
pub four_written : (l : List ℕ) (a b c d : ℕ) → length l ≡ 4 → set (set (set (set l 0 a) 1 b) 2 c) 3 d ≡ a ∷ b ∷ c ∷ d ∷ []
four_written (x ∷ y ∷ z ∷ w ∷ []) a b c d e = refl
four_written [] a b c d e = absurd (let k : ◌≡◌ {A = ℕ} 0 4 = e in omega arith)
four_written (x ∷ []) a b c d e = absurd (let k : ◌≡◌ {A = ℕ} 1 4 = e in omega arith)
four_written (x ∷ y ∷ []) a b c d e = absurd (let k : ◌≡◌ {A = ℕ} 2 4 = e in omega arith)
four_written (x ∷ y ∷ z ∷ []) a b c d e = absurd (let k : ◌≡◌ {A = ℕ} 3 4 = e in omega arith)
four_written (x ∷ y ∷ z ∷ w ∷ v ∷ l) a b c d e = absurd (omega (arith, e))

module _ (edition : ℕ) (logs numbers : List ℕ) where
  pub fleet_asked : CountedAsked edition logs numbers → stations_in numbers ≤ 64 → FleetAsked edition logs numbers
  fleet_asked a h = record { known = a.known; fours = a.fours; few = h; slice = a.slice }

  pub too_many : {r : ℕ} → 64 < stations_in numbers → r ≡ 22 → refuses r ≡ counted_told edition logs numbers
  unfolding counted_told
  too_many h k = ap refuses k ∙ sym (pick_no _ _ (lt-leb (stations_in numbers) 64 h))

  pub then_stations : {t : Told} → stations_in numbers ≤ 64 → t ≡ fleet_in edition logs numbers → t ≡ counted_told edition logs numbers
  unfolding counted_told
  then_stations h e = e ∙ sym (pick_yes _ _ (le-leb (stations_in numbers) 64 h))

  pub counted_asked : is_edition edition ≡ true → length numbers % 4 ≡ 0 → add_up numbers (length logs) ≡ true →
      CountedAsked edition logs numbers
  counted_asked known fours e = record { known = known; fours = fours; slice = e }

  module _ (room : ℕ) where
    pub edition_refused : is_edition edition ≡ false → {r : ℕ} → r ≡ 3 → refuses r ≡ report_told edition logs numbers room
    unfolding report_told edition_told then_told
    edition_refused e k =
        ap refuses k ∙ sym (ap (λ (t : Told). then_told t (judged_told edition logs numbers room)) (pick_no (gives []) (refuses 3) e))

    module _ (known : is_edition edition ≡ true) where
      judged : {t : Told} → t ≡ judged_told edition logs numbers room → t ≡ report_told edition logs numbers room
      unfolding report_told edition_told then_told
      judged e = e ∙ sym (ap (λ (t : Told). then_told t (judged_told edition logs numbers room)) (pick_yes (gives []) (refuses 3) known))

      pub not_in_fours : {r : ℕ} → (length numbers % 4 ≡ 0 → ⊥) → r ≡ 11 → refuses r ≡ report_told edition logs numbers room
      not_in_fours e k = judged (unfold judged_told in ap refuses k ∙ sym (pick_no _ _ (and_no_left _ (ne_eqb _ 0 e))))

      pub room_not_four : {r : ℕ} → (room ≡ 4 → ⊥) → r ≡ 11 → refuses r ≡ report_told edition logs numbers room
      room_not_four e k =
          judged
          (unfold judged_told in ap refuses k ∙ sym (pick_no _ _ (and_no_right (eqb (length numbers % 4) 0) (and_no_left _ (ne_eqb _ 4 e)))))

      pub not_the_slice : {r : ℕ} → add_up numbers (length logs) ≡ false → r ≡ 11 → refuses r ≡ report_told edition logs numbers room
      not_the_slice e k =
          judged
          (unfold judged_told in ap refuses k ∙ sym (pick_no _ _ (and_no_right (eqb (length numbers % 4) 0) (and_no_right (eqb room 4) e))))

      pub then_counted : length numbers % 4 ≡ 0 → room ≡ 4 → add_up numbers (length logs) ≡ true → {t : Told} →
          t ≡ counted_told edition logs numbers → t ≡ report_told edition logs numbers room
      then_counted fours four e k =
          judged (unfold judged_told in k ∙ sym (pick_yes _ _ (and_intro (eq-eqb _ 0 fours) (and_intro (eq-eqb _ 4 four) e))))

    -- a report that is given has a room of four
    pub room_four : {v : List ℕ} → gives v ≡ report_told edition logs numbers room → room ≡ 4
    unfolding report_told edition_told then_told judged_told
    room_four {v} e = go (tested (is_edition edition)) (tested (eqb (length numbers % 4) 0 and (eqb room 4 and add_up numbers (length logs))))
      where
        apart : {n : ℕ} → gives v ≡ refuses n → room ≡ 4
        apart k = absurd (let z : ◌≡◌ {A = ℕ} 0 1 = cc in omega arith)

        go : Tested (is_edition edition) → Tested (eqb (length numbers % 4) 0 and (eqb room 4 and add_up numbers (length logs))) → room ≡ 4
        go t (holds h) = eqb-true room 4 (and_left _ _ (and_right (eqb (length numbers % 4) 0) _ h))
        go (fails t) (fails h) =
            apart (e ∙ ap (λ (t : Told). then_told t (judged_told edition logs numbers room)) (pick_no (gives []) (refuses 3) t))
        go (holds t) (fails h) =
            apart
            (e ∙ ap (λ (t : Told). then_told t (judged_told edition logs numbers room)) (pick_yes (gives []) (refuses 3) t) ∙ pick_no _ _ h)

  -- the answer as it crosses
  module _ (room : List ℕ) where
    pub refused_crosses : {n : ℕ} → refuses n ≡ report_told edition logs numbers (length room) →
        Crosses (report_told edition logs numbers (length room)) n room room
    refused_crosses e = record { status = ap status_of e; room = ap (λ (u : Told). room_of u room) e }

    pub fleet_crosses : (f : Fleet) → gives (fleet_numbers f) ≡ report_told edition logs numbers (length room) → {room1 : List ℕ} →
        room1 ≡ fleet_numbers f → Crosses (report_told edition logs numbers (length room)) 0 room room1
    fleet_crosses f e k = record { status = ap status_of e; room = k ∙ ap (λ (u : Told). room_of u room) e }
