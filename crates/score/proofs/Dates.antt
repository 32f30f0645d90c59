-- Which days of a log have a midnight record, which part of the log each is, and what was claimed on it. Assumes nothing.
use mathlib.Core.Path.{◌≡◌, sym, ap, ◌∙◌}
use mathlib.Core.Bool.{Bool, true, false}
use mathlib.Core.List.{List}
use Prim.Native.Nat.{ℕ, ◌+◌, ◌-◌, ◌<◌, ◌≤◌}
use native.Mathlib.Omega.{arith}
use lib.Dec.{ltb}
use lib.ListN.{get_or}
use borrow.Author.Tests.{lt-ltb, le-ltb, le-leb, lt-leb, ltb-true, ltb-false, leb-true}
use Rattle.laws.proofs.Choice.{pick_yes, pick_no, and_intro, and_yes, and_left, and_right, and_no_left}
use Rattle.laws.proofs.Choice.{Tested, tested, holds, fails}
use Rattle.state.specs.State.{Tally}
use Rattle.state.specs.Cells.{party_of}
use Rattle.replay.specs.State.{Replay}
use Rattle.replay.specs.Report.{part_of}
use Rattle.replay.specs.Cells.{viewed, ReplayValid}
use Rattle.days.specs.Reported.{midnights_in, now_in}
use Rattle.score.specs.Score.{has_midnight, part_of_day, claimed_on}
use Rattle.score.specs.Answers.{replay_for}
use Rattle.score.specs.Promises.{DayPart, Claimed, on_part, on_none}

module _ (midnights last_day day : ℕ) where
  pub no_later : last_day < day → false ≡ has_midnight midnights last_day day
  unfolding has_midnight
  no_later h = sym (and_no_left _ (lt-leb day last_day h))

  pub by_distance : day ≤ last_day → ltb (last_day - day) midnights ≡ has_midnight midnights last_day day
  unfolding has_midnight
  by_distance h = go (tested (ltb (last_day - day) midnights)) ∙ sym (and_yes _ (le-leb day last_day h))
    where
      go : Tested (ltb (last_day - day) midnights) → ltb (last_day - day) midnights ≡ ltb last_day (day + midnights)
      go (holds e) = e ∙ sym (lt-ltb last_day (day + midnights) (omega (arith, ltb-true (last_day - day) midnights e)))
      go (fails e) = e ∙ sym (le-ltb last_day (day + midnights) (omega (arith, ltb-false (last_day - day) midnights e)))

  pub not_after : has_midnight midnights last_day day ≡ true → day ≤ last_day
  unfolding has_midnight
  not_after e = leb-true day last_day (and_left _ _ e)

  pub not_before : has_midnight midnights last_day day ≡ true → last_day < day + midnights
  unfolding has_midnight
  not_before e = ltb-true last_day (day + midnights) (and_right _ _ e)

-- what was claimed on a day, return by return
module _ (log marks tallies : List ℕ) (day : ℕ) where
  pub claimed_part : has_midnight (get_or log 3 0) (get_or log 4 0) day ≡ true → (part : ℕ) →
      part ≡ part_of_day (get_or log 3 0) (get_or log 4 0) day → (t : Tally) → t ≡ part_of marks (midnights_in log) (now_in tallies) part →
      t.claims ≡ claimed_on (replay_for log marks tallies) day
  unfolding claimed_on viewed
  claimed_part e part same t told =
      ap (λ (x : Tally). x.claims) (told ∙ ap (part_of marks (get_or log 3 0) (now_in tallies)) same) ∙
      unfold party_of in sym (pick_yes _ _ e)

  pub claimed_none : has_midnight (get_or log 3 0) (get_or log 4 0) day ≡ false → 0 ≡ claimed_on (replay_for log marks tallies) day
  unfolding claimed_on viewed
  claimed_none e = sym (pick_no _ _ e)

-- the days that have a midnight record are the parts after the first midnight
module _ (r : Replay) (v : ReplayValid r) (day : ℕ) where
  abbrev has : Bool
  has = has_midnight r.midnights r.last_day day

  pub has_part : has ≡ true → DayPart r day (part_of_day r.midnights r.last_day day)
  has_part e =
      let a : day ≤ r.last_day = not_after _ _ _ e in
      let b : r.last_day < day + r.midnights = not_before _ _ _ e in
      record { begun = omega arith; reached = omega arith; same_day = omega arith }

  pub part_has : (k : ℕ) → DayPart r day k → has ≡ true
  unfolding has_midnight
  part_has k p =
      let a : r.last_day + k - r.midnights ≡ day = p.same_day in
      let b : r.midnights ≤ r.last_day + 1 = v.days_number in
      and_intro (le-leb day r.last_day (omega (arith, p.begun, p.reached)))
      (lt-ltb r.last_day (day + r.midnights) (omega (arith, p.begun, p.reached)))

  pub claimed_from : Claimed r day
  unfolding claimed_on
  claimed_from = go (tested has)
    where
      go : Tested has → Claimed r day
      go (holds e) = on_part _ (has_part e) (pick_yes _ _ e)
      go (fails e) =
          on_none (λ k p. let z : true ≡ false = sym (part_has k p) ∙ e in let n : ◌≡◌ {A = ℕ} 0 1 = cc in omega arith)
          (pick_no _ _ e)
