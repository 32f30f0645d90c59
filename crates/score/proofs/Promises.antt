-- Request 5's promises, for all logs and lease lines: what refuses a score, what a score tells, and that pieces of a log change
-- nothing. Assumes nothing.
use mathlib.Core.Path.{◌≡◌, refl, sym, ap, ◌∙◌, subst}
use mathlib.Core.Bool.{true, false}
use mathlib.Core.List.{List}
use Prim.Native.Nat.{ℕ, ◌+◌, ◌<◌}
use native.Mathlib.Omega.{arith}
use lib.Dec.{eqb}
use borrow.Author.Tests.{eq-eqb, ne_eqb, eqb-true, eqb-false}
use Rattle.laws.proofs.Choice.{pick_yes, pick_no, Tested, tested, holds, fails}
use Rattle.session.specs.Feed.{nothing, first, uncut}
use Rattle.replay.specs.State.{Replay, new_replay}
use Rattle.replay.specs.Cells.{ReplayValid}
use Rattle.station_log.specs.Feed.{replay_of, replay_pieces}
use Rattle.station_log.specs.Feed as piece
use Rattle.station_log.proofs.Cut.{stopping, cut_anywhere}
use Rattle.score.specs.Lease.{Lease, is_lease}
use Rattle.score.specs.Score.{has_midnight, claimed_on, claimed_at, served_at, Month, month_of}
use Rattle.score.specs.Score.{scored, refused, score_of, score_of_log}
use Rattle.score.specs.Promises.{Refusing, by_line, by_log, Scoring}
use Rattle.score.proofs.Lines.{bounds}
use Rattle.score.proofs.Rooms.{room_day, room_past}
use Rattle.score.proofs.Verdicts.{served_day, served_month}

module _ (l : Lease) where
  -- a lease line that is refused reads no log
  pub line_first : is_lease l ≡ false → (r : Replay) → score_of l r ≡ refused 21
  unfolding score_of
  line_first e r = pick_no _ _ e

  module _ (r : Replay) where
    pub then_log : is_lease l ≡ true → (r.stopped_by ≡ 0 → ⊥) → score_of l r ≡ refused r.stopped_by
    unfolding score_of
    then_log e ne = pick_yes _ _ e ∙ pick_no _ _ (ne_eqb r.stopped_by 0 ne)

    pub then_month : is_lease l ≡ true → r.stopped_by ≡ 0 → score_of l r ≡ scored (month_of l r)
    unfolding score_of
    then_month e z = pick_yes _ _ e ∙ pick_yes _ _ (eq-eqb r.stopped_by 0 z)

    -- "A day without a midnight record in the log is served 0."
    dark_claims : (day : ℕ) → has_midnight r.midnights r.last_day day ≡ false → claimed_on r day ≡ 0
    unfolding claimed_on
    dark_claims day e = pick_no _ _ e

    pub dark_day : (k : ℕ) → has_midnight r.midnights r.last_day (l.first_day + k) ≡ false → served_at l r k ≡ 0
    unfolding served_at
    dark_day k e = omega (arith, dark_claims (l.first_day + k) e)

    -- which number refuses a score
    pub refused_with : ReplayValid r → (n : ℕ) → score_of l r ≡ refused n → Refusing l r n
    refused_with v n e = go (tested (is_lease l)) (tested (eqb r.stopped_by 0))
      where
        number : (a : ℕ) → score_of l r ≡ refused a → a ≡ n
        number a f = let same : refused a ≡ refused n = sym f ∙ e in cc

        go : Tested (is_lease l) → Tested (eqb r.stopped_by 0) → Refusing l r n
        go (fails t) u = subst (Refusing l r) (number 21 (line_first t r)) (by_line t)
        go (holds t) (fails u) =
            let ne : r.stopped_by ≡ 0 → ⊥ = eqb-false r.stopped_by 0 u in
            subst (Refusing l r) (number r.stopped_by (then_log t ne)) (by_log t (v.stops ne))
        go (holds t) (holds u) =
            let other : scored (month_of l r) ≡ refused n = sym (then_month t (eqb-true r.stopped_by 0 u)) ∙ e in
            let z : ◌≡◌ {A = ℕ} 0 1 = cc in absurd (omega arith)

    -- what a score tells
    scoring : is_lease l ≡ true → r.stopped_by ≡ 0 → Scoring l r (month_of l r)
    scoring t z =
        record {
          taken = t;
          running = z;
          month = refl;
          claimed_days = λ k h. room_day (claimed_at l r) l.days k (few k h) h;
          served_days = λ k h. room_day (served_at l r) l.days k (few k h) h;
          claimed_past = λ k h low. room_past (claimed_at l r) l.days k low h;
          served_past = λ k h low. room_past (served_at l r) l.days k low h;
          day_most = λ k h. omega (arith, room_day (served_at l r) l.days k (few k h) h, served_day l r k);
          month_most = served_month l r;
        }
      where
        few : (k : ℕ) → k < l.days → k < 31
        few k h = omega (arith, (bounds l t).few_days)

    pub scored_as : (m : Month) → score_of l r ≡ scored m → Scoring l r m
    scored_as m e = go (tested (is_lease l)) (tested (eqb r.stopped_by 0))
      where
        clash : (n : ℕ) → score_of l r ≡ refused n → ⊥
        clash n f =
            let other : refused n ≡ scored m = sym f ∙ e in let z : ◌≡◌ {A = ℕ} 0 1 = cc in omega arith

        go : Tested (is_lease l) → Tested (eqb r.stopped_by 0) → Scoring l r m
        go (fails t) u = absurd (clash 21 (line_first t r))
        go (holds t) (fails u) = absurd (clash r.stopped_by (then_log t (eqb-false r.stopped_by 0 u)))
        go (holds t) (holds u) =
            let running : r.stopped_by ≡ 0 = eqb-true r.stopped_by 0 u in
            let same : scored (month_of l r) ≡ scored m = sym (then_month t running) ∙ e in
            let is : month_of l r ≡ m = cc in
            subst (Scoring l r) is (scoring t running)

  -- "then 18 or 19 from the log": a log that is refused gives its number, and any other is scored
  module _ (edition : ℕ) (e : is_lease l ≡ true) (bytes : List ℕ) where
    pub log_refused : (n : ℕ) → (replay_of (new_replay edition) bytes).refusal ≡ first n → score_of_log edition l bytes ≡ refused n
    log_refused n f =
        let by : (replay_of (new_replay edition) bytes).replay.stopped_by ≡ n = (stopping (new_replay edition) bytes).by_number n f in
        then_log (replay_of (new_replay edition) bytes).replay e (λ z. (stopping (new_replay edition) bytes).not_none n f (sym by ∙ z)) ∙ ap refused by

    pub log_scored :
        (replay_of (new_replay edition) bytes).refusal ≡ nothing → score_of_log edition l bytes ≡ scored (month_of l (replay_of (new_replay edition) bytes).replay)
    log_scored f = then_month (replay_of (new_replay edition) bytes).replay e ((stopping (new_replay edition) bytes).goes_on f)

  -- a log in pieces, cut anywhere
  pub in_pieces : (edition : ℕ) (ps : List (List ℕ)) → score_of l (replay_pieces (new_replay edition) ps).replay ≡ score_of_log edition l (uncut ps)
  in_pieces edition ps = ap (λ (f : piece.Fed). score_of l f.replay) (cut_anywhere (new_replay edition) ps)
