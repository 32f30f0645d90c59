-- A station's month: its silent days, its bounds, and a lease line with a number wider than 32 bits. Assumes nothing.
use mathlib.Core.Path.{◌≡◌, refl, sym, ap, ap₂, ◌∙◌}
use mathlib.Core.Bool.{Bool, true, false}
use mathlib.Core.List.{List}
use Prim.Native.Nat.{ℕ, suc, ◌+◌, ◌<◌, ◌≤◌}
use native.Mathlib.Nat.{le_trans}
use native.Mathlib.Omega.{arith}
use lib.Dec.{eqb, ltb}
use mir.Val.{bool_byte}
use lib.ListN.{length, get_or}
use borrow.Author.Tests.{eqb-false, lt-ltb, le-ltb}
use Rattle.laws.specs.Choice.{◌and◌, pick}
use Rattle.laws.specs.Below.{sum, count}
use Rattle.laws.specs.Masks.{digit}
use Rattle.laws.proofs.Below.{sum_last, count_none, count_bounded}
use Rattle.laws.proofs.Choice.{Tested, holds, fails, tested, pick_yes, pick_no, and_yes, and_no_left}
use Rattle.replay.specs.State.{Replay}
use Rattle.score.specs.Lease.{Lease, is_lease}
use Rattle.score.specs.Score.{Score, scored, refused, served_at, score_of, month_of, score_of_log}
use Rattle.score.specs.Score.{Month as Month'}
use Rattle.score.specs.Answers.{Left, answer_of, served_after}
use Rattle.score.specs.declared.month.Totals.{Totals}
use Rattle.std.specs.Prelude.{Result, Ok, Err}
use Rattle.score.proofs.Lines.{bounds}
use Rattle.score.proofs.Scores.{owed_small}
use Rattle.score.proofs.Promises.{line_first, scored_as}
use Rattle.score.proofs.Rooms.{room_length}
use Rattle.score.proofs.Verdicts.{served_month}
use Rattle.fleet.specs.Fleet.{silent_in, refusal_in, is_refused, served_in, owed_in, silent_days, most_month}
use Rattle.fleet.specs.Answers.{month_from}
use Rattle.fleet.specs.declared.station.Month.{Month}

-- a test as the number that the code adds for it
pub as_digit : (t : Bool) → bool_byte t ≡ digit t
unfolding digit
as_digit true = refl
as_digit false = refl

pub digit_most : (t : Bool) → bool_byte t ≤ 1
digit_most true = omega arith
digit_most false = omega arith

-- silent days, counted one after the other
module _ (owed : ℕ) (served : List ℕ) where
  pub none_owed : (days : ℕ) → owed ≡ 0 → 0 ≡ silent_in days owed served
  unfolding silent_in
  none_owed days e = sym (count_none days _ (λ k h. and_no_left _ (le-ltb 0 owed (omega arith))))

  one_more : (k : ℕ) (t : Bool) → (ltb 0 owed and eqb (get_or served k 0) 0) ≡ t → silent_in (suc k) owed served ≡ silent_in k owed served + digit t
  unfolding silent_in count
  one_more k t e = sum_last k _ ∙ ap (λ (d : Bool). sum k (λ j. digit (ltb 0 owed and eqb (get_or served j 0) 0)) + digit d) e

  -- a day more, by the digit that the code adds for it
  pub silent_next : (k n d : ℕ) → (owed ≡ 0 → ⊥) → d ≡ digit (eqb (get_or served k 0) 0) → n ≡ silent_in k owed served →
      n + d ≡ silent_in (suc k) owed served
  silent_next k n d pos e h =
      ap₂ ◌+◌ h e ∙ sym (one_more k (eqb (get_or served k 0) 0) (and_yes _ (lt-ltb 0 owed (omega arith))))

  pub silent_most : (k : ℕ) → silent_in k owed served ≤ k
  unfolding silent_in
  silent_most k = count_bounded k _

-- the silent days of the first `k` days, as the code has counted them
pub record Counting (served : List ℕ) (days owed silent k : ℕ) : Type 0 where
  pub room_whole : length served ≡ 31
  pub few : days ≤ 31
  pub some : owed ≡ 0 → ⊥
  pub so_far : silent ≡ silent_in k owed served
  pub within : k ≤ days

pub counting_begins : {served : List ℕ} {days owed : ℕ} → (length served ≡ 31) × (days ≤ 31) → (owed ≡ 0 → ⊥) → Counting served days owed 0 0
unfolding silent_in count sum
counting_begins h some = record { room_whole = h.0; few = h.1; some = some; so_far = refl; within = omega arith }

pub counting_goes : {served : List ℕ} {days owed silent k d : ℕ} → Counting served days owed silent k → k < days →
    d ≡ digit (eqb (get_or served k 0) 0) → Counting served days owed (silent + d) (k + 1)
counting_goes {served} {days} {owed} {silent} {k} {d} c h e =
    record {
      room_whole = c.room_whole;
      few = c.few;
      some = c.some;
      so_far = silent_next owed served k silent d c.some e c.so_far ∙ ap (λ (m : ℕ). silent_in m owed served) one_on;
      within = omega arith;
    }
  where
    one_on : suc k ≡ k + 1
    one_on = omega arith

pub counting_most : {served : List ℕ} {days owed silent k : ℕ} → Counting served days owed silent k → silent ≤ 31
counting_most {served} {days} {owed} {silent} {k} c = omega (arith, c.so_far, silent_most owed served k, c.within, c.few)

pub counting_ends : {served : List ℕ} {days owed silent k : ℕ} → Counting served days owed silent k → days ≤ k →
    silent ≡ silent_in days owed served
counting_ends {served} {days} {owed} {silent} {k} c h =
    let same : k ≡ days = omega (arith, c.within) in c.so_far ∙ ap (λ (m : ℕ). silent_in m owed served) same

-- no month owes more than 31 days of 100,000,000 elements, nor is served more than it owes, nor has more silent days
pub record Monthly (l : Lease) (s : Score) : Type 0 where
  pub served_owed : served_in s ≤ owed_in s
  pub served_most : served_in s ≤ most_month
  pub owed_most : owed_in s ≤ most_month
  pub silent_most : silent_days l s ≤ 31

refused_monthly : (l : Lease) (n : ℕ) → Monthly l (refused n)
unfolding served_in owed_in silent_days
refused_monthly l n =
    record { served_owed = omega arith; served_most = omega arith; owed_most = omega arith; silent_most = omega arith }

pub monthly : (l : Lease) (r : Replay) → Monthly l (score_of l r)
unfolding score_of
monthly l r = go (tested (is_lease l)) (tested (eqb r.stopped_by 0))
  where
    month_bounded : is_lease l ≡ true → Monthly l (scored (month_of l r))
    month_bounded e =
        let b = bounds l e in
        let most = owed_small l.days l.owed b.few_days b.few_owed in
        unfold served_in owed_in silent_days in
        record {
          served_owed = served_month l r;
          served_most = le_trans (served_month l r) most;
          owed_most = most;
          silent_most = le_trans (silent_most l.owed (month_of l r).served l.days) b.few_days;
        }

    go : Tested (is_lease l) → Tested (eqb r.stopped_by 0) →
        Monthly l (pick (is_lease l) (pick (eqb r.stopped_by 0) (scored (month_of l r)) (refused r.stopped_by)) (refused 21))
    go (holds e) (holds k) = rw (e, k) (unfold pick in month_bounded e)
    go (holds e) (fails k) = rw (e, k) (unfold pick in refused_monthly l r.stopped_by)
    go (fails e) k = rw e (unfold pick in refused_monthly l 21)

-- a lease line with a number wider than 32 bits is out of its bounds
module _ (edition : ℕ) (l : Lease) (bytes : List ℕ) where
  refused_line : is_lease l ≡ false → month_from l (score_of_log edition l bytes) ≡ Err 21
  refused_line e = ap (month_from l) (line_first l e _)

  unbounded : (is_lease l ≡ true → ⊥) → is_lease l ≡ false
  unbounded denied = go (tested (is_lease l))
    where
      go : Tested (is_lease l) → is_lease l ≡ false
      go (holds e) = absurd (denied e)
      go (fails e) = e

  pub wide_day : {m : Result Month ℕ} → 4294967296 ≤ l.first_day → m ≡ Err 21 → m ≡ month_from l (score_of_log edition l bytes)
  wide_day h k = k ∙ sym (refused_line (unbounded (λ e. no (bounds l e).some_days (bounds l e).no_wrap)))
    where
      no : 1 ≤ l.days → l.first_day + l.days ≤ 4294967296 → ⊥
      no a b = omega arith

  pub wide_days : {m : Result Month ℕ} → 4294967296 ≤ l.days → m ≡ Err 21 → m ≡ month_from l (score_of_log edition l bytes)
  wide_days h k = k ∙ sym (refused_line (unbounded (λ e. no (bounds l e).few_days)))
    where
      no : l.days ≤ 31 → ⊥
      no a = omega arith

  pub wide_owed : {m : Result Month ℕ} → 4294967296 ≤ l.owed → m ≡ Err 21 → m ≡ month_from l (score_of_log edition l bytes)
  wide_owed h k = k ∙ sym (refused_line (unbounded (λ e. no (bounds l e).few_owed)))
    where
      no : l.owed ≤ 100000000 → ⊥
      no a = omega arith

-- a month without a refusal's number is a scored one
pub zero_fine : (l : Lease) (r : Replay) → refusal_in (score_of l r) ≡ 0 → is_refused (score_of l r) ≡ false
unfolding score_of
zero_fine l r = go (tested (is_lease l)) (tested (eqb r.stopped_by 0))
  where
    other : (n : ℕ) → (n ≡ 0 → ⊥) → refusal_in (refused n) ≡ 0 → is_refused (refused n) ≡ false
    other n z e = absurd (z (unfold refusal_in in e))

    go : Tested (is_lease l) → Tested (eqb r.stopped_by 0) →
        refusal_in (pick (is_lease l) (pick (eqb r.stopped_by 0) (scored (month_of l r)) (refused r.stopped_by)) (refused 21)) ≡ 0 →
        is_refused (pick (is_lease l) (pick (eqb r.stopped_by 0) (scored (month_of l r)) (refused r.stopped_by)) (refused 21)) ≡ false
    go (holds e) (holds k) = rw (e, k) (λ z. unfold pick is_refused in refl)
    go (holds e) (fails k) = rw (e, k) (unfold pick in other r.stopped_by (eqb-false r.stopped_by 0 k))
    go (fails e) k = rw e (unfold pick in other 21 (λ z. omega arith))

-- and one with a number is refused
pub refused_is : (s : Score) → (refusal_in s ≡ 0 → ⊥) → is_refused s ≡ true
unfolding refusal_in is_refused
refused_is (scored m) z = absurd (z refl)
refused_is (refused n) z = refl

-- a month and a refusal are apart
answers_apart : {A T : Type 0} {t : T} {n : ℕ} → ◌≡◌ {A = Result T ℕ} (Ok t) (Err n) → A
answers_apart e = absurd (let z : ◌≡◌ {A = ℕ} 0 1 = cc in omega arith)

same_number : {T : Type 0} {m n : ℕ} → ◌≡◌ {A = Result T ℕ} (Err m) (Err n) → m ≡ n
same_number e = cc

same_value : {T : Type 0} {t u : T} → ◌≡◌ {A = Result T ℕ} (Ok t) (Ok u) → t ≡ u
same_value e = cc

-- the numbers of a score that is a month
abbrev pub month_numbers : Lease → Score → Month
month_numbers l s = record { served = served_in s; owed = owed_in s; silent = silent_days l s }

-- what a month's answer says of its score
pub was_month : (l : Lease) (s : Score) {m : Month} → Ok m ≡ month_from l s → (m ≡ month_numbers l s) × (is_refused s ≡ false)
unfolding is_refused served_in owed_in
was_month l (scored k) e = (same_value e, refl)
was_month l (refused n) e = answers_apart e

pub was_number : (l : Lease) (s : Score) {n : ℕ} → Err n ≡ month_from l s → (n ≡ refusal_in s) × (is_refused s ≡ true)
unfolding is_refused refusal_in
was_number l (scored k) e = answers_apart (sym e)
was_number l (refused n) e = (same_number e, refl)

-- what a score's answer says of the month
pub told_refused : (l : Lease) (s : Score) (n : ℕ) → Err n ≡ answer_of s → Err n ≡ month_from l s
told_refused l (scored m) n e = answers_apart (sym e)
told_refused l (refused k) n e = ap Err (same_number e)

pub told_month : (l : Lease) (s : Score) (t : Totals) (room room1 : List ℕ) (silent : ℕ) → Ok t ≡ answer_of s →
    room1 ≡ served_after s room → silent ≡ silent_in l.days l.owed room1 →
    Ok (record { served = t.served; owed = t.owed; silent = silent }) ≡ month_from l s
unfolding silent_days
told_month l (scored m) t room room1 silent e f k =
    λ i.
    Ok
    (record {
      served = (same_value e i).served;
      owed = (same_value e i).owed;
      silent = (k ∙ ap (silent_in l.days l.owed) f) i;
    })
told_month l (refused n) t room room1 silent e f k = answers_apart e

pub told_days : (l : Lease) (r : Replay) (t : Totals) → Ok t ≡ answer_of (score_of l r) → l.days ≤ 31
told_days l r t e = go (tested (is_lease l))
  where
    go : Tested (is_lease l) → l.days ≤ 31
    go (holds k) = (bounds l k).few_days
    go (fails k) = answers_apart (e ∙ ap answer_of (line_first l k r))

-- a month's room has a number for each of 31 days
pub served_length : (l : Lease) (r : Replay) {a : Result Totals ℕ} {t : Totals} {claimed served claimed1 served1 : List ℕ} →
    Left (score_of l r) a claimed served claimed1 served1 → a ≡ Ok t → length served1 ≡ 31
served_length l r {a} {t} {claimed} {served} {claimed1} {served1} left e =
    go (score_of l r) refl (sym e ∙ left.answer) left.served_room
  where
    go : (s : Score) → score_of l r ≡ s → Ok t ≡ answer_of s → served1 ≡ served_after s served → length served1 ≡ 31
    go (scored m) is a room =
        ap length room ∙ ap (λ (x : Month'). length x.served) (scored_as l r m is).month ∙ room_length (served_at l r) l.days
    go (refused n) is a room = answers_apart a
