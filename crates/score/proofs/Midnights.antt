-- The days that have a midnight record, as a score finds them by the last midnight's day and the number of midnights, are those
-- of the log's midnight records. Assumes nothing.
use mathlib.Core.Path.{◌≡◌, refl, sym, ap, ap₂, ◌∙◌, subst}
use mathlib.Core.Bool.{Bool, true, false}
use mathlib.Core.List.{List, [], ◌∷◌, ◌++◌}
use Prim.Native.Nat.{ℕ, ◌+◌, ◌<◌, ◌≤◌}
use native.Mathlib.Omega.{arith}
use lib.Dec.{eqb, ltb}
use borrow.Author.Tests.{ne_eqb, eqb-true, eqb-false, lt-ltb, le-leb}
use Rattle.laws.specs.Choice.{◌and◌, pick}
use Rattle.laws.specs.Masks.{◌or◌}
use Rattle.laws.proofs.Choice.{pick_yes, pick_no, and_right, and_intro, Tested, tested, holds, fails}
use Rattle.replay.specs.State.{Replay, new_replay}
use Rattle.replay.specs.Step.{refused, Stepped, taking, is_kind, kind_step, after_word, may_begin, after_midnight, midnight_step}
use Rattle.station_log.specs.Bytes.{record_step, open_step, byte_step}
use Rattle.station_log.specs.Feed.{proceed, replay_of}
use Rattle.station_log.specs.Words.{on_taken}
use Rattle.score.specs.Score.{has_midnight}
use Rattle.score.specs.Midnights.{among, number_with, day_by, days_in}
use Rattle.score.proofs.Dates.{not_after, not_before}

-- what a byte does to the days: it begins the day of a midnight, or none
data Began (r : Replay) : Stepped → List ℕ → Type 0 where
  plain : (u : Replay) → u.midnights ≡ r.midnights → u.last_day ≡ r.last_day → Began r (taking u) []
  begins : (day : ℕ) → may_begin r.midnights r.last_day day ≡ true → Began r (taking (after_midnight r day)) (day ∷ [])
  off :
      (n : ℕ) (u : Replay) → u.midnights ≡ r.midnights → u.last_day ≡ r.last_day →
      Began r (record { reply = refused n; replay = u }) []

module _ (r : Replay) (b : ℕ) where
  -- two choices by the same test
  both : (t : Bool) (x y : Stepped) (xs ys : List ℕ) → (t ≡ true → Began r x xs) → (t ≡ false → Began r y ys) →
      Began r (pick t x y) (pick t xs ys)
  unfolding pick
  both true x y xs ys p q = p refl
  both false x y xs ys p q = q refl

  either : (t : Bool) (x y : Stepped) (xs : List ℕ) → Began r x xs → Began r y xs → Began r (pick t x y) xs
  unfolding pick
  either true x y xs p q = p
  either false x y xs p q = q

  by_kind_lem : Began r (kind_step r b) []
  unfolding kind_step
  by_kind_lem = either (is_kind b) _ _ [] (plain _ refl refl) (off 18 _ refl refl)

  by_record :
      Began r (record_step r.opened.kind r (number_with r b))
      (pick (eqb r.opened.kind 1) [] (pick (may_begin r.midnights r.last_day (number_with r b)) (number_with r b ∷ []) []))
  unfolding record_step midnight_step after_word
  by_record =
      both (eqb r.opened.kind 1) _ _ _ _ (λ e. plain _ refl refl)
      (λ e.
      both (may_begin r.midnights r.last_day (number_with r b)) _ _ _ _ (λ f. begins (number_with r b) f)
      (λ f. off 19 _ refl refl))

  abbrev by_open_days : List ℕ
  by_open_days =
      pick (ltb r.opened.count 4) []
      (pick (eqb r.opened.kind 1) [] (pick (may_begin r.midnights r.last_day (number_with r b)) (number_with r b ∷ []) []))

  by_open : Began r (open_step r b) by_open_days
  unfolding open_step
  by_open = both (ltb r.opened.count 4) _ _ _ _ (λ e. plain _ refl refl) (λ e. by_record)

  by_running : Began r (pick (eqb r.opened.count 0) (kind_step r b) (open_step r b)) by_open_days
  by_running = go (tested (eqb r.opened.count 0))
    where
      go :
          Tested (eqb r.opened.count 0) →
          Began r (pick (eqb r.opened.count 0) (kind_step r b) (open_step r b)) by_open_days
      go (holds e) =
          subst (λ (t : Stepped). Began r t by_open_days) (sym (pick_yes _ _ e))
          (subst (Began r (kind_step r b))
          (sym (pick_yes _ _ (lt-ltb r.opened.count 4 (omega (arith, eqb-true r.opened.count 0 e))))) by_kind_lem)
      go (fails e) = subst (λ (t : Stepped). Began r t by_open_days) (sym (pick_no _ _ e)) by_open

  began : Began r (byte_step r b) (day_by r b)
  unfolding byte_step day_by
  began = both (eqb r.stopped_by 0) _ _ _ _ (λ e. by_running) (λ e. off r.stopped_by r refl refl)

-- two tests that hold together are the same
same_test : (a b : Bool) → (a ≡ true → b ≡ true) → (b ≡ true → a ≡ true) → a ≡ b
same_test true b p q = sym (p refl)
same_test false true p q = q refl
same_test false false p q = refl

or_first : {a : Bool} (b : Bool) → a ≡ true → (a or b) ≡ true
unfolding ◌or◌
or_first {a} b e = subst (λ (t : Bool). (t or b) ≡ true) (sym e) refl

or_second : {a : Bool} (b : Bool) → a ≡ false → (a or b) ≡ b
unfolding ◌or◌
or_second {a} b e = subst (λ (t : Bool). (t or b) ≡ b) (sym e) refl

-- in another order
or_turned : (a b c : Bool) → (a or (b or c)) ≡ ((b or a) or c)
unfolding ◌or◌
or_turned true true c = refl
or_turned true false c = refl
or_turned false true c = refl
or_turned false false c = refl

or_none : (a : Bool) → (a or false) ≡ a
unfolding ◌or◌
or_none true = refl
or_none false = refl

-- a midnight that is read: its day has a record now, and every other day has one exactly where it had one
module _ (midnights last_day day d : ℕ) where
  has : d ≤ last_day → last_day < d + midnights → has_midnight midnights last_day d ≡ true
  unfolding has_midnight
  has a b = and_intro (le-leb d last_day a) (lt-ltb last_day (d + midnights) b)

  follows : may_begin midnights last_day day ≡ true → (midnights ≡ 0 → ⊥) → day ≡ last_day + 1
  unfolding may_begin
  follows e ne = eqb-true day (last_day + 1) (sym (pick_no _ _ (ne_eqb midnights 0 ne)) ∙ and_right _ _ e)

module _ (midnights last_day day d : ℕ) (e : may_begin midnights last_day day ≡ true) where
  abbrev old : Bool
  old = has_midnight midnights last_day d

  abbrev now : Bool
  now = has_midnight (midnights + 1) day d

  now_old : now ≡ true → (eqb d day or old) ≡ true
  now_old t = go (tested (eqb d day)) (tested (eqb midnights 0))
    where
      low : d ≤ day
      low = not_after (midnights + 1) day d t

      high : day < d + (midnights + 1)
      high = not_before (midnights + 1) day d t

      go : Tested (eqb d day) → Tested (eqb midnights 0) → (eqb d day or old) ≡ true
      go (holds x) y = or_first old x
      go (fails x) (holds y) =
          absurd (eqb-false d day x (omega (arith, low, high, eqb-true midnights 0 y)))
      go (fails x) (fails y) =
          let next : day ≡ last_day + 1 = follows midnights last_day day d e (eqb-false midnights 0 y) in
          let other : d ≡ day → ⊥ = eqb-false d day x in
          or_second old x ∙ has midnights last_day day d (omega (arith, low)) (omega (arith, high))

  old_now : (eqb d day or old) ≡ true → now ≡ true
  old_now t = go (tested (eqb d day)) (tested old)
    where
      go : Tested (eqb d day) → Tested old → now ≡ true
      go (holds x) y =
          let same : d ≡ day = eqb-true d day x in has (midnights + 1) day day d (omega arith) (omega arith)
      go (fails x) (holds y) =
          let low : d ≤ last_day = not_after midnights last_day d y in
          let high : last_day < d + midnights = not_before midnights last_day d y in
          let next : day ≡ last_day + 1 = follows midnights last_day day d e (λ z. omega arith) in
          has (midnights + 1) day day d (omega arith) (omega arith)
      go (fails x) (fails y) =
          let z : true ≡ false = sym t ∙ or_second old x ∙ y in let n : ◌≡◌ {A = ℕ} 0 1 = cc in absurd (omega arith)

  midnight_read : now ≡ (eqb d day or old)
  midnight_read = same_test now (eqb d day or old) now_old old_now

abbrev has_in : Replay → ℕ → Bool
has_in r d = has_midnight r.midnights r.last_day d

day_begun_lem : (r : Replay) (day d : ℕ) → may_begin r.midnights r.last_day day ≡ true →
    has_in (after_midnight r day) d ≡ (eqb d day or has_in r d)
unfolding after_midnight
day_begun_lem r day d e = midnight_read r.midnights r.last_day day d e

byte_days : (r : Replay) (d : ℕ) (bs : List ℕ) (t : Stepped) (days : List ℕ) → Began r t days →
    has_in (replay_of t.replay bs).replay d ≡ (among d (days_in t.replay bs) or has_in t.replay d) →
    has_in (proceed t.reply t.replay (replay_of t.replay bs)).replay d ≡
    (among d (days ++ on_taken t.reply (days_in t.replay bs)) or has_in r d)
unfolding proceed on_taken among
byte_days r d bs t days (plain u m l) ih =
    ih ∙ ap₂ (λ (x y : ℕ). among d (days_in u bs) or has_midnight x y d) m l
byte_days r d bs t days (begins day e) ih =
    ih ∙
    ap (λ (x : Bool). among d (days_in (after_midnight r day) bs) or x) (day_begun_lem r day d e) ∙
    or_turned (among d (days_in (after_midnight r day) bs)) (eqb d day) (has_in r d)
byte_days r d bs t days (off n u m l) ih =
    ap₂ (λ (x y : ℕ). has_midnight x y d) m l ∙ sym (or_second (has_in r d) refl)

days_read : (r : Replay) (bs : List ℕ) (d : ℕ) →
    has_in (replay_of r bs).replay d ≡ (among d (days_in r bs) or has_in r d)
unfolding replay_of days_in among
days_read r [] d = sym (or_second (has_in r d) refl)
days_read r (b ∷ bs) d =
    byte_days r d bs (byte_step r b) (day_by r b) (began r b) (days_read (byte_step r b).replay bs d)

-- so a day has a midnight record in a log exactly where a score finds one
pub midnight_records : (edition : ℕ) (bytes : List ℕ) (d : ℕ) →
    has_midnight (replay_of (new_replay edition) bytes).replay.midnights (replay_of (new_replay edition) bytes).replay.last_day d ≡
    among d (days_in (new_replay edition) bytes)
midnight_records edition bytes d =
    days_read (new_replay edition) bytes d ∙ ap (λ (x : Bool). among d (days_in (new_replay edition) bytes) or x) none ∙
    or_none (among d (days_in (new_replay edition) bytes))
  where
    none : has_midnight 0 0 d ≡ false
    none = go (tested (has_midnight 0 0 d))
      where
        go : Tested (has_midnight 0 0 d) → has_midnight 0 0 d ≡ false
        go (fails t) = t
        go (holds t) = absurd (omega (arith, not_after 0 0 d t, not_before 0 0 d t))
