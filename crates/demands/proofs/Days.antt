-- The days of a log: a part is what the words between its two midnights added, and a part that has ended never changes.
-- Assumes nothing.
use mathlib.Core.Path.{◌≡◌, refl, sym, ap, ap₂, ◌∙◌, subst}
use mathlib.Core.Bool.{true}
use mathlib.Core.List.{List, [], ◌∷◌, ◌++◌, append-nil}
use Prim.Native.Nat.{ℕ, zero, suc, ◌+◌, ◌-◌, ◌<◌, ◌≤◌, suc-le-suc}
use native.Mathlib.Nat.{zero-add}
use native.Mathlib.Numerals.{add-one}
use native.Mathlib.Omega.{arith}
use lib.Dec.{eqb, ltb}
use lib.ListN.{get_or}
use borrow.Author.Tests.{le-leb, ltb-true, ltb-false, eqb-true, eqb-false}
use Rattle.laws.specs.Choice.{◌and◌, pick}
use Rattle.laws.specs.Masks.{◌or◌}
use Rattle.laws.proofs.Choice.{Tested, tested, holds, fails, pick_yes, pick_no, by_pick, and_left}
use Rattle.laws.proofs.Table.{each, ◌&◌}
use Rattle.state.specs.State.{Tally}
use Rattle.state.specs.Start.{is_edition}
use Rattle.session.specs.Feed.{feed_of}
use Rattle.session.proofs.Tallies.{tallied}
use Rattle.replay.specs.State.{Replay, new_replay}
use Rattle.replay.specs.Step.{Reply, taken, refused, Stepped, taking, kind_step, after_word, may_begin, after_midnight, midnight_step}
use Rattle.replay.specs.Report.{no_tally, mark_at, began_with, ended_with, less, part_of, part_at}
use Rattle.replay.specs.Cells.{ReplayValid}
use Rattle.replay.proofs.Marks.{mark_new, mark_old, ended_past, ended_now}
use Rattle.station_log.specs.Bytes.{record_step, open_step, byte_step}
use Rattle.station_log.specs.Feed.{Fed, proceed, replay_of, joined, record_bytes}
use Rattle.station_log.specs.Words.{words_in}
use Rattle.station_log.specs.Asked.{Bytes8}
use Rattle.station_log.proofs.Cut.{cut}
use Rattle.station_log.proofs.Words.{one_session}
use Rattle.station_log.proofs.Records.{Ready, record_read}
use Rattle.station_log.proofs.Kept.{new_replay_valid, byte_valid, piece_valid}
use Rattle.demands.specs.Days.{added, replayed, gone_on, AtMidnight, with_day, begun, bytes_before}

-- a later replay: the midnights only grow, and the marks of those that came stand
record Follows (r u : Replay) : Type 0 where
  fewer : r.midnights ≤ u.midnights
  marks_stand : (k : ℕ) → k < r.midnights → mark_at u.marks k ≡ mark_at r.marks k
  same_marks : u.midnights ≡ r.midnights → u.marks ≡ r.marks

same_follows : (r u : Replay) → u.midnights ≡ r.midnights → u.marks ≡ r.marks → Follows r u
same_follows r u e f =
    record { fewer = omega arith; marks_stand = λ k h. ap (λ (l : List ℕ). mark_at l k) f; same_marks = λ z. f }

follows_on : (r u v : Replay) → Follows r u → Follows u v → Follows r v
follows_on r u v f g =
    record {
      fewer = omega (arith, f.fewer, g.fewer);
      marks_stand = λ k h. g.marks_stand k (omega (arith, f.fewer)) ∙ f.marks_stand k h;
      same_marks = λ e. g.same_marks (omega (arith, f.fewer, g.fewer)) ∙ f.same_marks (omega (arith, f.fewer, g.fewer));
    }

midnight_follows : (r : Replay) (day : ℕ) → Follows r (after_midnight r day)
unfolding after_midnight
midnight_follows r day =
    record {
      fewer = omega arith;
      marks_stand = λ k h. mark_old r.marks r.midnights r.session.party.tally k (λ e. omega arith);
      same_marks = λ e. absurd (omega arith);
    }

abbrev After : Replay → Stepped → Type 0
After r t = Follows r t.replay

byte_follows : (r : Replay) (b : ℕ) → After r (byte_step r b)
unfolding byte_step kind_step open_step record_step after_word midnight_step
byte_follows r b =
    by_pick (After r) _ _ _
    (λ e.
    by_pick (After r) _ _ _
    (λ f. by_pick (After r) _ _ _ (λ g. same_follows r _ refl refl) (λ g. same_follows r _ refl refl))
    (λ f.
    by_pick (After r) _ _ _ (λ g. same_follows r _ refl refl)
    (λ g.
    by_pick (After r) _ _ _ (λ h. same_follows r _ refl refl)
    (λ h. by_pick (After r) _ _ _ (λ i. midnight_follows r _) (λ i. same_follows r _ refl refl)))))
    (λ e. same_follows r r refl refl)

bytes_follow : (r : Replay) (bs : List ℕ) → Follows r (gone_on r bs)
unfolding replay_of proceed
bytes_follow r [] = same_follows r r refl refl
bytes_follow r (b ∷ bs) = go (byte_step r b).reply (bytes_follow (byte_step r b).replay bs)
  where
    go : (y : Reply) → Follows (byte_step r b).replay (gone_on (byte_step r b).replay bs) →
        Follows r (proceed y (byte_step r b).replay (replay_of (byte_step r b).replay bs)).replay
    go taken rest = follows_on r (byte_step r b).replay (gone_on (byte_step r b).replay bs) (byte_follows r b) rest
    go (refused n) rest = byte_follows r b

-- a part by its two ends
part_is : (marks : List ℕ) (m : ℕ) (now : Tally) (k : ℕ) → k ≤ m → part_of marks m now k ≡ less (ended_with marks m now k) (began_with marks k)
unfolding part_of
part_is marks m now k h = pick_yes _ _ (le-leb k m h)

-- a part that has ended: its two marks stand
began_stood : (r u : Replay) (f : Follows r u) (j : ℕ) → j ≤ r.midnights → began_with u.marks j ≡ began_with r.marks j
unfolding began_with
began_stood r u f zero l = refl
began_stood r u f (suc j) l = f.marks_stand j l

module _ (r u : Replay) (f : Follows r u) (k : ℕ) (h : k < r.midnights) where
  stands : part_at u k ≡ part_at r k
  stands =
      part_is u.marks u.midnights _ k (omega (arith, f.fewer)) ∙
      ap₂ less
      (ended_past u.marks u.midnights _ k (omega (arith, f.fewer)) ∙ f.marks_stand k h ∙ sym (ended_past r.marks r.midnights _ k h))
      (began_stood r u f k (omega arith)) ∙
      sym (part_is r.marks r.midnights _ k (omega arith))

-- two pieces
pub gone_on_lem : (edition : ℕ) (a b : List ℕ) → replayed edition (a ++ b) ≡ gone_on (replayed edition a) b
unfolding joined
gone_on_lem edition a b = ap (λ (f : Fed). f.replay) (cut (new_replay edition) a b)

-- "What came before stands": the days that have ended never change, whatever bytes come
pub days_stand : (edition : ℕ) (before later : List ℕ) (k : ℕ) → k < (replayed edition before).midnights → part_at (replayed edition (before ++ later)) k ≡ part_at (replayed edition before) k
days_stand edition before later k h =
    ap (λ (r : Replay). part_at r k) (gone_on_lem edition before later) ∙
    stands (replayed edition before) (gone_on (replayed edition before) later) (bytes_follow (replayed edition before) later) k h

-- the last part grows by what the words add, where no midnight comes
module _ (r : Replay) (v : ReplayValid r) (bs : List ℕ) (same : (gone_on r bs).midnights ≡ r.midnights) where
  abbrev m : ℕ
  m = r.midnights

  abbrev began : Tally
  began = began_with r.marks m

  abbrev then : Tally
  then = r.session.party.tally

  abbrev later : Tally
  later = (feed_of r.session (words_in r bs)).session.party.tally

  last_is : (now : Tally) → part_of r.marks m now m ≡ less now began
  last_is now = part_is r.marks m now m (omega arith) ∙ ap (λ (t : Tally). less t began) (ended_now r.marks m now m (omega arith))

  last_grows : (began.runs ≤ then.runs) × (began.claims ≤ then.claims)
  last_grows =
      let g = v.growing m (omega arith) in
      let e = ended_now r.marks m then m (omega arith) in
      (omega (arith, g.runs_grow, ap (λ (t : Tally). t.runs) e), omega (arith, g.claims_grow, ap (λ (t : Tally). t.claims) e))

  shown : part_at (gone_on r bs) m ≡ less later began
  shown =
      (λ i. part_of ((bytes_follow r bs).same_marks same i) (same i) (one_session r bs i).party.tally m) ∙ last_is later

  pub grows_by : part_at (gone_on r bs) m ≡
      record { runs = (part_at r m).runs + (added r.session (words_in r bs)).runs; claims = (part_at r m).claims + (added r.session (words_in r bs)).claims }
  unfolding added
  grows_by =
      shown ∙
      ap₂ (λ (a b : ℕ). record { runs = a; claims = b })
      (omega (arith, (tallied r.session (words_in r bs)).runs, last_grows.0, ap (λ (t : Tally). t.runs) (last_is then)))
      (omega (arith, (tallied r.session (words_in r bs)).claims, last_grows.1, ap (λ (t : Tally). t.claims) (last_is then)))

-- a midnight: the part that it begins has nothing yet, and no part before changes
module _ (r : Replay) (v : ReplayValid r) (day : ℕ) (e : may_begin r.midnights r.last_day day ≡ true) where
  few : r.midnights < 400
  unfolding may_begin
  few = ltb-true r.midnights 400 (and_left _ _ e)

  new_mark : mark_at (after_midnight r day).marks r.midnights ≡ r.session.party.tally
  unfolding after_midnight
  new_mark = mark_new r.marks r.midnights r.session.party.tally (omega (arith, v.marks_length_lem, few))

  began_new : began_with (after_midnight r day).marks (suc r.midnights) ≡ r.session.party.tally
  unfolding began_with
  began_new = new_mark

  pub begins_empty : part_at (after_midnight r day) (r.midnights + 1) ≡ no_tally
  unfolding after_midnight
  begins_empty =
      part_is (after_midnight r day).marks (r.midnights + 1) r.session.party.tally (r.midnights + 1) (omega arith) ∙
      ap₂ less (ended_now (after_midnight r day).marks (r.midnights + 1) r.session.party.tally (r.midnights + 1) (omega arith))
      (ap (began_with (after_midnight r day).marks) (add-one r.midnights) ∙ began_new) ∙
      ap₂ {C = Tally} (λ (a b : ℕ). record { runs = a; claims = b }) (omega arith) (omega arith)

  pub closes : (k : ℕ) → k ≤ r.midnights → part_at (after_midnight r day) k ≡ part_at r k
  closes k h = go (tested (ltb k r.midnights))
    where
      last : k ≡ r.midnights → part_at (after_midnight r day) k ≡ part_at r k
      last z =
          part_is (after_midnight r day).marks (after_midnight r day).midnights _ k (omega (arith, (midnight_follows r day).fewer)) ∙
          ap₂ less
          (ended_past (after_midnight r day).marks (after_midnight r day).midnights _ k (one_more z) ∙
          ap (mark_at (after_midnight r day).marks) z ∙ new_mark ∙
          sym (ended_now r.marks r.midnights r.session.party.tally k (omega arith)))
          (began_stood r (after_midnight r day) (midnight_follows r day) k h) ∙
          sym (part_is r.marks r.midnights _ k h)
        where
          one_more : k ≡ r.midnights → k < (after_midnight r day).midnights
          one_more z = unfold after_midnight in (omega arith)

      go : Tested (ltb k r.midnights) → part_at (after_midnight r day) k ≡ part_at r k
      go (holds t) = stands r (after_midnight r day) (midnight_follows r day) k (ltb-true k r.midnights t)
      go (fails t) = last (omega (arith, ltb-false k r.midnights t))

-- a midnight's record, read between two records
ready : (r : Replay) (day : ℕ) → AtMidnight r day → Ready r
ready r day a = record { going = a.going; unopened = a.unopened }

midnight_read : (r : Replay) (day : ℕ) (rest : List ℕ) → AtMidnight r day → gone_on r (record_bytes 2 day ++ rest) ≡ gone_on (after_midnight r day) rest
unfolding record_step midnight_step proceed
midnight_read r day rest a =
    ap (λ (f : Fed). f.replay) (record_read r (ready r day a) 2 day rest (unfold ◌or◌ in refl) a.number) ∙
    ap (λ (t : Stepped). (proceed t.reply t.replay (replay_of t.replay rest)).replay)
    (pick_no (taking (after_word r day)) (midnight_step r day) refl ∙ pick_yes _ _ a.may_begin_lem)

record_bytes_lem : (day : ℕ) → Bytes8 (record_bytes 2 day)
record_bytes_lem day k h =
    each (λ k. get_or (record_bytes 2 day) k 0 < 256) 5 (tt & omega arith & omega arith & omega arith & omega arith & omega arith) k h

midnight_valid : (r : Replay) (day : ℕ) → ReplayValid r → AtMidnight r day → ReplayValid (after_midnight r day)
unfolding replay_of
midnight_valid r day v a =
    subst ReplayValid (ap (gone_on r) (sym (append-nil (record_bytes 2 day))) ∙ midnight_read r day [] a) (piece_valid r v (record_bytes 2 day) (record_bytes_lem day))

module _ (edition : ℕ) (known : is_edition edition ≡ true) (before : List ℕ) (day : ℕ) (during : List ℕ) (b : Bytes8 before)
    (a : AtMidnight (replayed edition before) day) where
  abbrev r₀ : Replay
  r₀ = replayed edition before

  v₀ : ReplayValid r₀
  v₀ = piece_valid (new_replay edition) (new_replay_valid edition known) before b

  v₁ : ReplayValid (begun edition before day)
  v₁ = midnight_valid r₀ day v₀ a

  to_day : replayed edition (with_day before day during) ≡ gone_on (begun edition before day) during
  to_day = gone_on_lem edition before (record_bytes 2 day ++ during) ∙ midnight_read r₀ day during a

  -- a part is what the words since its midnight added, while its day goes on
  module _ (same : (gone_on (begun edition before day) during).midnights ≡ (begun edition before day).midnights) where
    during_part : part_at (gone_on (begun edition before day) during) (r₀.midnights + 1) ≡ added r₀.session (words_in (begun edition before day) during)
    unfolding after_midnight
    during_part =
        grows_by (begun edition before day) v₁ during same ∙
        ap (λ (t : Tally).
        record {
          runs = t.runs + (added r₀.session (words_in (begun edition before day) during)).runs;
          claims = t.claims + (added r₀.session (words_in (begun edition before day) during)).claims;
        })
        (begins_empty r₀ v₀ day a.may_begin_lem) ∙
        ap₂ {C = Tally} (λ (i j : ℕ). record { runs = i; claims = j }) (zero-add _) (zero-add _)

-- what ends before the first midnight: the words before it
none_yet : (edition : ℕ) → part_at (new_replay edition) 0 ≡ no_tally
none_yet edition = part_is (new_replay edition).marks 0 (new_replay edition).session.party.tally 0 (omega arith) ∙ unfold ended_with began_with pick in refl

before_first : (edition : ℕ) → is_edition edition ≡ true → (bytes : List ℕ) → (replayed edition bytes).midnights ≡ 0 → part_at (replayed edition bytes) 0 ≡ added (new_replay edition).session (words_in (new_replay edition) bytes)
before_first edition known bytes e =
    grows_by (new_replay edition) (new_replay_valid edition known) bytes e ∙
    ap (λ (t : Tally).
    record {
      runs = t.runs + (added (new_replay edition).session (words_in (new_replay edition) bytes)).runs;
      claims = t.claims + (added (new_replay edition).session (words_in (new_replay edition) bytes)).claims;
    })
    (none_yet edition) ∙
    ap₂ {C = Tally} (λ (i j : ℕ). record { runs = i; claims = j }) (zero-add _) (zero-add _)

-- and it stands once the first midnight has come, whatever bytes come later
module _ (edition : ℕ) (known : is_edition edition ≡ true) (before : List ℕ) (b : Bytes8 before) (none : (replayed edition before).midnights ≡ 0)
    (day : ℕ) (a : AtMidnight (replayed edition before) day) (later : List ℕ) where
  one_began : 0 < (begun edition before day).midnights
  unfolding after_midnight
  one_began = omega arith

  pub before_midnight :
      part_at (replayed edition (with_day before day later)) 0 ≡ added (new_replay edition).session (words_in (new_replay edition) before)
  before_midnight =
      ap (λ (r : Replay). part_at r 0) (to_day edition known before day later b a) ∙
      stands (begun edition before day) (gone_on (begun edition before day) later) (bytes_follow (begun edition before day) later) 0 one_began ∙
      closes (replayed edition before) (piece_valid (new_replay edition) (new_replay_valid edition known) before b) day a.may_begin_lem 0
      (omega arith) ∙
      before_first edition known before none

-- the same of every log: a byte completes a midnight, or leaves their number
data Byte (r : Replay) : Stepped → Type 0 where
  keeps : {t : Stepped} → t.replay.midnights ≡ r.midnights → Byte r t
  midnight : (day : ℕ) → may_begin r.midnights r.last_day day ≡ true → Byte r (taking (after_midnight r day))

byte_kind : (r : Replay) (b : ℕ) → Byte r (byte_step r b)
unfolding byte_step kind_step open_step record_step after_word midnight_step
byte_kind r b =
    by_pick (Byte r) _ _ _
    (λ e.
    by_pick (Byte r) _ _ _
    (λ f. by_pick (Byte r) _ _ _ (λ g. keeps refl) (λ g. keeps refl))
    (λ f.
    by_pick (Byte r) _ _ _ (λ g. keeps refl)
    (λ g. by_pick (Byte r) _ _ _ (λ h. keeps refl) (λ h. by_pick (Byte r) _ _ _ (λ i. midnight _ i) (λ i. keeps refl)))))
    (λ e. keeps refl)

-- the bytes up to the one that completes the next midnight: no midnight is among them, and they make the part that goes on
record FirstPart (r : Replay) (bs pre : List ℕ) : Type 0 where
  same_number : (gone_on r pre).midnights ≡ r.midnights
  same_part : part_at (gone_on r bs) r.midnights ≡ part_at (gone_on r pre) r.midnights

gone_byte : (r : Replay) (b : ℕ) (bs : List ℕ) (t : Stepped) → byte_step r b ≡ t →
    gone_on r (b ∷ bs) ≡ (proceed t.reply t.replay (replay_of t.replay bs)).replay
unfolding replay_of
gone_byte r b bs t e = ap (λ (u : Stepped). (proceed u.reply u.replay (replay_of u.replay bs)).replay) e

gone_none : (r : Replay) → gone_on r [] ≡ r
unfolding replay_of
gone_none r = refl

module _ (r : Replay) (v : ReplayValid r) (b : ℕ) (bs : List ℕ) where
  -- a byte that leaves the number of midnights, taken or refused
  byte_more :
      (y : Reply) (u : Replay) (pre : List ℕ) → u.midnights ≡ r.midnights → FirstPart u bs pre →
      FirstPart u bs pre × (part_at (proceed y u (replay_of u bs)).replay r.midnights ≡ part_at (proceed y u (replay_of u pre)).replay r.midnights) ×
      ((proceed y u (replay_of u pre)).replay.midnights ≡ r.midnights)
  unfolding proceed
  byte_more taken u pre e f = (
    f,
    subst (λ (m : ℕ). part_at (gone_on u bs) m ≡ part_at (gone_on u pre) m) e f.same_part,
    f.same_number ∙ e,
  )
  byte_more (refused n) u pre e f = (f, refl, e)

  byte_first :
      (t : Stepped) → byte_step r b ≡ t → Byte r t → Tested (eqb t.replay.midnights r.midnights) →
      FirstPart t.replay bs (bytes_before t.replay bs) →
      FirstPart r (b ∷ bs) (pick (eqb t.replay.midnights r.midnights) (b ∷ bytes_before t.replay bs) [])
  byte_first t e k (holds q) f =
      let pre = bytes_before t.replay bs in
      let both = byte_more t.reply t.replay pre (eqb-true t.replay.midnights r.midnights q) f in
      subst (FirstPart r (b ∷ bs)) (sym (pick_yes (b ∷ pre) [] q))
      (record {
        same_number = ap (λ (u : Replay). u.midnights) (gone_byte r b pre t e) ∙ both.2;
        same_part =
            ap (λ (u : Replay). part_at u r.midnights) (gone_byte r b bs t e) ∙ both.1 ∙
            sym (ap (λ (u : Replay). part_at u r.midnights) (gone_byte r b pre t e));
      })
  byte_first t e (keeps same) (fails q) f = absurd (eqb-false t.replay.midnights r.midnights q same)
  byte_first _ e (midnight day may) (fails q) f =
      subst (FirstPart r (b ∷ bs)) (sym (pick_no (b ∷ bytes_before (after_midnight r day) bs) [] q))
      (record {
        same_number = ap (λ (u : Replay). u.midnights) (gone_none r);
        same_part =
            ap (λ (u : Replay). part_at u r.midnights) (gone_byte r b bs (taking (after_midnight r day)) e ∙ taken_on) ∙
            stands (after_midnight r day) (gone_on (after_midnight r day) bs) (bytes_follow (after_midnight r day) bs) r.midnights later_one ∙
            closes r v day may r.midnights (omega arith) ∙ sym (ap (λ (u : Replay). part_at u r.midnights) (gone_none r));
      })
    where
      later_one : r.midnights < (after_midnight r day).midnights
      later_one = unfold after_midnight in (omega arith)

      taken_on : (proceed taken (after_midnight r day) (replay_of (after_midnight r day) bs)).replay ≡ gone_on (after_midnight r day) bs
      taken_on = unfold proceed in refl

first_part : (r : Replay) → ReplayValid r → (bs : List ℕ) → Bytes8 bs → FirstPart r bs (bytes_before r bs)
unfolding bytes_before
first_part r v [] h = record { same_number = ap (λ (u : Replay). u.midnights) (gone_none r); same_part = refl }
first_part r v (b ∷ bs) h =
    byte_first r v b bs (byte_step r b) refl (byte_kind r b) (tested (eqb (byte_step r b).replay.midnights r.midnights))
    (first_part (byte_step r b).replay (byte_valid r v b (h zero (omega arith))) bs (λ k le. h (suc k) (suc-le-suc le)))

-- so of every log part 0 is what the words before the first midnight added
pub part_0 :
    (edition : ℕ) → is_edition edition ≡ true → (bytes : List ℕ) → Bytes8 bytes →
    part_at (replayed edition bytes) 0 ≡ added (new_replay edition).session (words_in (new_replay edition) (bytes_before (new_replay edition) bytes))
part_0 edition known bytes h =
    let f : FirstPart (new_replay edition) bytes (bytes_before (new_replay edition) bytes) =
    first_part (new_replay edition) (new_replay_valid edition known) bytes h in
    f.same_part ∙ before_first edition known (bytes_before (new_replay edition) bytes) f.same_number

-- and of every day: its part is what the words from its midnight to the next one added, or to the log's end
module _
    (edition : ℕ)
    (known : is_edition edition ≡ true)
    (before : List ℕ)
    (day : ℕ)
    (b : Bytes8 before)
    (a : AtMidnight (replayed edition before) day)
    (rest : List ℕ)
    (b' : Bytes8 rest)
  where
    valid_day : ReplayValid (begun edition before day)
    valid_day =
        midnight_valid (replayed edition before) day (piece_valid (new_replay edition) (new_replay_valid edition known) before b) a

    up_to_next : FirstPart (begun edition before day) rest (bytes_before (begun edition before day) rest)
    up_to_next = first_part (begun edition before day) valid_day rest b'

    same_day :
        part_at (gone_on (begun edition before day) rest) ((replayed edition before).midnights + 1) ≡
        part_at (gone_on (begun edition before day) (bytes_before (begun edition before day) rest)) ((replayed edition before).midnights + 1)
    unfolding after_midnight
    same_day = up_to_next.same_part

    pub day_words :
        part_at (replayed edition (with_day before day rest)) ((replayed edition before).midnights + 1) ≡
        added (replayed edition before).session (words_in (begun edition before day) (bytes_before (begun edition before day) rest))
    day_words =
        ap (λ (r : Replay). part_at r ((replayed edition before).midnights + 1)) (to_day edition known before day rest b a) ∙ same_day ∙
        during_part edition known before day (bytes_before (begun edition before day) rest) b a up_to_next.same_number
