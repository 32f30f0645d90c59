-- Document 02, request 10: "all answers but claimed totals, and what is reckoned from those, agree", of a replay: replays that differ in
-- nothing but these answer alike, byte by byte, go on to differ in nothing but these, and report the same runs. Assumes nothing.
use mathlib.Core.Path.{◌≡◌, refl, sym, ap, ◌∙◌, subst}
use mathlib.Core.Bool.{Bool, true, false}
use mathlib.Core.List.{List, [], ◌∷◌}
use Prim.Native.Nat.{ℕ, zero, suc, ◌+◌, ◌-◌, ◌*◌}
use native.Mathlib.Omega.{arith}
use lib.Dec.{eqb, leb, ltb}
use lib.ListN.{length, get_or, set, length-set, get_or-eq_default}
use lib.Seq.{get_or-set_same, get_or-set_other}
use borrow.Author.Tests.{eqb-true, eqb-false, ltb-true, ltb-false}
use Rattle.laws.specs.Choice.{pick}
use Rattle.laws.proofs.Choice.{Tested, holds, fails, tested}
use Rattle.state.specs.State.{Session, Tally}
use Rattle.session.proofs.Editions.{editions_alike}
use Rattle.replay.specs.State.{OpenRecord, Replay, new_replay}
use Rattle.replay.specs.Step.{Reply, taken, refused, Stepped, opening, stopping, taking, is_kind, of_kind, kind_step, with_byte, number_from}
use Rattle.replay.specs.Step.{after_word, may_begin, marked, after_midnight, midnight_step}
use Rattle.replay.specs.Report.{no_tally, began_with, ended_with, part_of, part_at}
use Rattle.station_log.specs.Bytes.{record_step, open_step, byte_step}
use Rattle.station_log.specs.Feed.{Fed, noted_first, after_words, proceed, replay_of}
use Rattle.station_log.specs.Editions.{SameReplay, SameButClaims}
use Rattle.station_log.proofs.Steps.{one_word}

-- a step's reply is the same, and the replays after it
record SameStep (t u : Stepped) : Type 0 where
  reply : t.reply ≡ u.reply
  replay : SameReplay t.replay u.replay

either_way : (b c : Bool) → b ≡ c → (t u v w : Stepped) → SameStep t v → SameStep u w → SameStep (pick b t u) (pick c v w)
either_way b c e t u v w x y = subst (λ (d : Bool). SameStep (pick b t u) (pick d v w)) e (go b)
  where
    go : (d : Bool) → SameStep (pick d t u) (pick d v w)
    go true = unfold pick in x
    go false = unfold pick in y

-- places that hold the same do so where the same is put into both lists
same_set : (l q : List ℕ) (i j x : ℕ) → length l ≡ length q → get_or l j 0 ≡ get_or q j 0 → get_or (set l i x) j 0 ≡ get_or (set q i x) j 0
same_set l q i j x size e = go (tested (eqb j i)) (tested (ltb i (length l)))
  where
    go : Tested (eqb j i) → Tested (ltb i (length l)) → get_or (set l i x) j 0 ≡ get_or (set q i x) j 0
    go (holds k) (holds h) =
        rw (eqb-true j i k) (get_or-set_same l i x 0 (ltb-true _ _ h) ∙ sym (get_or-set_same q i x 0 (omega (arith, size, ltb-true i (length l) h))))
    go (holds k) (fails h) =
        rw (eqb-true j i k)
        (get_or-eq_default {A = ℕ} (set l i x) 0 {n = i} (omega (arith, ltb-false i (length l) h, length-set l i x)) ∙
        sym (get_or-eq_default {A = ℕ} (set q i x) 0 {n = i} (omega (arith, size, ltb-false i (length l) h, length-set q i x))))
    go (fails k) h = get_or-set_other l i j x 0 (eqb-false j i k) ∙ e ∙ sym (get_or-set_other q i j x 0 (eqb-false j i k))

-- another number at a place beside it changes nothing
beside : (l : List ℕ) (k j x : ℕ) → get_or (set l (2 * k + 1) x) (2 * j) 0 ≡ get_or l (2 * j) 0
beside l k j x = get_or-set_other l (2 * k + 1) (2 * j) x 0 (λ e. even_odd e)
  where
    even_odd : 2 * j ≡ 2 * k + 1 → ⊥
    even_odd e = omega arith

module _ (r q : Replay) (e : SameReplay r q) where
  alike_opening : (o p : OpenRecord) → o ≡ p → SameStep (taking (opening o r)) (taking (opening p q))
  alike_opening o p k =
      record {
        reply = refl;
        replay =
            record {
              session = e.session;
              opened = k;
              stopped_by = e.stopped_by;
              refused = e.refused;
              midnights = e.midnights;
              last_day_lem = e.last_day_lem;
              marks = e.marks;
              runs = e.runs;
            };
      }

  alike_stopping : (n : ℕ) → SameStep (stopping r n) (stopping q n)
  alike_stopping n =
      record {
        reply = refl;
        replay =
            record {
              session = e.session;
              opened = refl;
              stopped_by = refl;
              refused = e.refused;
              midnights = e.midnights;
              last_day_lem = e.last_day_lem;
              marks = e.marks;
              runs = e.runs;
            };
      }

  alike_words : (ws : List ℕ) → SameReplay (after_words r ws) (after_words q ws)
  unfolding after_words
  alike_words ws =
      let k = editions_alike ws r.session q.session e.session in
      record {
        session = k.session;
        opened = refl;
        stopped_by = e.stopped_by;
        refused = λ j. noted_first (k.refusal j) (e.midnights j) (e.refused j);
        midnights = e.midnights;
        last_day_lem = e.last_day_lem;
        marks = e.marks;
        runs = e.runs;
      }

  alike_word : (w : ℕ) → SameReplay (after_word r w) (after_word q w)
  alike_word w =
      subst (λ (x : Replay). SameReplay x (after_word q w)) (sym (one_word r w))
      (subst (λ (x : Replay). SameReplay (after_words r (w ∷ [])) x) (sym (one_word q w)) (alike_words (w ∷ [])))

  runs_now : r.session.party.tally.runs ≡ q.session.party.tally.runs
  runs_now = ap (λ (s : Session). s.party.tally.runs) e.session

  marked_runs : (k j : ℕ) →
      get_or (marked r.marks k r.session.party.tally) (2 * j) 0 ≡ get_or (marked q.marks k q.session.party.tally) (2 * j) 0
  marked_runs k j =
      beside (set r.marks (2 * k) r.session.party.tally.runs) k j r.session.party.tally.claims ∙
      same_set r.marks q.marks (2 * k) (2 * j) r.session.party.tally.runs e.marks (e.runs j) ∙
      ap (λ (x : ℕ). get_or (set q.marks (2 * k) x) (2 * j) 0) runs_now ∙
      sym (beside (set q.marks (2 * k) q.session.party.tally.runs) k j q.session.party.tally.claims)

  marked_length : (k : ℕ) →
      length (marked r.marks k r.session.party.tally) ≡ length (marked q.marks k q.session.party.tally)
  marked_length k =
      length-set (set r.marks (2 * k) r.session.party.tally.runs) (2 * k + 1) r.session.party.tally.claims ∙
      length-set r.marks (2 * k) r.session.party.tally.runs ∙ e.marks ∙
      sym
      (length-set (set q.marks (2 * k) q.session.party.tally.runs) (2 * k + 1) q.session.party.tally.claims ∙
      length-set q.marks (2 * k) q.session.party.tally.runs)

  alike_midnight : (day : ℕ) → SameReplay (after_midnight r day) (after_midnight q day)
  unfolding after_midnight
  alike_midnight day =
      record {
        session = e.session;
        opened = refl;
        stopped_by = e.stopped_by;
        refused = e.refused;
        midnights = ap (λ (n : ℕ). n + 1) e.midnights;
        last_day_lem = refl;
        marks =
            marked_length r.midnights ∙
            ap (λ (n : ℕ). length (marked q.marks n q.session.party.tally)) e.midnights;
        runs =
            λ j.
            marked_runs r.midnights j ∙
            ap (λ (n : ℕ). get_or (marked q.marks n q.session.party.tally) (2 * j) 0) e.midnights;
      }

  alike_day : (day : ℕ) → SameStep (midnight_step r day) (midnight_step q day)
  unfolding midnight_step
  alike_day day =
      either_way _ _ (λ j. may_begin (e.midnights j) (e.last_day_lem j) day) _ _ _ _
      (record { reply = refl; replay = alike_midnight day }) (alike_stopping 19)

  alike_record : (kind number : ℕ) → SameStep (record_step kind r number) (record_step kind q number)
  unfolding record_step
  alike_record kind number =
      either_way (eqb kind 1) (eqb kind 1) refl _ _ _ _ (record { reply = refl; replay = alike_word number }) (alike_day number)

  alike_kind : (b : ℕ) → SameStep (kind_step r b) (kind_step q b)
  unfolding kind_step
  alike_kind b = either_way (is_kind b) (is_kind b) refl _ _ _ _ (alike_opening (of_kind b) (of_kind b) refl) (alike_stopping 18)

  alike_open : (b : ℕ) → SameStep (open_step r b) (open_step q b)
  unfolding open_step
  alike_open b =
      either_way _ _ (ap (λ (o : OpenRecord). ltb o.count 4) e.opened) _ _ _ _
      (alike_opening _ _ (ap (λ (o : OpenRecord). with_byte o b) e.opened))
      (subst
      (λ (o : OpenRecord).
      SameStep (record_step r.opened.kind r (number_from r.opened.low r.opened.second r.opened.third b))
      (record_step o.kind q (number_from o.low o.second o.third b)))
      e.opened
      (alike_record r.opened.kind (number_from r.opened.low r.opened.second r.opened.third b)))

  alike_byte : (b : ℕ) → SameStep (byte_step r b) (byte_step q b)
  unfolding byte_step
  alike_byte b =
      either_way _ _ (ap (λ (n : ℕ). eqb n 0) e.stopped_by) _ _ _ _
      (either_way _ _ (ap (λ (o : OpenRecord). eqb o.count 0) e.opened) _ _ _ _ (alike_kind b) (alike_open b))
      (record { reply = ap refused e.stopped_by; replay = e })

  -- the runs of each part are the same
  began_runs : (k : ℕ) → (began_with r.marks k).runs ≡ (began_with q.marks k).runs
  unfolding began_with
  began_runs zero = refl
  began_runs (suc k) = e.runs k

  ended_runs : (k : ℕ) →
      (ended_with r.marks r.midnights r.session.party.tally k).runs ≡
      (ended_with q.marks r.midnights q.session.party.tally k).runs
  unfolding ended_with
  ended_runs k = go (ltb k r.midnights)
    where
      go : (t : Bool) →
          (pick {A = Tally} t (record { runs = get_or r.marks (2 * k) 0; claims = get_or r.marks (2 * k + 1) 0 }) r.session.party.tally).runs ≡
          (pick {A = Tally} t (record { runs = get_or q.marks (2 * k) 0; claims = get_or q.marks (2 * k + 1) 0 }) q.session.party.tally).runs
      go true = unfold pick in e.runs k
      go false = unfold pick in runs_now

  pub part_runs : (k : ℕ) → (part_at r k).runs ≡ (part_at q k).runs
  unfolding part_of
  part_runs k =
      go (leb k r.midnights) _ _ _ _ (λ j. ended_runs k j - began_runs k j) ∙
      ap (λ (n : ℕ). (part_of q.marks n q.session.party.tally k).runs) e.midnights
    where
      go : (t : Bool) (a b c d : ℕ) → a ≡ b →
          (pick {A = Tally} t (record { runs = a; claims = c }) no_tally).runs ≡ (pick {A = Tally} t (record { runs = b; claims = d }) no_tally).runs
      go true a b c d h = unfold pick in h
      go false a b c d h = unfold pick in refl

go_on : (t u : Stepped) (f g : Fed) → SameStep t u → SameButClaims f g →
    SameButClaims (proceed t.reply t.replay f) (proceed u.reply u.replay g)
unfolding proceed
go_on t u f g s k =
    subst (λ (x : Reply). SameButClaims (proceed t.reply t.replay f) (proceed x u.replay g)) s.reply (by_reply t.reply)
  where
    by_reply : (x : Reply) → SameButClaims (proceed x t.replay f) (proceed x u.replay g)
    by_reply taken = record { taken = ap (λ (n : ℕ). 1 + n) k.taken; refusal = k.refusal; replay = k.replay }
    by_reply (refused n) = record { taken = refl; refusal = refl; replay = s.replay }

pub replays_alike : (bytes : List ℕ) (r q : Replay) → SameReplay r q → SameButClaims (replay_of r bytes) (replay_of q bytes)
unfolding replay_of
replays_alike [] r q e = record { taken = refl; refusal = refl; replay = e }
replays_alike (b ∷ bs) r q e =
    let s = alike_byte r q e b in
    go_on (byte_step r b) (byte_step q b) (replay_of (byte_step r b).replay bs) (replay_of (byte_step q b).replay bs) s
    (replays_alike bs (byte_step r b).replay (byte_step q b).replay s.replay)

-- from the beginning on, whatever bytes come
pub replays_agree : (a b : ℕ) (bytes : List ℕ) → SameButClaims (replay_of (new_replay a) bytes) (replay_of (new_replay b) bytes)
replays_agree a b bytes =
    replays_alike bytes (new_replay a) (new_replay b)
    (record {
      session = refl;
      opened = refl;
      stopped_by = refl;
      refused = refl;
      midnights = refl;
      last_day_lem = refl;
      marks = refl;
      runs = λ k. refl;
    })
