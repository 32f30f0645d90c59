-- Validity holds of a new replay and is kept by every byte, so by every piece. Assumes nothing.
use mathlib.Core.Path.{◌≡◌, refl, sym, subst, ◌∙◌}
use mathlib.Core.Bool.{Bool, true}
use mathlib.Core.List.{List, [], ◌∷◌}
use Prim.Native.Nat.{ℕ, zero, suc, ◌+◌, ◌<◌, ◌≤◌, suc-le-suc}
use native.Mathlib.Omega.{arith}
use lib.Dec.{eqb}
use lib.ListN.{replicate, length-set, length-replicate}
use borrow.Author.Tests.{ltb-true, eqb-true, eqb-false, ne_eqb}
use Rattle.laws.specs.Choice.{pick}
use Rattle.laws.proofs.Choice.{pick_no, by_pick}
use Rattle.state.specs.Start.{is_edition}
use Rattle.state.proofs.Lawful.{all_same}
use Rattle.session.specs.Feed.{First, nothing, first, feed_of}
use Rattle.session.proofs.Kept.{new_valid}
use Rattle.session.proofs.Numbers.{refused_least}
use Rattle.session.proofs.Refusals.{fed_valid, refused_piece_lem}
use Rattle.session.proofs.Tallies.{tallied}
use Rattle.replay.specs.State.{OpenRecord, WordRefused, Replay, new_replay}
use Rattle.replay.specs.Step.{Reply, taken, refused, StopNumber, by_kind, by_day, Stepped, opening, stopped, is_kind, of_kind, kind_step, with_byte}
use Rattle.replay.specs.Step.{after_word, may_begin, after_midnight, midnight_step}
use Rattle.station_log.specs.Bytes.{record_step, open_step, byte_step}
use Rattle.replay.specs.Report.{began_with, ended_with}
use Rattle.station_log.specs.Feed.{Fed, proceed, replay_of, noted_first, after_words}
use Rattle.station_log.specs.Asked.{Bytes8}
use Rattle.replay.specs.Cells.{Grows, ReplayValid}
use Rattle.replay.proofs.Marks.{mark_other, grows_on, grows_marked}
use Rattle.replay.proofs.Midnights.{few, enough}
use Rattle.station_log.proofs.Steps.{one_word}

-- where no record is open, there is no kind
no_kind : {A : Type 0} → 0 < 0 → A
no_kind h = absurd (omega arith)

-- an open record, by itself
record RecordValid (o : OpenRecord) : Type 0 where
  some : 0 < o.count
  count_most : o.count ≤ 4
  kind_known : is_kind o.kind ≡ true
  low_byte : o.low < 256
  second_byte : o.second < 256
  third_byte : o.third < 256
  low_rest : o.count ≤ 1 → o.low ≡ 0
  second_rest : o.count ≤ 2 → o.second ≡ 0
  third_rest : o.count ≤ 3 → o.third ≡ 0

byte_or : (b x : ℕ) (t : Bool) → b < 256 → x < 256 → pick t b x < 256
byte_or b x t hb hx = by_pick (λ (n : ℕ). n < 256) t b x (λ e. hb) (λ e. hx)

-- a byte that comes to another place leaves one that hasn't come
not_come : (count k b x : ℕ) → (count ≤ k → x ≡ 0) → count + 1 ≤ k → pick (eqb count k) b x ≡ 0
not_come count k b x h le = pick_no b x (ne_eqb count k (λ e. omega arith)) ∙ h (omega arith)

-- the first refused word, where so many midnights have come
record Noted (midnights : ℕ) (f : WordRefused) : Type 0 where
  within : f.midnights ≤ midnights
  unrefused : f.number ≡ 0 → f.midnights ≡ 0

noted_first_lem : (midnights : ℕ) (f : WordRefused) (x : First) → ((n : ℕ) → x ≡ first n → 1 ≤ n) → Noted midnights f →
    Noted midnights (noted_first x midnights f)
noted_first_lem midnights f nothing h v = v
noted_first_lem midnights f (first n) h v =
    by_pick (Noted midnights) (eqb f.number 0) (record { number = n; midnights = midnights }) f
    (λ e. record { within = omega arith; unrefused = λ z. absurd (omega (arith, h n refl)) }) (λ e. v)

-- a new replay
pub new_replay_valid : (edition : ℕ) → is_edition edition ≡ true → ReplayValid (new_replay edition)
new_replay_valid edition known =
    record {
      session = new_valid edition known;
      stops = λ h. absurd (h refl);
      dropped = λ h. refl;
      count_most = omega arith;
      closed = λ e. refl;
      kind_known = no_kind;
      low_byte = omega arith;
      second_byte = omega arith;
      third_byte = omega arith;
      low_rest = λ h. refl;
      second_rest = λ h. refl;
      third_rest = λ h. refl;
      refused_midnights = omega arith;
      unrefused = λ e. refl;
      midnights_most = omega arith;
      days_number = omega arith;
      no_day = λ e. refl;
      marks_length_lem = length-replicate {A = ℕ} 800 0;
      marks_rest = λ k h. all_same 0 800 k;
      growing = λ k h. nothing_yet k (omega arith);
    }
  where
    nothing_yet : (k : ℕ) → k ≡ 0 → Grows (replicate 800 0) 0 0 0 k
    nothing_yet k e = subst (λ (j : ℕ). Grows (replicate 800 0) 0 0 0 j) (sym e)
        (unfold began_with ended_with pick in record { runs_grow = omega arith; claims_grow = omega arith })

module _ (r : Replay) (v : ReplayValid r) where
  -- a replay that stops
  stopped_valid : (n : ℕ) → StopNumber n → ReplayValid (stopped n r)
  stopped_valid n k =
      record {
        session = v.session;
        stops = λ h. k;
        dropped = λ h. refl;
        count_most = omega arith;
        closed = λ e. refl;
        kind_known = no_kind;
        low_byte = omega arith;
        second_byte = omega arith;
        third_byte = omega arith;
        low_rest = λ h. refl;
        second_rest = λ h. refl;
        third_rest = λ h. refl;
        refused_midnights = v.refused_midnights;
        unrefused = v.unrefused;
        midnights_most = v.midnights_most;
        days_number = v.days_number;
        no_day = v.no_day;
        marks_length_lem = v.marks_length_lem;
        marks_rest = v.marks_rest;
        growing = v.growing;
      }

  -- words that were fed: "the first such number is reported"
  words_noted : (ws : List ℕ) → Noted r.midnights (after_words r ws).refused
  unfolding after_words
  words_noted ws =
      noted_first_lem r.midnights r.refused (feed_of r.session ws).refusal (λ n e. refused_least (refused_piece_lem r.session ws n e))
      (record { within = v.refused_midnights; unrefused = v.unrefused })

  pub words_valid : (ws : List ℕ) → ReplayValid (after_words r ws)
  unfolding after_words
  words_valid ws =
      record {
        session = fed_valid r.session ws v.session;
        stops = v.stops;
        dropped = λ h. refl;
        count_most = omega arith;
        closed = λ e. refl;
        kind_known = no_kind;
        low_byte = omega arith;
        second_byte = omega arith;
        third_byte = omega arith;
        low_rest = λ h. refl;
        second_rest = λ h. refl;
        third_rest = λ h. refl;
        refused_midnights = (words_noted ws).within;
        unrefused = (words_noted ws).unrefused;
        midnights_most = v.midnights_most;
        days_number = v.days_number;
        no_day = v.no_day;
        marks_length_lem = v.marks_length_lem;
        marks_rest = v.marks_rest;
        growing =
            λ k h.
            grows_on r.marks r.midnights _ _ _ _ k (omega (arith, (tallied r.session ws).runs)) (omega (arith, (tallied r.session ws).claims))
            (v.growing k h);
      }

  word_valid : (w : ℕ) → ReplayValid (after_word r w)
  word_valid w = subst ReplayValid (sym (one_word r w)) (words_valid (w ∷ []))

  midnight_valid : (day : ℕ) → may_begin r.midnights r.last_day day ≡ true → ReplayValid (after_midnight r day)
  unfolding after_midnight
  midnight_valid day e =
      let less : r.midnights < 400 = few r.midnights r.last_day day e in
      record {
        session = v.session;
        stops = v.stops;
        dropped = λ h. refl;
        count_most = omega arith;
        closed = λ e. refl;
        kind_known = no_kind;
        low_byte = omega arith;
        second_byte = omega arith;
        third_byte = omega arith;
        low_rest = λ h. refl;
        second_rest = λ h. refl;
        third_rest = λ h. refl;
        refused_midnights = omega (arith, v.refused_midnights);
        unrefused = v.unrefused;
        midnights_most = omega arith;
        days_number = enough r.midnights r.last_day day e v.days_number;
        no_day = λ z. absurd (omega arith);
        marks_length_lem = simp length-set v.marks_length_lem;
        marks_rest =
            λ k h.
            mark_other r.marks r.midnights r.session.party.tally k (λ z. omega arith) (λ z. omega arith) ∙
            v.marks_rest k (omega arith);
        growing =
            λ k h.
            grows_marked r.marks r.midnights r.session.party.tally (omega (arith, v.marks_length_lem)) k h v.growing;
      }

  record_valid : (kind n : ℕ) → ReplayValid (record_step kind r n).replay
  unfolding record_step midnight_step
  record_valid kind n =
      by_pick (λ (t : Stepped). ReplayValid t.replay) _ _ _ (λ e. word_valid n)
      (λ e. by_pick (λ (t : Stepped). ReplayValid t.replay) _ _ _ (midnight_valid n) (λ f. stopped_valid 19 by_day))

  -- a record that is open in a running replay
  opening_valid : (o : OpenRecord) → r.stopped_by ≡ 0 → RecordValid o → ReplayValid (opening o r)
  opening_valid o going w =
      record {
        session = v.session;
        stops = v.stops;
        dropped = λ f. absurd (f going);
        count_most = w.count_most;
        closed = λ e. absurd (omega (arith, w.some));
        kind_known = λ h. w.kind_known;
        low_byte = w.low_byte;
        second_byte = w.second_byte;
        third_byte = w.third_byte;
        low_rest = w.low_rest;
        second_rest = w.second_rest;
        third_rest = w.third_rest;
        refused_midnights = v.refused_midnights;
        unrefused = v.unrefused;
        midnights_most = v.midnights_most;
        days_number = v.days_number;
        no_day = v.no_day;
        marks_length_lem = v.marks_length_lem;
        marks_rest = v.marks_rest;
        growing = v.growing;
      }

  -- its kind byte, and one byte more
  kind_valid : (b : ℕ) → is_kind b ≡ true → RecordValid (of_kind b)
  kind_valid b e =
      record {
        some = omega arith;
        count_most = omega arith;
        kind_known = e;
        low_byte = omega arith;
        second_byte = omega arith;
        third_byte = omega arith;
        low_rest = λ h. refl;
        second_rest = λ h. refl;
        third_rest = λ h. refl;
      }

  more_valid : (b : ℕ) → b < 256 → 0 < r.opened.count → r.opened.count < 4 → RecordValid (with_byte r.opened b)
  more_valid b h some few =
      let o = r.opened in
      record {
        some = omega arith;
        count_most = omega arith;
        kind_known = v.kind_known some;
        low_byte = byte_or b o.low _ h v.low_byte;
        second_byte = byte_or b o.second _ h v.second_byte;
        third_byte = byte_or b o.third _ h v.third_byte;
        low_rest = not_come o.count 1 b o.low v.low_rest;
        second_rest = not_come o.count 2 b o.second v.second_rest;
        third_rest = not_come o.count 3 b o.third v.third_rest;
      }

  -- every byte
  pub byte_valid : (b : ℕ) → b < 256 → ReplayValid (byte_step r b).replay
  unfolding byte_step kind_step open_step
  byte_valid b h =
      by_pick (λ (t : Stepped). ReplayValid t.replay) _ _ _
      (λ e.
      by_pick (λ (t : Stepped). ReplayValid t.replay) _ _ _
      (λ f.
      by_pick (λ (t : Stepped). ReplayValid t.replay) _ _ _
      (λ g. opening_valid (of_kind b) (eqb-true r.stopped_by 0 e) (kind_valid b g))
      (λ g. stopped_valid 18 by_kind))
      (λ f.
      by_pick (λ (t : Stepped). ReplayValid t.replay) _ _ _
      (λ g.
      let some : r.opened.count ≡ 0 → ⊥ = eqb-false r.opened.count 0 f in
      opening_valid (with_byte r.opened b) (eqb-true r.stopped_by 0 e)
      (more_valid b h (omega arith) (ltb-true r.opened.count 4 g)))
      (λ g. record_valid r.opened.kind _)))
      (λ e. v)

-- every piece
after_byte : (y : Reply) (u : Replay) (rest : Fed) → ReplayValid u → ReplayValid rest.replay → ReplayValid (proceed y u rest).replay
unfolding proceed
after_byte taken u rest v w = w
after_byte (refused n) u rest v w = v

pub piece_valid : (r : Replay) → ReplayValid r → (bs : List ℕ) → Bytes8 bs → ReplayValid (replay_of r bs).replay
unfolding replay_of
piece_valid r v [] h = v
piece_valid r v (b ∷ bs) h =
    let u : ReplayValid (byte_step r b).replay = byte_valid r v b (h zero (omega arith)) in
    after_byte (byte_step r b).reply (byte_step r b).replay (replay_of (byte_step r b).replay bs) u
    (piece_valid (byte_step r b).replay u bs (λ k le. h (suc k) (suc-le-suc le)))
