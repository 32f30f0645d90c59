-- The place of a log's first refused word. While no word is refused, every record that was read is a word that the session took or a
-- midnight; after that the session's count and the report stand. Assumes nothing.
use mathlib.Core.Path.{◌≡◌, refl, sym, ap, ◌∙◌, subst}
use mathlib.Core.Bool.{true}
use mathlib.Core.List.{List, [], ◌∷◌, ◌++◌}
use Prim.Native.Nat.{ℕ, zero, suc, ◌+◌, ◌*◌, suc-le-suc}
use native.Mathlib.Omega.{arith}
use lib.Dec.{eqb}
use lib.ListN.{length}
use borrow.Author.Tests.{eqb-true, eqb-false, eq-eqb, ne_eqb, ltb-false}
use Rattle.laws.proofs.Choice.{Tested, tested, holds, fails, pick_yes, pick_no, by_pick}
use Rattle.state.specs.State.{Session}
use Rattle.state.specs.Start.{is_edition}
use Rattle.session.specs.Step.{still_open, completed, step_of}
use Rattle.session.specs.Step as stream
use Rattle.session.specs.Feed.{First, nothing, first, feed_of}
use Rattle.session.specs.Feed as pieces
use Rattle.session.specs.Refusals.{RefusedTo, unchanged, stopping}
use Rattle.session.proofs.Refusals.{refused_word, stopped_for_good, stopped_piece}
use Rattle.session.proofs.Tallies.{counted}
use Rattle.replay.specs.State.{WordRefused, Replay, new_replay}
use Rattle.replay.specs.Step.{Reply, taken, refused, Stepped, kind_step, number_from, noted, noted_reply, after_word, after_midnight, midnight_step}
use Rattle.replay.specs.Cells.{ReplayValid}
use Rattle.station_log.specs.Bytes.{record_step, open_step, byte_step}
use Rattle.station_log.specs.Feed.{Fed, proceed, replay_of, record_bytes}
use Rattle.station_log.specs.Words.{words_in, reported}
use Rattle.station_log.specs.Asked.{Bytes8}
use Rattle.station_log.proofs.Cut.{stopping as stops}
use Rattle.station_log.proofs.Words.{one_session, first_refusal}
use Rattle.station_log.proofs.Records.{word_read, not_zero}
use Rattle.station_log.proofs.Kept.{new_replay_valid, byte_valid}
use Rattle.demands.specs.Days.{replayed, gone_on}
use Rattle.demands.specs.Refused.{FirstRefused, Reported}
use Rattle.demands.proofs.Days.{gone_on_lem}

-- the bytes of whole records that were read, and those of the open one
abbrev place : Replay → ℕ
place r = 5 * (r.session.party.taken + r.midnights) + r.opened.count

-- a word that isn't refused is counted
word_counts : (s : Session) (w : ℕ) (y : stream.Reply) → (step_of s w).reply ≡ y → ((n : ℕ) → y ≡ stream.refused n → ⊥) →
    (step_of s w).session.party.taken ≡ s.party.taken + 1
unfolding feed_of pieces.proceed
word_counts s w still_open e ne =
    sym (ap (λ (y : stream.Reply). (pieces.proceed y (step_of s w).session (pieces.ended nothing (step_of s w).session)).session.party.taken) e) ∙
    counted s (w ∷ []) ∙
    ap (λ (y : stream.Reply). s.party.taken + (pieces.proceed y (step_of s w).session (pieces.ended nothing (step_of s w).session)).taken) e
word_counts s w (completed c) e ne =
    sym (ap (λ (y : stream.Reply). (pieces.proceed y (step_of s w).session (pieces.ended nothing (step_of s w).session)).session.party.taken) e) ∙
    counted s (w ∷ []) ∙
    ap (λ (y : stream.Reply). s.party.taken + (pieces.proceed y (step_of s w).session (pieces.ended nothing (step_of s w).session)).taken) e
word_counts s w (stream.refused n) e ne = absurd (ne n refl)

no_reply : {A : Type 0} {n : ℕ} → refused n ≡ taken → A
no_reply e = absurd (let z : ◌≡◌ {A = ℕ} 0 1 = cc in omega arith)

-- a refused word's number is noted, so the report isn't 0
noted_so : (n m : ℕ) (f : WordRefused) → (n ≡ 0 → ⊥) → (noted n m f).number ≡ 0 → ⊥
noted_so n m f ne = by_pick (λ (x : WordRefused). x.number ≡ 0 → ⊥) (eqb f.number 0) _ _ (λ e. ne) (λ e. eqb-false f.number 0 e)

unnoted : (s : Session) (w m : ℕ) (f : WordRefused) (y : stream.Reply) → (step_of s w).reply ≡ y → (noted_reply y m f).number ≡ 0 →
    (n : ℕ) → y ≡ stream.refused n → ⊥
unnoted s w m f still_open e z n k = let x : ◌≡◌ {A = ℕ} 0 1 = cc in omega arith
unnoted s w m f (completed c) e z n k = let x : ◌≡◌ {A = ℕ} 0 1 = cc in omega arith
unnoted s w m f (stream.refused j) e z n k = noted_so j m f (not_zero (refused_word s w j e)) z

-- a byte that is taken, while no word is refused
module _ (r : Replay) (v : ReplayValid r) (b : ℕ) where
  abbrev OnePlaceOn : Stepped → Type 0
  OnePlaceOn t = t.reply ≡ taken → t.replay.refused.number ≡ 0 → place t.replay ≡ place r + 1

  word_place : (w : ℕ) → r.opened.count ≡ 4 → (after_word r w).refused.number ≡ 0 → place (after_word r w) ≡ place r + 1
  unfolding after_word
  word_place w k z =
      omega (arith, word_counts r.session w (step_of r.session w).reply refl (unnoted r.session w r.midnights r.refused (step_of r.session w).reply refl z))

  midnight_place : (day : ℕ) → r.opened.count ≡ 4 → place (after_midnight r day) ≡ place r + 1
  unfolding after_midnight
  midnight_place day k = omega arith

  byte_place_lem : OnePlaceOn (byte_step r b)
  unfolding byte_step kind_step open_step record_step midnight_step
  byte_place_lem =
      by_pick OnePlaceOn _ _ _
      (λ e.
      by_pick OnePlaceOn _ _ _
      (λ f.
      let none : r.opened.count ≡ 0 = eqb-true r.opened.count 0 f in
      by_pick OnePlaceOn _ _ _ (λ g y z. omega arith) (λ g y z. no_reply y))
      (λ f.
      by_pick OnePlaceOn _ _ _ (λ g y z. omega arith)
      (λ g.
      let four : r.opened.count ≡ 4 = omega (arith, ltb-false r.opened.count 4 g, v.count_most) in
      by_pick OnePlaceOn _ _ _ (λ h y z. word_place _ four z)
      (λ h. by_pick OnePlaceOn _ _ _ (λ i y z. midnight_place _ four) (λ i y z. no_reply y)))))
      (λ e y z. no_reply y)

-- a number that is reported stands
stood : (r : Replay) (bs : List ℕ) → (gone_on r bs).refused.number ≡ 0 → r.refused.number ≡ 0
stood r bs e = go (feed_of r.session (words_in r bs)).refusal (sym (first_refusal r bs) ∙ e)
  where
    go : (f : First) → reported f r.refused.number ≡ 0 → r.refused.number ≡ 0
    go f z = other f (tested (eqb r.refused.number 0)) z
      where
        other : (f : First) → Tested (eqb r.refused.number 0) → reported f r.refused.number ≡ 0 → r.refused.number ≡ 0
        other f (holds t) y = eqb-true _ _ t
        other nothing (fails t) y = unfold reported in y
        other (first n) (fails t) y = sym (pick_no n r.refused.number t) ∙ unfold reported in y

-- bytes that are all taken, while no word is refused
no_first : {A : Type 0} {n : ℕ} → first n ≡ nothing → A
no_first e = absurd (let z : ◌≡◌ {A = ℕ} 0 1 = cc in omega arith)

bytes_place : (r : Replay) → ReplayValid r → (bs : List ℕ) → Bytes8 bs → (replay_of r bs).refusal ≡ nothing → (gone_on r bs).refused.number ≡ 0 →
    place (gone_on r bs) ≡ place r + length bs
unfolding replay_of proceed
bytes_place r v [] h e z = omega arith
bytes_place r v (b ∷ bs) h e z =
    go (byte_step r b).reply refl e z (bytes_place (byte_step r b).replay (byte_valid r v b (h zero (omega arith))) bs (λ k l. h (suc k) (suc-le-suc l)))
  where
    go : (y : Reply) → (byte_step r b).reply ≡ y →
        (proceed y (byte_step r b).replay (replay_of (byte_step r b).replay bs)).refusal ≡ nothing →
        (proceed y (byte_step r b).replay (replay_of (byte_step r b).replay bs)).replay.refused.number ≡ 0 →
        ((replay_of (byte_step r b).replay bs).refusal ≡ nothing → (gone_on (byte_step r b).replay bs).refused.number ≡ 0 →
        place (gone_on (byte_step r b).replay bs) ≡ place (byte_step r b).replay + length bs) →
        place (proceed y (byte_step r b).replay (replay_of (byte_step r b).replay bs)).replay ≡ place r + suc (length bs)
    go taken k f w rest = omega (arith, rest f w, byte_place_lem r v b k (stood (byte_step r b).replay bs w))
    go (refused n) k f w rest = no_first f

-- once a word was refused, the report stands
module _ (r : Replay) (ne : r.refused.number ≡ 0 → ⊥) where
  abbrev SameReport : Stepped → Type 0
  SameReport t = t.replay.refused ≡ r.refused

  noted_same : (y : stream.Reply) → noted_reply y r.midnights r.refused ≡ r.refused
  noted_same still_open = refl
  noted_same (completed c) = refl
  noted_same (stream.refused n) = pick_no _ _ (ne_eqb r.refused.number 0 ne)

  byte_report : (b : ℕ) → SameReport (byte_step r b)
  unfolding byte_step kind_step open_step record_step midnight_step after_word after_midnight
  byte_report b =
      by_pick SameReport _ _ _
      (λ e.
      by_pick SameReport _ _ _ (λ f. by_pick SameReport _ _ _ (λ g. refl) (λ g. refl))
      (λ f.
      by_pick SameReport _ _ _ (λ g. refl)
      (λ g.
      by_pick SameReport _ _ _ (λ h. noted_same (step_of r.session (number_from r.opened.low r.opened.second r.opened.third b)).reply)
      (λ h. by_pick SameReport _ _ _ (λ i. refl) (λ i. refl)))))
      (λ e. refl)

bytes_report : (r : Replay) (bs : List ℕ) → (r.refused.number ≡ 0 → ⊥) → (gone_on r bs).refused ≡ r.refused
unfolding replay_of proceed
bytes_report r [] ne = refl
bytes_report r (b ∷ bs) ne = go (byte_step r b).reply (bytes_report (byte_step r b).replay bs (λ e. ne (sym (ap (λ (f : WordRefused). f.number) (byte_report r ne b)) ∙ e)))
  where
    go : (y : Reply) → (gone_on (byte_step r b).replay bs).refused ≡ (byte_step r b).replay.refused →
        (proceed y (byte_step r b).replay (replay_of (byte_step r b).replay bs)).replay.refused ≡ r.refused
    go taken ih = ih ∙ byte_report r ne b
    go (refused n) ih = byte_report r ne b

-- and so does a stopped session
stopped_session : (s : Session) (ws : List ℕ) → s.party.stopped ≡ 1 → (feed_of s ws).session ≡ s
stopped_session s [] e = unfold feed_of in refl
stopped_session s (w ∷ ws) e = ap (λ (f : pieces.Fed). f.session) (stopped_piece s w ws e)

stays : (r : Replay) (w n : ℕ) → (step_of r.session w).reply ≡ stream.refused n → (ws : List ℕ) →
    (feed_of (after_word r w).session ws).session ≡ (step_of r.session w).session
unfolding after_word
stays r w n e ws = stopped_session (step_of r.session w).session ws (stopped_for_good r.session w n e)

same_taken : {s u : Session} {n : ℕ} → RefusedTo s n u → u.party.taken ≡ s.party.taken
same_taken (unchanged e) = refl
same_taken (stopping e) = refl

pub refused_place_lem : (edition : ℕ) → is_edition edition ≡ true → (before : List ℕ) (w n : ℕ) → FirstRefused edition before w n → (later : List ℕ) →
    Reported before n (replayed edition (before ++ (record_bytes 1 w ++ later)))
refused_place_lem edition known before w n f later = subst (Reported before n) (sym whole) told
  where
    whole : replayed edition (before ++ (record_bytes 1 w ++ later)) ≡ gone_on (after_word (replayed edition before) w) later
    whole =
        gone_on_lem edition before (record_bytes 1 w ++ later) ∙
        ap (λ (g : Fed). g.replay) (word_read (replayed edition before) (record { going = f.going; unopened = f.unopened }) w later f.word)

    nothing_refused : (replay_of (new_replay edition) before).refusal ≡ nothing
    nothing_refused = go (replay_of (new_replay edition) before).refusal refl
      where
        go : (x : First) → (replay_of (new_replay edition) before).refusal ≡ x → (replay_of (new_replay edition) before).refusal ≡ nothing
        go nothing e = e
        go (first m) e = absurd ((stops (new_replay edition) before).not_none m e (sym ((stops (new_replay edition) before).by_number m e) ∙ f.going))

    place_is : length before ≡ 5 * ((replayed edition before).session.party.taken + (replayed edition before).midnights)
    place_is =
        omega
        (arith, bytes_place (new_replay edition) (new_replay_valid edition known) before f.bytes nothing_refused f.unrefused, ap (λ o. o.count) f.unopened)

    noted_now : (after_word (replayed edition before) w).refused ≡ record { number = n; midnights = (replayed edition before).midnights }
    noted_now =
        unfold after_word in
        (ap (λ (y : stream.Reply). noted_reply y (replayed edition before).midnights (replayed edition before).refused) f.refuses ∙
        pick_yes _ _ (eq-eqb (replayed edition before).refused.number 0 f.unrefused))

    nonzero : (after_word (replayed edition before) w).refused.number ≡ 0 → ⊥
    nonzero e = not_zero (refused_word (replayed edition before).session w n f.refuses) (sym (ap (λ (x : WordRefused). x.number) noted_now) ∙ e)

    report : (gone_on (after_word (replayed edition before) w) later).refused ≡ record { number = n; midnights = (replayed edition before).midnights }
    report = bytes_report (after_word (replayed edition before) w) later nonzero ∙ noted_now

    session_is : (gone_on (after_word (replayed edition before) w) later).session.party.taken ≡ (replayed edition before).session.party.taken
    session_is =
        ap (λ (s : Session). s.party.taken)
        (one_session (after_word (replayed edition before) w) later ∙ stays (replayed edition before) w n f.refuses (words_in (after_word (replayed edition before) w) later)) ∙
        same_taken (refused_word (replayed edition before).session w n f.refuses)

    told : Reported before n (gone_on (after_word (replayed edition before) w) later)
    told =
        record {
          number = ap (λ (x : WordRefused). x.number) report;
          place = omega (arith, place_is, session_is, ap (λ (x : WordRefused). x.midnights) report);
        }
