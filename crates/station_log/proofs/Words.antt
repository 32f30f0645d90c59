-- The session of a replay is the session fed with all the words of the log, whatever the midnights between them; and the first
-- refused word that is reported is the first refusal of those words. Assumes nothing.
use mathlib.Core.Path.{◌≡◌, refl, sym, ap, ap₂, ◌∙◌, subst}
use mathlib.Core.Bool.{Bool, true, false}
use mathlib.Core.List.{List, [], ◌∷◌, ◌++◌}
use Prim.Native.Nat.{ℕ, ◌<◌, ◌≤◌}
use native.Mathlib.Omega.{arith}
use lib.Dec.{eqb, leb, ltb}
use borrow.Author.Tests.{eqb-true, eqb-false, ne_eqb, ltb-true, ltb-false, lt-leb, le-leb}
use Rattle.laws.specs.Choice.{◌and◌, pick}
use Rattle.laws.proofs.Choice.{pick_yes, pick_no, and_intro, and_no_left, and_no_right, by_pick, Tested, tested, holds, fails}
use Rattle.state.specs.State.{Session}
use Rattle.session.specs.Step.{still_open, completed, refused as denied, step_of}
use Rattle.session.specs.Step as stream
use Rattle.session.specs.Feed.{First, nothing, first, feed_of, joined, proceed as feeding}
use Rattle.session.specs.Feed as pieces
use Rattle.session.proofs.Cut.{cut}
use Rattle.session.proofs.Refusals.{refused_word}
use Rattle.replay.specs.State.{WordRefused, Replay}
use Rattle.replay.specs.Step.{refused, Stepped, opening, taking, is_kind, kind_step, with_byte, number_from, noted, noted_reply, after_word}
use Rattle.replay.specs.Step.{may_begin, after_midnight, midnight_step}
use Rattle.station_log.specs.Bytes.{record_step, open_step, byte_step}
use Rattle.station_log.specs.Feed.{proceed, replay_of}
use Rattle.station_log.specs.Words.{word_by, reported, on_taken, words_in}
use Rattle.station_log.proofs.Records.{not_zero}

-- what a byte does to the session: the word that it completes, if any, is fed
data Moved (r : Replay) : Stepped → List ℕ → Type 0 where
  plain : (u : Replay) → u.session ≡ r.session → u.refused ≡ r.refused → Moved r (taking u) []
  fed : (w : ℕ) → Moved r (taking (after_word r w)) (w ∷ [])
  off : (n : ℕ) (u : Replay) → u.session ≡ r.session → u.refused ≡ r.refused → Moved r (record { reply = refused n; replay = u }) []

module _ (r : Replay) (b : ℕ) where
  abbrev here : Bool
  here = leb 4 r.opened.count and eqb r.opened.kind 1

  abbrev value : ℕ
  value = number_from r.opened.low r.opened.second r.opened.third b

  no_word : (eqb r.stopped_by 0 and here) ≡ false → word_by r b ≡ []
  unfolding word_by
  no_word e = pick_no _ _ e

  -- a step that is one of two, whichever the test says
  one_of : (t : Bool) (x y : Stepped) (ws : List ℕ) → Moved r x ws → Moved r y ws → Moved r (pick t x y) ws
  unfolding pick
  one_of true x y ws a c = a
  one_of false x y ws a c = c

  by_kind_lem : Moved r (kind_step r b) []
  unfolding kind_step
  by_kind_lem = one_of (is_kind b) _ _ [] (plain _ refl refl) (off 18 _ refl refl)

  by_midnight : Moved r (midnight_step r value) []
  unfolding midnight_step after_midnight
  by_midnight = one_of (may_begin r.midnights r.last_day value) _ _ [] (plain _ refl refl) (off 19 _ refl refl)

  by_paths : (t u : Stepped) (ws vs : List ℕ) → t ≡ u → ws ≡ vs → Moved r u vs → Moved r t ws
  by_paths t u ws vs p q m =
      subst (λ (x : Stepped). Moved r x ws) (sym p) (subst (Moved r u) (sym q) m)

  last_is : eqb r.stopped_by 0 ≡ true → 4 ≤ r.opened.count → eqb r.opened.kind 1 ≡ true → word_by r b ≡ value ∷ []
  unfolding word_by
  last_is e h k = pick_yes _ _ (and_intro e (and_intro (le-leb 4 r.opened.count h) k))

  at_last : eqb r.stopped_by 0 ≡ true → 4 ≤ r.opened.count → Moved r (record_step r.opened.kind r value) (word_by r b)
  unfolding record_step
  at_last e h = go (tested (eqb r.opened.kind 1))
    where
      go : Tested (eqb r.opened.kind 1) → Moved r (record_step r.opened.kind r value) (word_by r b)
      go (holds k) = by_paths _ (taking (after_word r value)) _ (value ∷ []) (pick_yes _ _ k) (last_is e h k) (fed value)
      go (fails k) = by_paths _ (midnight_step r value) _ [] (pick_no _ _ k) (no_word (and_no_right _ (and_no_right _ k))) by_midnight

  -- there is no word where fewer than four bytes stand
  too_few : r.opened.count < 4 → word_by r b ≡ []
  too_few h = no_word (and_no_right _ (and_no_left _ (lt-leb 4 r.opened.count h)))

  by_open : eqb r.stopped_by 0 ≡ true → Moved r (open_step r b) (word_by r b)
  unfolding open_step
  by_open e = go (tested (ltb r.opened.count 4))
    where
      go : Tested (ltb r.opened.count 4) → Moved r (open_step r b) (word_by r b)
      go (holds k) =
          by_paths _ (taking (opening (with_byte r.opened b) r)) _ [] (pick_yes _ _ k)
          (too_few (ltb-true r.opened.count 4 k)) (plain _ refl refl)
      go (fails k) =
          by_paths _ (record_step r.opened.kind r value) _ (word_by r b) (pick_no _ _ k) refl
          (at_last e (ltb-false r.opened.count 4 k))

  moved : Moved r (byte_step r b) (word_by r b)
  unfolding byte_step
  moved = go (tested (eqb r.stopped_by 0)) (tested (eqb r.opened.count 0))
    where
      go : Tested (eqb r.stopped_by 0) → Tested (eqb r.opened.count 0) → Moved r (byte_step r b) (word_by r b)
      go (holds e) (holds k) =
          by_paths _ (kind_step r b) _ [] (pick_yes _ _ e ∙ pick_yes _ _ k)
          (too_few (omega (arith, eqb-true r.opened.count 0 k))) by_kind_lem
      go (holds e) (fails k) = by_paths _ (open_step r b) _ (word_by r b) (pick_yes _ _ e ∙ pick_no _ _ k) refl (by_open e)
      go (fails e) k =
          by_paths _ (record { reply = refused r.stopped_by; replay = r }) _ [] (pick_no _ _ e) (no_word (and_no_left _ e))
          (off r.stopped_by r refl refl)

-- a word, then others, by the session's cut rule
one_fed : (s : Session) (w : ℕ) → (feed_of s (w ∷ [])).session ≡ (step_of s w).session
unfolding feed_of feeding
one_fed s w = by_reply (step_of s w).reply
  where
    by_reply : (y : stream.Reply) → (feeding y (step_of s w).session (pieces.ended nothing (step_of s w).session)).session ≡ (step_of s w).session
    by_reply still_open = refl
    by_reply (completed c) = refl
    by_reply (denied n) = refl

then_fed : (s : Session) (w : ℕ) (ws : List ℕ) → (feed_of s (w ∷ ws)).session ≡ (feed_of (step_of s w).session ws).session
then_fed s w ws =
    ap (λ (f : pieces.Fed). f.session) (cut s (w ∷ []) ws) ∙ unfold joined in ap (λ (t : Session). (feed_of t ws).session) (one_fed s w)

byte_session : (r : Replay) (bs : List ℕ) (t : Stepped) (ws : List ℕ) → Moved r t ws →
    (replay_of t.replay bs).replay.session ≡ (feed_of t.replay.session (words_in t.replay bs)).session →
    (proceed t.reply t.replay (replay_of t.replay bs)).replay.session ≡
    (feed_of r.session (ws ++ on_taken t.reply (words_in t.replay bs))).session
unfolding proceed on_taken
byte_session r bs t ws (plain u e g) ih = ih ∙ ap (λ (s : Session). (feed_of s (words_in u bs)).session) e
byte_session r bs t ws (fed w) ih = ih ∙ unfold after_word in sym (then_fed r.session w (words_in (after_word r w) bs))
byte_session r bs t ws (off n u e g) ih = e ∙ unfold feed_of in refl

-- one session, across all midnights
pub one_session : (r : Replay) (bs : List ℕ) → (replay_of r bs).replay.session ≡ (feed_of r.session (words_in r bs)).session
unfolding replay_of words_in
one_session r [] = unfold feed_of in refl
one_session r (b ∷ bs) =
    byte_session r bs (byte_step r b) (word_by r b) (moved r b) (one_session (byte_step r b).replay bs)

-- "the first such number is reported"
module _ (s : Session) (w : ℕ) (ws : List ℕ) (stands midnights before : ℕ) where
  abbrev s1 : Session
  s1 = (step_of s w).session

  -- a number that isn't 0 stays
  stays : (f : First) (n : ℕ) → (n ≡ 0 → ⊥) → reported f n ≡ n
  unfolding reported
  stays nothing n ne = refl
  stays (first m) n ne = pick_no _ _ (ne_eqb n 0 ne)

  noted_number : (n : ℕ) → (n ≡ 0 → ⊥) → ((noted n midnights (record { number = stands; midnights = before })).number ≡ 0 → ⊥)
  noted_number n ne =
      by_pick (λ (f : WordRefused). f.number ≡ 0 → ⊥) (eqb stands 0) _ _ (λ e. ne) (λ e. eqb-false stands 0 e)

  pick_number : (t : Bool) (x y : WordRefused) → (pick t x y).number ≡ pick t x.number y.number
  unfolding pick
  pick_number true x y = refl
  pick_number false x y = refl

  by_word : (y : stream.Reply) → (step_of s w).reply ≡ y →
      reported (feed_of s1 ws).refusal (noted_reply y midnights (record { number = stands; midnights = before })).number ≡
      reported (feeding y s1 (feed_of s1 ws)).refusal stands
  unfolding feeding
  by_word still_open e = refl
  by_word (completed c) e = refl
  by_word (denied n) e =
      stays (feed_of s1 ws).refusal _ (noted_number n (not_zero (refused_word s w n e))) ∙
      unfold reported in pick_number (eqb stands 0) (record { number = n; midnights = midnights }) (record { number = stands; midnights = before })

byte_refusal : (r : Replay) (bs : List ℕ) (t : Stepped) (ws : List ℕ) → Moved r t ws →
    (replay_of t.replay bs).replay.refused.number ≡
    reported (feed_of t.replay.session (words_in t.replay bs)).refusal t.replay.refused.number →
    (proceed t.reply t.replay (replay_of t.replay bs)).replay.refused.number ≡
    reported (feed_of r.session (ws ++ on_taken t.reply (words_in t.replay bs))).refusal r.refused.number
unfolding proceed on_taken
byte_refusal r bs t ws (plain u e g) ih =
    ih ∙
    ap₂ (λ (s : Session) (f : WordRefused). reported (feed_of s (words_in u bs)).refusal f.number) e g
byte_refusal r bs t ws (fed w) ih =
    ih ∙
    unfold after_word feed_of in
    by_word r.session w (words_in (after_word r w) bs) r.refused.number r.midnights r.refused.midnights
    (step_of r.session w).reply refl
byte_refusal r bs t ws (off n u e g) ih = ap (λ (f : WordRefused). f.number) g ∙ unfold feed_of reported in refl

pub first_refusal : (r : Replay) (bs : List ℕ) →
    (replay_of r bs).replay.refused.number ≡ reported (feed_of r.session (words_in r bs)).refusal r.refused.number
unfolding replay_of words_in
first_refusal r [] = unfold feed_of reported in refl
first_refusal r (b ∷ bs) =
    byte_refusal r bs (byte_step r b) (word_by r b) (moved r b) (first_refusal (byte_step r b).replay bs)
