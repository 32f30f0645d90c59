-- What the routines of a replay leave, return by return: each is the step that the definitions say. Assumes nothing.
use mathlib.Core.Path.{◌≡◌, refl, sym, ap, ap₂, ◌∙◌, subst}
use mathlib.Core.Bool.{true}
use mathlib.Core.List.{List, [], ◌∷◌}
use Prim.Native.Nat.{ℕ, ◌<◌, ◌≤◌}
use native.Mathlib.Omega.{arith}
use lib.Dec.{eqb}
use lib.ListN.{length, get_or}
use Rattle.std.specs.Prelude.{Result, Ok, Err}
use borrow.Author.Tests.{eq-eqb, ne_eqb, lt-ltb, le-ltb}
use Rattle.laws.specs.Choice.{pick}
use Rattle.laws.proofs.Choice.{pick_yes, pick_no}
use Rattle.state.specs.State.{Session}
use Rattle.state.specs.Cells.{session_of}
use Rattle.state.specs.Asked.{Given}
use Rattle.state.proofs.Cells.{held_view}
use Rattle.session.specs.Step.{still_open, completed, refused as denied, step_of}
use Rattle.session.specs.Step as stream
use Rattle.session.specs.Feed.{First, nothing, first, feed_of, proceed as feeding}
use Rattle.session.specs.Feed as pieces
use Rattle.session.specs.Answers.{PieceLeft as WordsFed}
use Rattle.session.specs.Asked.{Told, Fold}
use Rattle.session.specs.Answers.{first_of}
use Rattle.session.specs.declared.stream.Progress.{Progress}
use Rattle.session.specs.declared.stream.Progress.TheVariants.{Open, Whole}
use Rattle.session.specs.declared.stream.Fed as declared
use Rattle.session.proofs.Feeding.{fold_begins, fold_ends, fold_open, fold_completed, fold_refused}
use Rattle.session.proofs.Handed.{piece_given}
use Rattle.session.proofs.Refusals.{fed_valid}
use Rattle.replay.specs.State.{WordRefused, Replay, no_record}
use Rattle.replay.specs.Step.{StopNumber, by_kind, by_day, Reply, taken, refused, Stepped, opening, taking, of_kind, is_kind, kind_step}
use Rattle.replay.specs.Step.{with_byte, number_from, noted_reply, with_words, after_word, midnight_step}
use Rattle.station_log.specs.Bytes.{record_step, open_step, byte_step}
use Rattle.station_log.specs.Feed.{noted_first, after_words}
use Rattle.replay.specs.Cells.{viewed, replay_in, ReplayGiven}
use Rattle.replay.specs.Own.{Changed, Answered, noting}
use Rattle.refusal.specs.Number.{number_of, IsNumber}
use Rattle.refusal.specs.declared.Refusal.{Refusal}
use Rattle.refusal.specs.declared.Refusal.TheVariants as refusal
use Rattle.station_log.specs.Asked.{Became, ReplaySized, OpenAsked, WordsAsked, WordsLeft}
use Rattle.replay.specs.Own.{MidnightLeft, NumberAsked}

-- a replay and what a step tells of it
abbrev told : Reply → Replay → Stepped
told reply r = record { reply = reply; replay = r }

-- words of records
module _ (ws l own tallies shared l1 own1 tallies1 shared1 : List ℕ) (g : Given own tallies shared) (r : declared.Fed)
    (p : WordsFed (feed_of (session_of own tallies shared) ws) r own1 tallies1 shared1) where
  abbrev fed : pieces.Fed
  fed = feed_of (session_of own tallies shared) ws

  session_after : session_of own1 tallies1 shared1 ≡ fed.session
  session_after = held_view fed.session (fed_valid (session_of own tallies shared) ws g.valid) own1 tallies1 shared1 p.held

  -- the replay after words with this first refusal
  after_first : (f : First) → f ≡ fed.refusal → (marks : List ℕ) →
      with_words (session_of own1 tallies1 shared1) (noted_first f (get_or l 3 0) (record { number = get_or l 1 0; midnights = get_or l 2 0 }))
      (replay_in l marks own tallies shared) ≡
      after_words (replay_in l marks own tallies shared) ws
  unfolding after_words viewed
  after_first f e marks =
      ap₂
      (λ (s : Session) (x : First).
      with_words s (noted_first x (get_or l 3 0) (record { number = get_or l 1 0; midnights = get_or l 2 0 })) (replay_in l marks own tallies shared))
      session_after e

  pub words_fine : Changed (opening no_record) l l1 → nothing ≡ fed.refusal →
      WordsLeft ws l own tallies shared l1 own1 tallies1 shared1
  words_fine c e =
      record {
        log_length_lem = c.log_length_lem;
        session_sized = (piece_given ws g p.held).sized;
        view = λ marks. c.view marks (session_of own1 tallies1 shared1) ∙ unfold viewed in after_first nothing e marks;
      }

  pub words_noted : (l2 : List ℕ) (n : ℕ) → Changed (opening no_record) l l1 → Changed (noting n) l1 l2 → first n ≡ fed.refusal →
      WordsLeft ws l own tallies shared l2 own1 tallies1 shared1
  words_noted l2 n c d e =
      record {
        log_length_lem = d.log_length_lem;
        session_sized = (piece_given ws g p.held).sized;
        view =
            λ marks.
            d.view marks (session_of own1 tallies1 shared1) ∙ ap (noting n) (c.view marks (session_of own1 tallies1 shared1)) ∙
            unfold viewed in after_first (first n) e marks;
      }

-- a refusal's number is neither an open command's nor a completed one's
pub number_between : (why : Refusal) → (1 ≤ number_of why) × (number_of why < 64)
number_between refusal.Stopped = (omega arith, omega arith)
number_between refusal.UnknownHeader = (omega arith, omega arith)
number_between refusal.Malformed = (omega arith, omega arith)
number_between refusal.NumberTooHigh = (omega arith, omega arith)
number_between refusal.DomainCrossed = (omega arith, omega arith)
number_between refusal.WindowRule = (omega arith, omega arith)
number_between refusal.StartUnset = (omega arith, omega arith)
number_between refusal.DomainOutside = (omega arith, omega arith)
number_between refusal.SpansShared = (omega arith, omega arith)
number_between refusal.PairOutside = (omega arith, omega arith)
number_between refusal.WrongLength = (omega arith, omega arith)
number_between refusal.Unowned = (omega arith, omega arith)
number_between refusal.FlowField = (omega arith, omega arith)
number_between refusal.AtLimit = (omega arith, omega arith)
number_between refusal.PastEnd = (omega arith, omega arith)
number_between refusal.Ended = (omega arith, omega arith)
number_between refusal.WordLimit = (omega arith, omega arith)
number_between refusal.RecordKind = (omega arith, omega arith)
number_between refusal.MidnightDay = (omega arith, omega arith)
number_between refusal.NotOwned = (omega arith, omega arith)
number_between refusal.LeaseLine = (omega arith, omega arith)
number_between refusal.TooManyLogs = (omega arith, omega arith)

-- one word, by the session's step
module _
    (w : ℕ)
    (l own tallies shared l1 own1 tallies1 shared1 : List ℕ)
    (g : Given own tallies shared)
    (a : Result Progress Refusal)
    (h : Told (step_of (session_of own tallies shared) w) a own1 tallies1 shared1)
    (c : Changed (opening no_record) l l1)
  where
    fold : Fold (session_of own tallies shared) (w ∷ []) own tallies shared 0 0
    fold = fold_begins (w ∷ []) own tallies shared g

    abbrev Piece : declared.Fed → Type 0
    Piece r = WordsFed (feed_of (session_of own tallies shared) (w ∷ [])) r own1 tallies1 shared1

    fine : (r : declared.Fed) → nothing ≡ first_of r.refusal → Piece r → WordsLeft (w ∷ []) l own tallies shared l1 own1 tallies1 shared1
    fine r e p = words_fine (w ∷ []) l own tallies shared l1 own1 tallies1 shared1 g r p c (e ∙ p.refusal)

    fed_one : (n : ℕ) → Fold (session_of own tallies shared) (w ∷ []) own1 tallies1 shared1 1 n →
        WordsLeft (w ∷ []) l own tallies shared l1 own1 tallies1 shared1
    fed_one n f = fine _ refl (fold_ends (session_of own tallies shared) (w ∷ []) own1 tallies1 shared1 _ n f (omega arith))

    told_by : {b : Result Progress Refusal} → a ≡ b → Told (step_of (session_of own tallies shared) w) b own1 tallies1 shared1
    told_by e = subst (λ (b : Result Progress Refusal). Told (step_of (session_of own tallies shared) w) b own1 tallies1 shared1) e h

    pub word_fine : (x : Progress) → a ≡ Ok x → WordsLeft (w ∷ []) l own tallies shared l1 own1 tallies1 shared1
    word_fine Open e =
        fed_one _
        (fold_open (session_of own tallies shared) (w ∷ []) own tallies shared 0 0 fold (omega arith) own1 tallies1 shared1 refl (told_by e))
    word_fine Whole e =
        fed_one _
        (fold_completed (session_of own tallies shared) (w ∷ []) own tallies shared 0 0 fold (omega arith) own1 tallies1 shared1 refl
        (told_by e))

    module _ (l2 : List ℕ) (n : ℕ) (d : Changed (noting n) l1 l2) where
      denied_with : (r : declared.Fed) → first n ≡ first_of r.refusal → Piece r → WordsLeft (w ∷ []) l own tallies shared l2 own1 tallies1 shared1
      denied_with r e p = words_noted (w ∷ []) l own tallies shared l1 own1 tallies1 shared1 g r p l2 n c d (e ∙ p.refusal)

      pub word_noted : (why : Refusal) → a ≡ Err why → n ≡ number_of why → WordsLeft (w ∷ []) l own tallies shared l2 own1 tallies1 shared1
      word_noted why e k =
          denied_with _ (ap first k)
          (fold_refused (session_of own tallies shared) (w ∷ []) own tallies shared 0 0 fold (omega arith) own1 tallies1 shared1 why
          (told_by e))

-- a byte that only adds to a record
module _ (l l1 : List ℕ) (b : ℕ) (going : get_or l 0 0 ≡ 0) where
  pub added : get_or l 5 0 < 4 → 0 < get_or l 5 0 → Changed (λ r. opening (with_byte r.opened b) r) l l1 →
      Answered (λ r. byte_step r b) taken l l1
  added few some c =
      record {
        log_length_lem = c.log_length_lem;
        view =
            λ marks s.
            unfold byte_step open_step viewed in
            (pick_yes _ _ (eq-eqb (get_or l 0 0) 0 going) ∙ pick_no _ _ (ne_eqb (get_or l 5 0) 0 (more some)) ∙
            pick_yes _ _ (lt-ltb (get_or l 5 0) 4 few)) ∙
            ap taking (sym (c.view marks s));
      }
    where
      more : {n : ℕ} → 0 < n → n ≡ 0 → ⊥
      more h e = omega (arith, h, e)

  pub opened : get_or l 5 0 ≡ 0 → is_kind b ≡ true → Changed (opening (of_kind b)) l l1 → Answered (λ r. byte_step r b) taken l l1
  opened none k c =
      record {
        log_length_lem = c.log_length_lem;
        view =
            λ marks s.
            unfold byte_step kind_step viewed in
            (pick_yes _ _ (eq-eqb (get_or l 0 0) 0 going) ∙ pick_yes _ _ (eq-eqb (get_or l 5 0) 0 none) ∙ pick_yes _ _ k) ∙
            ap taking (sym (c.view marks s));
      }

-- one word's record is a piece of one word
one_reply : (r : stream.Reply) (s : Session) → (midnights : ℕ) (f : WordRefused) →
    noted_reply r midnights f ≡ noted_first (feeding r s (pieces.ended nothing s)).refusal midnights f
unfolding feeding
one_reply still_open s midnights f = refl
one_reply (completed c) s midnights f = refl
one_reply (denied n) s midnights f = refl

one_session : (r : stream.Reply) (s : Session) → s ≡ (feeding r s (pieces.ended nothing s)).session
unfolding feeding
one_session still_open s = refl
one_session (completed c) s = refl
one_session (denied n) s = refl

pub one_word : (r : Replay) (w : ℕ) → after_word r w ≡ after_words r (w ∷ [])
unfolding after_word after_words feed_of
one_word r w =
    ap₂ (λ (s : Session) (f : WordRefused). with_words s f r)
    (one_session (step_of r.session w).reply (step_of r.session w).session)
    (one_reply (step_of r.session w).reply (step_of r.session w).session r.midnights r.refused)

-- a byte of an open record
module _ (l marks own tallies shared : List ℕ) (b : ℕ) (a : OpenAsked l marks own tallies shared b) where
  abbrev here : Replay
  here = replay_in l marks own tallies shared

  pub number_asked : NumberAsked (get_or l 7 0) (get_or l 8 0) (get_or l 9 0) b
  unfolding viewed
  number_asked =
      record {
        low_byte = a.given.valid.low_byte;
        second_byte = a.given.valid.second_byte;
        third_byte = a.given.valid.third_byte;
        high_byte = a.bounded;
      }

  pub words_asked : WordsAsked l own tallies shared
  unfolding viewed
  words_asked =
      record {
        log_length_lem = a.given.log_length_lem;
        session_given = record { sized = a.given.session_sized; valid = a.given.valid.session };
      }

  same_sized : (l1 : List ℕ) → length l1 ≡ 10 → ReplaySized l1 marks own tallies shared
  same_sized l1 h = record { log_length_lem = h; marks_length_lem = a.given.marks_length_lem; session_sized = a.given.session_sized }

  pub byte_added : (l1 : List ℕ) → get_or l 5 0 < 4 → Changed (λ r. opening (with_byte r.opened b) r) l l1 →
      Became (open_step here b) taken l1 marks own tallies shared
  byte_added l1 h c =
      record {
        sized = same_sized l1 c.log_length_lem;
        view =
            unfold open_step in
            (pick_yes _ _ (unfold viewed in lt-ltb (get_or l 5 0) 4 h) ∙ ap taking (sym (c.view marks (session_of own tallies shared))));
      }

  -- the record's number
  abbrev value : ℕ
  value = number_from (get_or l 7 0) (get_or l 8 0) (get_or l 9 0) b

  last_byte : 4 ≤ get_or l 5 0 → open_step here b ≡ record_step (get_or l 6 0) here value
  unfolding open_step viewed
  last_byte h = pick_no _ _ (le-ltb (get_or l 5 0) 4 h)

  pub word_read : (w : ℕ) (l1 own1 tallies1 shared1 : List ℕ) → 4 ≤ get_or l 5 0 → get_or l 6 0 ≡ 1 → w ≡ value →
      WordsLeft (w ∷ []) l own tallies shared l1 own1 tallies1 shared1 →
      Became (open_step here b) taken l1 marks own1 tallies1 shared1
  word_read w l1 own1 tallies1 shared1 h k e c =
      record {
        sized = record { log_length_lem = c.log_length_lem; marks_length_lem = a.given.marks_length_lem; session_sized = c.session_sized };
        view =
            last_byte h ∙
            unfold record_step in
            (pick_yes _ _ (eq-eqb (get_or l 6 0) 1 k) ∙
            ap taking (ap (after_word here) (sym e) ∙ one_word here w ∙ sym (c.view marks)));
      }

  pub midnight_read : (day : ℕ) (r : Reply) (l1 marks1 : List ℕ) → 4 ≤ get_or l 5 0 → (get_or l 6 0 ≡ 1 → ⊥) → day ≡ value →
      MidnightLeft (λ r. midnight_step r day) r l marks tallies l1 marks1 →
      Became (open_step here b) r l1 marks1 own tallies shared
  midnight_read day r l1 marks1 h k e c =
      record {
        sized =
            record { log_length_lem = c.log_length_lem; marks_length_lem = c.marks_length_lem; session_sized = a.given.session_sized };
        view =
            last_byte h ∙
            unfold record_step in
            (pick_no _ _ (ne_eqb (get_or l 6 0) 1 k) ∙ ap (midnight_step here) (sym e) ∙ c.view own shared);
      }

-- a byte
module _ (l marks own tallies shared : List ℕ) (b : ℕ) (g : ReplayGiven l marks own tallies shared) where
  abbrev start : Replay
  start = replay_in l marks own tallies shared

  pub again : (n : ℕ) → n ≡ get_or l 0 0 → (get_or l 0 0 ≡ 0 → ⊥) → Became (byte_step start b) (refused n) l marks own tallies shared
  again n e h =
      record {
        sized =
            record { log_length_lem = g.log_length_lem; marks_length_lem = g.marks_length_lem; session_sized = g.session_sized };
        view =
            unfold byte_step in
            (pick_no _ _ (unfold viewed in ne_eqb (get_or l 0 0) 0 h) ∙
            ap (λ (m : ℕ). told (refused m) start) (unfold viewed in sym e));
      }

  going : (get_or l 0 0 ≡ 0) → byte_step start b ≡ pick (eqb (get_or l 5 0) 0) (kind_step start b) (open_step start b)
  unfolding byte_step viewed
  going e = pick_yes _ _ (eq-eqb (get_or l 0 0) 0 e)

  pub begins : (r : Reply) (l1 : List ℕ) → get_or l 0 0 ≡ 0 → get_or l 5 0 ≡ 0 → Answered (λ r. kind_step r b) r l l1 →
      Became (byte_step start b) r l1 marks own tallies shared
  begins r l1 e h c =
      record {
        sized = record { log_length_lem = c.log_length_lem; marks_length_lem = g.marks_length_lem; session_sized = g.session_sized };
        view = going e ∙ pick_yes _ _ (eq-eqb (get_or l 5 0) 0 h) ∙ c.view marks (session_of own tallies shared);
      }

  pub goes_on : (r : Reply) (l1 marks1 own1 tallies1 shared1 : List ℕ) → get_or l 0 0 ≡ 0 → (get_or l 5 0 ≡ 0 → ⊥) →
      Became (open_step start b) r l1 marks1 own1 tallies1 shared1 → Became (byte_step start b) r l1 marks1 own1 tallies1 shared1
  goes_on r l1 marks1 own1 tallies1 shared1 e h c =
      record { sized = c.sized; view = going e ∙ pick_no _ _ (ne_eqb (get_or l 5 0) 0 h) ∙ c.view }

  pub cause : (get_or l 0 0 ≡ 0 → ⊥) → StopNumber (get_or l 0 0)
  unfolding viewed
  cause h = g.valid.stops h

-- a number that stops a replay is a refusal's
pub is_number : {n : ℕ} → StopNumber n → IsNumber n
is_number by_kind = record { refusal = refusal.RecordKind; number = refl }
is_number by_day = record { refusal = refusal.MidnightDay; number = refl }
