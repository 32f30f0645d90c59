-- A piece of bytes, as the code feeds it, is the definition's fold. Assumes nothing.
use mathlib.Core.Path.{◌≡◌, refl, sym, ap, ap₂, ◌∙◌, subst}
use mathlib.Core.List.{List, ◌++◌}
use Prim.Native.Nat.{ℕ, suc, ◌+◌, ◌*◌, ◌<◌, ◌≤◌}
use native.Mathlib.Nat.{zero-add, add-zero}
use native.Mathlib.Numerals.{add-one}
use native.Mathlib.Omega.{arith}
use lib.ListN.{length, get_or, take, drop, length-drop, drop_of_length-le}
use lib.Seq.{drop-cons, drop-drop, get_or-take, length-take-le}
use Rattle.refusal.specs.Number.{number_of}
use Rattle.refusal.specs.declared.Refusal.{Refusal}
use Rattle.state.specs.Cells.{session_of}
use Rattle.std.specs.Prelude.{Option, None, Some}
use Rattle.session.proofs.Taking.{same}
use Rattle.replay.specs.State.{Replay}
use Rattle.replay.specs.Step.{Reply, taken, refused, Stepped}
use Rattle.station_log.specs.Bytes.{byte_step}
use Rattle.station_log.specs.Feed.{ahead, proceed, replay_of, word_records, after_words}
use Rattle.station_log.specs.Feed as piece
use Rattle.replay.specs.Cells.{viewed, replay_in, ReplayHeld, ReplayValid, ReplayGiven}
use Rattle.station_log.specs.Asked.{PieceLeft, ReplaySized, Became, WordsAsked, WordsLeft, Words32, Gathered, Idle, RecordsLeft, unread, read}
use Rattle.replay.specs.Own.{reply_of}
use Rattle.std.specs.Prelude.{Result, Ok, Err}
use Rattle.station_log.specs.declared.stream.Fed.{Fed}
use Rattle.replay.proofs.Changes.{log_canon}
use Rattle.station_log.proofs.Kept.{byte_valid, words_valid}
use Rattle.station_log.proofs.Records.{Ready, stepped, ahead_ahead, words_read}

-- arrays of the right lengths hold the replay that they are
pub held_view : (l m o t s : List ℕ) → ReplayGiven l m o t s → ReplayHeld (replay_in l m o t s) l m o t s
held_view l m o t s g =
    record {
      log_cells_lem = sym (log_canon l m (session_of o t s) g.log_length_lem);
      mark_cells = unfold viewed in refl;
      session_cells = unfold viewed in same o t s 0 (record { sized = g.session_sized; valid = unfold viewed in g.valid.session });
    }

pub given_from : (l m o t s : List ℕ) → ReplaySized l m o t s → ReplayValid (replay_in l m o t s) → ReplayGiven l m o t s
given_from l m o t s z v =
    record { log_length_lem = z.log_length_lem; marks_length_lem = z.marks_length_lem; session_sized = z.session_sized; valid = v }

-- `i` bytes were taken; the arrays hold the replay that they left
pub record Fold (r : Replay) (bs l m o t s : List ℕ) (i : ℕ) : Type 0 where
  pub given : ReplayGiven l m o t s
  pub within : i ≤ length bs
  pub rest : replay_of r bs ≡ ahead i (replay_of (replay_in l m o t s) (drop i bs))

ahead_none : (f : piece.Fed) → f ≡ ahead 0 f
ahead_none f = λ i. record { taken = sym (zero-add f.taken) i; refusal = f.refusal; replay = f.replay }

pub fold_begins : (bs l m o t s : List ℕ) → ReplayGiven l m o t s → Fold (replay_in l m o t s) bs l m o t s 0
fold_begins bs l m o t s g = record { given = g; within = omega arith; rest = ahead_none (replay_of (replay_in l m o t s) bs) }

abbrev answered : ℕ → Option Refusal → Fed
answered i f = record { taken = record { 0 = i }; refusal = f }

module _ (r : Replay) (bs l m o t s : List ℕ) (i : ℕ) (f : Fold r bs l m o t s i) where
  abbrev now : Replay
  now = replay_in l m o t s

  -- the piece's end
  ends : length bs ≤ i → PieceLeft (replay_of r bs) (answered i None) l m o t s
  ends h =
      subst (λ (x : piece.Fed). PieceLeft x (answered i None) l m o t s)
      (sym (f.rest ∙ ap (λ (x : List ℕ). ahead i (replay_of now x)) (drop_of_length-le bs h)))
      (unfold replay_of in
      record { taken = sym (add-zero i); refusal = refl; held = held_view l m o t s f.given })

  pub fold_ends : length bs ≤ i → (y : Option Refusal) → y ≡ None → PieceLeft (replay_of r bs) (answered i y) l m o t s
  fold_ends h y e = subst (λ (x : Option Refusal). PieceLeft (replay_of r bs) (answered i x) l m o t s) (sym e) (ends h)

  pub asked : WordsAsked l o t s
  unfolding viewed
  asked =
      record {
        log_length_lem = f.given.log_length_lem;
        session_given = record { sized = f.given.session_sized; valid = f.given.valid.session };
      }

  -- a byte
  module _ (less : i < length bs) (l1 m1 o1 t1 s1 : List ℕ) where
    abbrev b : ℕ
    b = get_or bs i 0

    here : (t : Stepped) → byte_step now b ≡ t →
        replay_of r bs ≡ ahead i (proceed t.reply t.replay (replay_of t.replay (drop (suc i) bs)))
    here t e =
        f.rest ∙ ap (λ (x : List ℕ). ahead i (replay_of now x)) (drop-cons bs i 0 less) ∙
        ap (ahead i) (stepped now b (drop (suc i) bs) t e)

    given_after : (y : Reply) → b < 256 → Became (byte_step now b) y l1 m1 o1 t1 s1 → ReplayGiven l1 m1 o1 t1 s1
    given_after y h e =
        given_from l1 m1 o1 t1 s1 e.sized
        (subst (λ (t : Stepped). ReplayValid t.replay) e.view (byte_valid now f.given.valid b h))

    -- the byte as the code has it
    as_read : (a c : Result (Unit {0}) Refusal) (x : ℕ) → x ≡ b → a ≡ c → Became (byte_step now x) (reply_of a) l1 m1 o1 t1 s1 →
        Became (byte_step now b) (reply_of c) l1 m1 o1 t1 s1
    as_read a c x same e d =
        subst (λ (y : Result (Unit {0}) Refusal). Became (byte_step now b) (reply_of y) l1 m1 o1 t1 s1) e
        (subst (λ (n : ℕ). Became (byte_step now n) (reply_of a) l1 m1 o1 t1 s1) same d)

    pub fold_refused : (a : Result (Unit {0}) Refusal) (why : Refusal) (x : ℕ) → x ≡ b → x < 256 → a ≡ Err why →
        Became (byte_step now x) (reply_of a) l1 m1 o1 t1 s1 → PieceLeft (replay_of r bs) (answered i (Some why)) l1 m1 o1 t1 s1
    fold_refused a why x same fits e c = stopping (as_read a (Err why) x same e c)
      where
        h : b < 256
        h = omega (arith, same, fits)

        stopping : Became (byte_step now b) (refused (number_of why)) l1 m1 o1 t1 s1 →
            PieceLeft (replay_of r bs) (answered i (Some why)) l1 m1 o1 t1 s1
        stopping d =
            subst (λ (x : piece.Fed). PieceLeft x (answered i (Some why)) l1 m1 o1 t1 s1) (sym (here _ d.view))
            (unfold proceed in
            record { taken = sym (add-zero i); refusal = refl; held = held_view l1 m1 o1 t1 s1 (given_after _ h d) })

    goes : b < 256 → Became (byte_step now b) taken l1 m1 o1 t1 s1 → Fold r bs l1 m1 o1 t1 s1 (i + 1)
    goes h d =
        record {
          given = given_after taken h d;
          within = omega arith;
          rest =
              here _ d.view ∙ unfold proceed in ahead_ahead i 1 (replay_of (replay_in l1 m1 o1 t1 s1) (drop (suc i) bs)) ∙
              ap (λ (k : ℕ). ahead (i + 1) (replay_of (replay_in l1 m1 o1 t1 s1) (drop k bs))) (sym (add-one i));
        }

    pub fold_goes : (a : Result (Unit {0}) Refusal) (u : Unit {0}) (x : ℕ) → x ≡ b → x < 256 → a ≡ Ok u → Became (byte_step now x) (reply_of a) l1 m1 o1 t1 s1 →
        Fold r bs l1 m1 o1 t1 s1 (i + 1)
    fold_goes a u x same fits e c = goes (omega (arith, same, fits)) (as_read a (Ok u) x same e c)

  -- records of words
  idle_ready : Idle l → Ready now
  unfolding viewed
  idle_ready e = record { going = e.running; unopened = f.given.valid.closed e.unopened }

  words_go : (ws l1 o1 t1 s1 : List ℕ) → Idle l → Words32 ws → 5 * length ws ≤ length (drop i bs) →
      drop i bs ≡ word_records ws ++ drop (5 * length ws) (drop i bs) → WordsLeft ws l o t s l1 o1 t1 s1 →
      Fold r bs l1 m o1 t1 s1 (i + 5 * length ws)
  words_go ws l1 o1 t1 s1 e w fit begins c =
      record {
        given =
            given_from l1 m o1 t1 s1
            (record { log_length_lem = c.log_length_lem; marks_length_lem = f.given.marks_length_lem; session_sized = c.session_sized })
            (subst ReplayValid (sym (c.view m)) (words_valid now f.given.valid ws));
        within = omega (arith, length-drop i bs, f.within);
        rest =
            f.rest ∙ ap (λ (x : List ℕ). ahead i (replay_of now x)) begins ∙
            ap (ahead i) (words_read now ws (drop (5 * length ws) (drop i bs)) (idle_ready e) w) ∙
            ahead_ahead i (5 * length ws) (replay_of (after_words now ws) (drop (5 * length ws) (drop i bs))) ∙
            ap (ahead (i + 5 * length ws)) (ap₂ replay_of (sym (c.view m)) (drop-drop (5 * length ws) i bs));
      }

  pub fold_records : (n : ℕ) (l1 o1 t1 s1 : List ℕ) → 0 < n → RecordsLeft (drop i bs) l o t s n l1 o1 t1 s1 →
      Fold r bs l1 m o1 t1 s1 (i + 5 * n)
  fold_records n l1 o1 t1 s1 h unread = absurd (omega arith)
  fold_records n l1 o1 t1 s1 h (read ws l2 o2 t2 s2 e w fit begins c) = words_go ws l2 o2 t2 s2 e w fit begins c

  pub fold_same : (n : ℕ) (l1 o1 t1 s1 : List ℕ) → n ≤ 0 → RecordsLeft (drop i bs) l o t s n l1 o1 t1 s1 →
      Fold r bs l1 m o1 t1 s1 i
  fold_same n l1 o1 t1 s1 h unread = f
  fold_same n l1 o1 t1 s1 h (read ws l2 o2 t2 s2 e w fit begins c) =
      subst (Fold r bs l2 m o2 t2 s2) (let z : length ws ≡ 0 = omega arith in omega arith) (words_go ws l2 o2 t2 s2 e w fit begins c)

-- words that were gathered and fed
pub records_left : (bs l o t s words : List ℕ) (n : ℕ) (l1 o1 t1 s1 : List ℕ) → Idle l → Gathered bs n words →
    WordsLeft (take n words) l o t s l1 o1 t1 s1 → RecordsLeft bs l o t s n l1 o1 t1 s1
records_left bs l o t s words n l1 o1 t1 s1 e g c =
    subst (λ (k : ℕ). RecordsLeft bs l o t s k l1 o1 t1 s1) size
    (read (take n words) l1 o1 t1 s1 e
    (λ k h. rw (get_or-take n words k 0 (omega (arith, size))) (g.bounded k (omega (arith, size))))
    (omega (arith, size, g.fit)) (g.records ∙ ap (λ (k : ℕ). word_records (take n words) ++ drop (5 * k) bs) (sym size)) c)
  where
    size : length (take n words) ≡ n
    size = length-take-le n words g.room

pub none_left : (bs l o t s : List ℕ) (n : ℕ) → n ≤ 0 → RecordsLeft bs l o t s n l o t s
none_left bs l o t s n h = subst (λ (k : ℕ). RecordsLeft bs l o t s k l o t s) (let z : 0 ≡ n = omega arith in z) unread
