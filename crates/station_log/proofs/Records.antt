-- Records of words: their bytes are read as the words that they are, one after another, whatever their number. Assumes nothing.
use mathlib.Core.Path.{◌≡◌, refl, sym, ap, ap₂, ◌∙◌, subst}
use mathlib.Core.Bool.{true}
use mathlib.Core.List.{List, [], ◌∷◌, ◌++◌, append_assoc}
use Prim.Native.Nat.{ℕ, suc, ◌+◌, ◌*◌, ◌/◌, ◌%◌, ◌<◌, ◌≤◌}
use native.Mathlib.Nat.{zero-add, div-div-eq-div-mul, div-add-mod'}
use native.Mathlib.Numerals.{add-one}
use native.Mathlib.Omega.{arith}
use lib.Dec.{eqb}
use lib.ListN.{length, get_or, set, take, drop, length-drop, length-set}
use lib.Seq.{drop-cons, drop-drop, take-suc-set, get_or-set_same, get_or-set_other}
use borrow.Author.Tests.{eq-eqb, ne_eqb, eqb-true, eqb-false, lt-ltb, le-ltb}
use Rattle.laws.specs.Choice.{pick}
use Rattle.laws.specs.Masks.{◌or◌}
use Rattle.laws.proofs.Choice.{pick_yes, pick_no, Tested, tested, holds, fails}
use Rattle.state.specs.State.{Session}
use Rattle.session.specs.Step.{still_open, completed, refused as denied, step_of}
use Rattle.session.specs.Step as stream
use Rattle.session.specs.Refusals.{low, full, foreign, RefusedTo, unchanged, stopping}
use Rattle.session.specs.Feed.{First, nothing, first, feed_of, proceed as feeding}
use Rattle.session.specs.Feed as pieces
use Rattle.session.proofs.Refusals.{refused_word, stopped_for_good, stopped_piece}
use Rattle.replay.specs.State.{OpenRecord, WordRefused, Replay, no_record}
use Rattle.replay.specs.Step.{Stepped, opening, taking, is_kind, of_kind, kind_step, with_byte, number_from, noted, noted_reply}
use Rattle.replay.specs.Step.{with_words, after_word, after_midnight, midnight_step}
use Rattle.station_log.specs.Bytes.{record_step, open_step, byte_step}
use Rattle.station_log.specs.Feed.{Fed, ahead, proceed, replay_of, record_bytes, word_records, noted_first, after_words}
use Rattle.station_log.specs.Asked.{Gathered, Words32, word_at}

-- a running replay without an open record
pub record Ready (r : Replay) : Type 0 where
  pub going : r.stopped_by ≡ 0
  pub unopened : r.opened ≡ no_record

-- the number of a record's four bytes is the record's number, and the bytes are its bytes
pub number_back : (n : ℕ) → n < 4294967296 →
    number_from (n % 256) (n / 256 % 256) (n / 65536 % 256) (n / 16777216 % 256) ≡ n
unfolding number_from
number_back n h =
    assemble n (n / 256) (n / 65536) (n / 16777216) (n % 256) (n / 256 % 256) (n / 65536 % 256) (div-add-mod' n 256)
    (subst (λ (q : ℕ). q * 256 + n / 256 % 256 ≡ n / 256) (div-div-eq-div-mul n 256 256) (div-add-mod' (n / 256) 256))
    (subst (λ (q : ℕ). q * 256 + n / 65536 % 256 ≡ n / 65536) (div-div-eq-div-mul n 65536 256) (div-add-mod' (n / 65536) 256))
    (omega arith)
  where
    assemble : (n q1 q2 q3 r0 r1 r2 : ℕ) → q1 * 256 + r0 ≡ n → q2 * 256 + r1 ≡ q1 → q3 * 256 + r2 ≡ q2 → q3 < 256 →
        r0 + 256 * r1 + 65536 * r2 + 16777216 * (q3 % 256) ≡ n
    assemble n q1 q2 q3 r0 r1 r2 a b c d = omega arith

pub bytes_back : (a b c d : ℕ) → a < 256 → b < 256 → c < 256 → d < 256 →
    record_bytes 1 (number_from a b c d) ≡ 1 ∷ a ∷ b ∷ c ∷ d ∷ []
unfolding number_from
bytes_back a b c d ha hb hc hd = λ i. 1 ∷ first_byte i ∷ second_byte i ∷ third_byte i ∷ fourth_byte i ∷ []
  where
    first_byte : (a + 256 * b + 65536 * c + 16777216 * d) % 256 ≡ a
    first_byte = omega arith

    second_byte : (a + 256 * b + 65536 * c + 16777216 * d) / 256 % 256 ≡ b
    second_byte = omega arith

    third_byte : (a + 256 * b + 65536 * c + 16777216 * d) / 65536 % 256 ≡ c
    third_byte = omega arith

    fourth_byte : (a + 256 * b + 65536 * c + 16777216 * d) / 16777216 % 256 ≡ d
    fourth_byte = omega arith

-- a byte, then the rest
pub stepped : (r : Replay) (b : ℕ) (bs : List ℕ) (t : Stepped) → byte_step r b ≡ t →
    replay_of r (b ∷ bs) ≡ proceed t.reply t.replay (replay_of t.replay bs)
unfolding replay_of
stepped r b bs t e = ap (λ (t : Stepped). proceed t.reply t.replay (replay_of t.replay bs)) e

pub took : (r r1 : Replay) (b : ℕ) (bs : List ℕ) → byte_step r b ≡ taking r1 → replay_of r (b ∷ bs) ≡ ahead 1 (replay_of r1 bs)
took r r1 b bs e = stepped r b bs (taking r1) e ∙ unfold proceed in refl

pub ahead_ahead : (m n : ℕ) (f : Fed) → ahead m (ahead n f) ≡ ahead (m + n) f
ahead_ahead m n f = λ i. record { taken = plus i; refusal = f.refusal; replay = f.replay }
  where
    plus : m + (n + f.taken) ≡ m + n + f.taken
    plus = omega arith

-- a record, byte by byte: its kind, three bytes, and the last one
module _ (r : Replay) (y : Ready r) where
  pub kind_byte : (kind : ℕ) → is_kind kind ≡ true → byte_step r kind ≡ taking (opening (of_kind kind) r)
  unfolding byte_step kind_step
  kind_byte kind k =
      pick_yes _ _ (eq-eqb r.stopped_by 0 y.going) ∙
      pick_yes _ _ (eq-eqb r.opened.count 0 (ap (λ (o : OpenRecord). o.count) y.unopened)) ∙ pick_yes _ _ k

  pub next_byte : (o : OpenRecord) (b : ℕ) → 0 < o.count → o.count < 4 →
      byte_step (opening o r) b ≡ taking (opening (with_byte o b) r)
  unfolding byte_step open_step
  next_byte o b h k =
      pick_yes _ _ (eq-eqb r.stopped_by 0 y.going) ∙ pick_no _ _ (ne_eqb o.count 0 (λ e. omega arith)) ∙
      pick_yes _ _ (lt-ltb o.count 4 k)

  -- neither a word nor a midnight looks at the open record
  drops : (kind : ℕ) (o : OpenRecord) (n : ℕ) → record_step kind (opening o r) n ≡ record_step kind r n
  unfolding record_step after_word midnight_step after_midnight
  drops kind o n = refl

  last_byte : (o : OpenRecord) (b n : ℕ) → o.count ≡ 4 → number_from o.low o.second o.third b ≡ n →
      byte_step (opening o r) b ≡ record_step o.kind r n
  unfolding byte_step open_step
  last_byte o b n h e =
      pick_yes _ _ (eq-eqb r.stopped_by 0 y.going) ∙ pick_no _ _ (ne_eqb o.count 0 (λ z. omega arith)) ∙
      pick_no _ _ (le-ltb o.count 4 (omega arith)) ∙ ap (record_step o.kind (opening o r)) e ∙ drops o.kind o n

  -- so five bytes are the step of the record
  pub record_read : (kind n : ℕ) (rest : List ℕ) → is_kind kind ≡ true → n < 4294967296 →
      replay_of r (record_bytes kind n ++ rest) ≡
      ahead 4 (proceed (record_step kind r n).reply (record_step kind r n).replay (replay_of (record_step kind r n).replay rest))
  unfolding pick
  record_read kind n rest k h =
      took r (opening o1 r) kind _ (kind_byte kind k) ∙
      ap (ahead 1)
      (took (opening o1 r) (opening o2 r) (n % 256) _ (next_byte o1 (n % 256) (omega arith) (omega arith)) ∙
      ap (ahead 1)
      (took (opening o2 r) (opening o3 r) (n / 256 % 256) _ (next_byte o2 (n / 256 % 256) (omega arith) (omega arith)) ∙
      ap (ahead 1)
      (took (opening o3 r) (opening o4 r) (n / 65536 % 256) _ (next_byte o3 (n / 65536 % 256) (omega arith) (omega arith)) ∙
      ap (ahead 1)
      (stepped (opening o4 r) (n / 16777216 % 256) rest (record_step kind r n) (last_byte o4 (n / 16777216 % 256) n refl (number_back n h)))))) ∙
      fours _
    where
      o1 : OpenRecord
      o1 = of_kind kind

      o2 : OpenRecord
      o2 = with_byte o1 (n % 256)

      o3 : OpenRecord
      o3 = with_byte o2 (n / 256 % 256)

      o4 : OpenRecord
      o4 = with_byte o3 (n / 65536 % 256)

      fours : (f : Fed) → ahead 1 (ahead 1 (ahead 1 (ahead 1 f))) ≡ ahead 4 f
      fours f = ap (ahead 1) (ap (ahead 1) (ahead_ahead 1 1 f) ∙ ahead_ahead 1 2 f) ∙ ahead_ahead 1 3 f

  pub word_read : (w : ℕ) (rest : List ℕ) → w < 4294967296 →
      replay_of r (record_bytes 1 w ++ rest) ≡ ahead 5 (replay_of (after_word r w) rest)
  word_read w rest h =
      record_read 1 w rest (unfold ◌or◌ in refl) h ∙ unfold record_step pick proceed in ahead_ahead 4 1 (replay_of (after_word r w) rest)

-- a refusal that was noted stays
noted_stays : (n k m : ℕ) (f : WordRefused) → (n ≡ 0 → ⊥) → noted k m (noted n m f) ≡ noted n m f
noted_stays n k m f ne = go (tested (eqb f.number 0))
  where
    go : Tested (eqb f.number 0) → noted k m (noted n m f) ≡ noted n m f
    go (holds e) =
        subst (λ (x : WordRefused). noted k m x ≡ x) (sym (pick_yes (record { number = n; midnights = m }) f e))
        (pick_no _ _ (ne_eqb n 0 ne))
    go (fails e) =
        subst (λ (x : WordRefused). noted k m x ≡ x) (sym (pick_no (record { number = n; midnights = m }) f e)) (pick_no _ _ e)

first_stays : (n m : ℕ) (f : WordRefused) (k : First) → (n ≡ 0 → ⊥) → noted_first k m (noted n m f) ≡ noted n m f
first_stays n m f nothing ne = refl
first_stays n m f (first k) ne = noted_stays n k m f ne

pub not_zero : {s u : Session} {n : ℕ} → RefusedTo s n u → n ≡ 0 → ⊥
not_zero (unchanged k) e = omega arith
not_zero (stopping (low a b)) e = omega arith
not_zero (stopping full) e = omega arith
not_zero (stopping foreign) e = omega arith

stopped_session : (s : Session) (ws : List ℕ) → s.party.stopped ≡ 1 → (feed_of s ws).session ≡ s
stopped_session s [] e = unfold feed_of in refl
stopped_session s (w ∷ ws) e = ap (λ (f : pieces.Fed). f.session) (stopped_piece s w ws e)

-- a word, then the others
module _ (r : Replay) (w : ℕ) (ws : List ℕ) where
  abbrev s : Session
  s = r.session

  abbrev s1 : Session
  s1 = (step_of s w).session

  by_reply : (y : stream.Reply) → (step_of s w).reply ≡ y →
      with_words (feed_of s1 ws).session (noted_first (feed_of s1 ws).refusal r.midnights (noted_reply y r.midnights r.refused)) r ≡
      with_words (feeding y s1 (feed_of s1 ws)).session (noted_first (feeding y s1 (feed_of s1 ws)).refusal r.midnights r.refused) r
  unfolding feeding
  by_reply still_open e = refl
  by_reply (completed c) e = refl
  by_reply (denied n) e =
      ap₂ (λ (t : Session) (f : WordRefused). with_words t f r) (stopped_session s1 ws (stopped_for_good s w n e))
      (first_stays n r.midnights r.refused (feed_of s1 ws).refusal (not_zero (refused_word s w n e)))

  pub words_join : after_words (after_word r w) ws ≡ after_words r (w ∷ ws)
  unfolding after_words after_word feed_of
  words_join = by_reply (step_of s w).reply refl

-- "later words add nothing": once a word is refused, no word changes the replay
pub later_words : (r : Replay) (w n : ℕ) (ws : List ℕ) → (step_of r.session w).reply ≡ denied n →
    after_words (after_word r w) ws ≡ after_word r w
unfolding after_words after_word
later_words r w n ws e =
    ap₂ (λ (t : Session) (f : WordRefused). with_words t f r) (stopped_session _ ws (stopped_for_good r.session w n e))
    (subst
    (λ (y : stream.Reply).
    noted_first (feed_of (step_of r.session w).session ws).refusal r.midnights (noted_reply y r.midnights r.refused) ≡
    noted_reply y r.midnights r.refused)
    (sym e)
    (first_stays n r.midnights r.refused (feed_of (step_of r.session w).session ws).refusal (not_zero (refused_word r.session w n e))))

pub after_ready : (r : Replay) (w : ℕ) → Ready r → Ready (after_word r w)
unfolding after_word
after_ready r w y = record { going = y.going; unopened = refl }

no_words : (r : Replay) → Ready r → r ≡ after_words r []
unfolding after_words feed_of
no_words r y = ap (λ (o : OpenRecord). opening o r) y.unopened

-- records of words, however many, are a piece of the session's words
pub words_read : (r : Replay) (ws rest : List ℕ) → Ready r → Words32 ws →
    replay_of r (word_records ws ++ rest) ≡ ahead (5 * length ws) (replay_of (after_words r ws) rest)
unfolding word_records
words_read r [] rest y h =
    ap (λ (x : Replay). replay_of x rest) (no_words r y) ∙ nothing_ahead (replay_of (after_words r []) rest)
  where
    nothing_ahead : (f : Fed) → f ≡ ahead 0 f
    nothing_ahead f = λ i. record { taken = sym (zero-add f.taken) i; refusal = f.refusal; replay = f.replay }
words_read r (w ∷ ws) rest y h =
    ap (replay_of r) (append_assoc (record_bytes 1 w) (word_records ws) rest) ∙ word_read r y w (word_records ws ++ rest) (h 0 (omega arith)) ∙
    ap (ahead 5)
    (words_read (after_word r w) ws rest (after_ready r w y) (λ k less. h (suc k) (omega arith)) ∙
    ap (λ (x : Replay). ahead (5 * length ws) (replay_of x rest)) (words_join r w ws)) ∙
    ahead_ahead 5 (5 * length ws) (replay_of (after_words r (w ∷ ws)) rest) ∙
    ap (λ (n : ℕ). ahead n (replay_of (after_words r (w ∷ ws)) rest)) (more (length ws))
  where
    more : (n : ℕ) → 5 + 5 * n ≡ 5 * suc n
    more n = omega arith

-- words that are gathered from bytes, one record after another
records_append : (xs ys : List ℕ) → word_records (xs ++ ys) ≡ word_records xs ++ word_records ys
unfolding word_records
records_append [] ys = refl
records_append (x ∷ xs) ys =
    ap (λ (l : List ℕ). record_bytes 1 x ++ l) (records_append xs ys) ∙ sym (append_assoc (record_bytes 1 x) (word_records xs) (word_records ys))

pub gathered_none : (bs words : List ℕ) → Gathered bs 0 words
gathered_none bs words =
    record { fit = omega arith; room = omega arith; bounded = λ k h. absurd (omega arith); records = unfold word_records in refl }

pub gathered_as : (bs words : List ℕ) (m n : ℕ) → m ≡ n → Gathered bs m words → Gathered bs n words
gathered_as bs words m n e g = subst (λ (k : ℕ). Gathered bs k words) e g

five : (l : List ℕ) (k : ℕ) → k + 5 ≤ length l →
    drop k l ≡ get_or l k 0 ∷ get_or l (k + 1) 0 ∷ get_or l (k + 2) 0 ∷ get_or l (k + 3) 0 ∷ get_or l (k + 4) 0 ∷ drop (k + 5) l
five l k h =
    one k (omega arith) ∙
    ap (λ (t : List ℕ). get_or l k 0 ∷ t)
    (one (k + 1) (omega arith) ∙
    ap (λ (t : List ℕ). get_or l (k + 1) 0 ∷ t)
    (next (k + 1) (k + 2) (omega arith) ∙ one (k + 2) (omega arith) ∙
    ap (λ (t : List ℕ). get_or l (k + 2) 0 ∷ t)
    (next (k + 2) (k + 3) (omega arith) ∙ one (k + 3) (omega arith) ∙
    ap (λ (t : List ℕ). get_or l (k + 3) 0 ∷ t)
    (next (k + 3) (k + 4) (omega arith) ∙ one (k + 4) (omega arith) ∙
    ap (λ (t : List ℕ). get_or l (k + 4) 0 ∷ t) (next (k + 4) (k + 5) (omega arith))))))
  where
    one : (j : ℕ) → j < length l → drop j l ≡ get_or l j 0 ∷ drop (j + 1) l
    one j less = drop-cons l j 0 less ∙ ap (λ (m : ℕ). get_or l j 0 ∷ drop m l) (sym (add-one j))

    next : (i j : ℕ) → i + 1 ≡ j → drop (i + 1) l ≡ drop j l
    next i j e = ap (λ (m : ℕ). drop m l) e

module _ (bytes words : List ℕ) (at n : ℕ) (g : Gathered (drop at bytes) n words) where
  abbrev i : ℕ
  i = at + 5 * n

  abbrev byte : ℕ → ℕ
  byte k = get_or bytes (i + k) 0

  pub gathered_more : (w : ℕ) → n < length words → i + 5 ≤ length bytes → get_or bytes i 0 ≡ 1 → byte 1 < 256 → byte 2 < 256 → byte 3 < 256 →
      byte 4 < 256 → w ≡ word_at bytes i → Gathered (drop at bytes) (n + 1) (set words n w)
  gathered_more w less long kind ha hb hc hd ew =
      record {
        fit = omega (arith, length-drop at bytes);
        room = rw length-set (omega arith);
        bounded = bound;
        records =
            g.records ∙ ap (λ (t : List ℕ). word_records (take n words) ++ t) rest ∙
            sym (append_assoc (word_records (take n words)) (record_bytes 1 w) (drop (5 * (n + 1)) (drop at bytes))) ∙
            ap (λ (t : List ℕ). t ++ drop (5 * (n + 1)) (drop at bytes)) (sym front);
      }
    where
      word_bytes : record_bytes 1 w ≡ 1 ∷ byte 1 ∷ byte 2 ∷ byte 3 ∷ byte 4 ∷ []
      word_bytes = ap (record_bytes 1) ew ∙ bytes_back (byte 1) (byte 2) (byte 3) (byte 4) ha hb hc hd

      listed : get_or bytes i 0 ∷ byte 1 ∷ byte 2 ∷ byte 3 ∷ byte 4 ∷ [] ≡ record_bytes 1 w
      listed = (λ j. kind j ∷ byte 1 ∷ byte 2 ∷ byte 3 ∷ byte 4 ∷ []) ∙ sym word_bytes

      rest : drop (5 * n) (drop at bytes) ≡ record_bytes 1 w ++ drop (5 * (n + 1)) (drop at bytes)
      rest =
          drop-drop (5 * n) at bytes ∙ five bytes i long ∙ ap (λ (t : List ℕ). t ++ drop (i + 5) bytes) listed ∙
          ap (λ (t : List ℕ). record_bytes 1 w ++ t)
          (ap (λ (m : ℕ). drop m bytes) (same at n) ∙ sym (drop-drop (5 * (n + 1)) at bytes))
        where
          same : (x y : ℕ) → x + 5 * y + 5 ≡ x + 5 * (y + 1)
          same x y = omega arith

      front : word_records (take (n + 1) (set words n w)) ≡ word_records (take n words) ++ record_bytes 1 w
      front =
          ap (λ (m : ℕ). word_records (take m (set words n w))) (add-one n) ∙ ap word_records (take-suc-set words n w less) ∙
          records_append (take n words) (w ∷ []) ∙ ap (λ (t : List ℕ). word_records (take n words) ++ t) (unfold word_records in refl)

      bound : (k : ℕ) → k < n + 1 → get_or (set words n w) k 0 < 4294967296
      bound k h = go (tested (eqb k n))
        where
          go : Tested (eqb k n) → get_or (set words n w) k 0 < 4294967296
          go (holds e) =
              rw (eqb-true k n e) (rw (get_or-set_same words n w 0 less) (rw ew (unfold number_from in omega arith)))
          go (fails e) =
              rw (get_or-set_other words n k w 0 (eqb-false k n e))
              (g.bounded k (let ne : k ≡ n → ⊥ = eqb-false k n e in omega arith))
