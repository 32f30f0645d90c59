-- A replay with room for 400 midnights answers byte by byte as the one that has all its midnights, also those that were cut from it, and room
-- for 400 more. Assumes nothing.
use mathlib.Core.Path.{◌≡◌, refl, sym, ap, ap₂, ◌∙◌, subst}
use mathlib.Core.Bool.{Bool, true, false}
use mathlib.Core.List.{List, [], ◌∷◌, ◌++◌}
use Prim.Native.Nat.{ℕ, ◌+◌, ◌-◌, ◌*◌, ◌<◌, ◌≤◌}
use native.Mathlib.Omega.{arith}
use lib.Dec.{eqb, ltb}
use lib.ListN.{length, get_or, length-set, length-append, get_or-append}
use lib.Seq.{get_or-append-add}
use borrow.Author.Tests.{eq-eqb, ne_eqb, eqb-true, eqb-false, lt-ltb, le-ltb, ltb-true, ltb-false}
use Rattle.laws.specs.Choice.{◌and◌, pick}
use Rattle.laws.proofs.Choice.{Tested, holds, fails, tested, pick_no, and_right}
use Rattle.state.specs.State.{Session, Tally}
use Rattle.session.specs.Step.{still_open, completed, refused as denied, step_of}
use Rattle.session.specs.Step as stream
use Rattle.replay.specs.State.{OpenRecord, WordRefused, Replay}
use Rattle.replay.specs.Step.{Reply, taken, refused, Stepped, opening, stopping, taking, is_kind, of_kind, kind_step, with_byte, number_from}
use Rattle.replay.specs.Step.{noted, noted_reply, after_word, may_begin, marked, after_midnight, midnight_step}
use Rattle.replay.specs.Report.{mark_at}
use Rattle.replay.proofs.Marks.{mark_new, mark_old}
use Rattle.replay.proofs.Midnights.{few, enough}
use Rattle.station_log.specs.Bytes.{record_step, open_step, byte_step}
use Rattle.station_log.specs.Feed.{Fed, proceed, replay_of}
use Rattle.trim.specs.Trim.{cut_before}
use Rattle.trim.specs.Free.{fewer_than, roomy_after, roomy_midnight, roomy_record, roomy_open, roomy_byte, roomy_of, Follows}

-- the marks of a replay with any room, and those of one midnight more
module _ (marks : List ℕ) (m : ℕ) (t : Tally) (size : length marks ≡ 2 * m) where
  abbrev longer : List ℕ
  longer = marks ++ (t.runs ∷ t.claims ∷ [])

  old_mark : (k : ℕ) → k < m → mark_at longer k ≡ mark_at marks k
  old_mark k h =
      λ j.
      record {
        runs = get_or-append marks (t.runs ∷ t.claims ∷ []) 0 (2 * k) (omega (arith, size)) j;
        claims = get_or-append marks (t.runs ∷ t.claims ∷ []) 0 (2 * k + 1) (omega (arith, size)) j;
      }

  new_mark : mark_at longer m ≡ t
  new_mark =
      let low : 2 * m ≡ length marks + 0 = omega (arith, size) in
      let high : 2 * m + 1 ≡ length marks + 1 = omega (arith, size) in
      λ j.
      record {
        runs = (ap (λ (n : ℕ). get_or longer n 0) low ∙ get_or-append-add marks (t.runs ∷ t.claims ∷ []) 0 0) j;
        claims = (ap (λ (n : ℕ). get_or longer n 0) high ∙ get_or-append-add marks (t.runs ∷ t.claims ∷ []) 1 0) j;
      }

-- a later replay: the midnights only grow, and the first day stays
abbrev pub Later : Replay → Replay → Type 0
Later q u = 0 < q.midnights → (q.midnights ≤ u.midnights) × (u.last_day + q.midnights ≡ q.last_day + u.midnights)

same_later : (q : Replay) → Later q q
same_later q h = (omega arith, refl)

midnight_later : (q : Replay) (day : ℕ) → may_begin q.midnights q.last_day day ≡ true → Later q (after_midnight q day)
unfolding after_midnight may_begin
midnight_later q day m h =
    let next : day ≡ q.last_day + 1 = eqb-true _ _ (sym (pick_no _ _ (ne_eqb q.midnights 0 (λ z. omega arith))) ∙ and_right _ _ m) in
    (omega arith, omega arith)

later_on : (q u v : Replay) → Later q u → Later u v → Later q v
later_on q u v a b h =
    let x = a h in
    let y = b (omega (arith, x.0)) in
    (omega (arith, x.0, y.0), omega (arith, x.1, y.1))

module _ (cut : ℕ) where
  abbrev room : ℕ → Bool
  room = fewer_than (cut + 400)

  -- a step's answers
  record Steps (q : Replay) (t u : Stepped) : Type 0 where
    reply : t.reply ≡ u.reply
    replay : Follows cut t.replay u.replay
    later : Later q u.replay

  -- the answers to a piece
  pub record Alike (q : Replay) (f g : Fed) : Type 0 where
    pub taken : f.taken ≡ g.taken
    pub refusal : f.refusal ≡ g.refusal
    pub replay : Follows cut f.replay g.replay
    pub later : Later q g.replay

  either_way : (q : Replay) (b c : Bool) → b ≡ c → (t u v w : Stepped) → (c ≡ true → Steps q t v) → Steps q u w →
      Steps q (pick b t u) (pick c v w)
  either_way q b c e t u v w x y = subst (λ (d : Bool). Steps q (pick d t u) (pick c v w)) (sym e) (go c x)
    where
      go : (d : Bool) → (d ≡ true → Steps q t v) → Steps q (pick d t u) (pick d v w)
      go true z = unfold pick in z refl
      go false z = unfold pick in y

  -- a refused word is noted at the same place from the first kept midnight on
  noted_cut : (n m k : ℕ) (f : WordRefused) → m - cut ≡ k → cut_before cut (noted n m f) ≡ noted n k (cut_before cut f)
  noted_cut n m k f e = go (eqb f.number 0)
    where
      go : (t : Bool) →
          cut_before cut (pick t (record { number = n; midnights = m }) f) ≡ pick t (record { number = n; midnights = k }) (cut_before cut f)
      go true = unfold pick in λ j. record { number = n; midnights = e j }
      go false = unfold pick in refl

  noted_reply_lem : (y : stream.Reply) (m k : ℕ) (f : WordRefused) → m - cut ≡ k →
      cut_before cut (noted_reply y m f) ≡ noted_reply y k (cut_before cut f)
  noted_reply_lem still_open m k f e = refl
  noted_reply_lem (completed c) m k f e = refl
  noted_reply_lem (denied n) m k f e = noted_cut n m k f e

  module _ (r q : Replay) (e : Follows cut r q) where
    -- steps that begin no day change the session, the open record, the stop and the refused word alone
    within : (s s' : Session) (o p : OpenRecord) (n k : ℕ) (f g : WordRefused) → s ≡ s' → o ≡ p → n ≡ k → cut_before cut f ≡ g →
        Follows cut
        (record { session = s; opened = o; stopped_by = n; refused = f; midnights = r.midnights; last_day = r.last_day; marks = r.marks })
        (record { session = s'; opened = p; stopped_by = k; refused = g; midnights = q.midnights; last_day = q.last_day; marks = q.marks })
    within s s' o p n k f g a b c d =
        record {
          session = a;
          opened = b;
          stopped_by = c;
          refused = d;
          midnights = e.midnights;
          some = e.some;
          most = e.most;
          last_day_lem = e.last_day_lem;
          days_number = e.days_number;
          long_room = e.long_room;
          room = e.room;
          marks = e.marks;
        }

    by_opening : (o p : OpenRecord) → o ≡ p → Steps q (taking (opening o r)) (taking (opening p q))
    by_opening o p k = record { reply = refl; replay = within _ _ o p _ _ _ _ e.session k e.stopped_by e.refused; later = same_later q }

    by_stopping : (n : ℕ) → Steps q (stopping r n) (stopping q n)
    by_stopping n = record { reply = refl; replay = within _ _ _ _ n n _ _ e.session refl refl e.refused; later = same_later q }

    by_word : (w : ℕ) → Steps q (taking (after_word r w)) (taking (after_word q w))
    unfolding after_word
    by_word w =
        record {
          reply = refl;
          replay =
              within _ _ _ _ _ _ _ _ (ap (λ (s : Session). (step_of s w).session) e.session) refl e.stopped_by
              (noted_reply_lem (step_of r.session w).reply r.midnights q.midnights r.refused (omega (arith, e.midnights)) ∙
              ap₂ (λ (s : Session) (f : WordRefused). noted_reply (step_of s w).reply q.midnights f) e.session e.refused);
          later = same_later q;
        }

    abbrev now : Tally
    now = r.session.party.tally

    abbrev now' : Tally
    now' = q.session.party.tally

    new_marks : q.midnights < 400 → (k : ℕ) → k < q.midnights + 1 →
        mark_at (longer r.marks r.midnights now e.long_room) (cut + k) ≡ mark_at (marked q.marks q.midnights now') k
    new_marks less k h = go (tested (eqb k q.midnights))
      where
        go : Tested (eqb k q.midnights) →
            mark_at (longer r.marks r.midnights now e.long_room) (cut + k) ≡ mark_at (marked q.marks q.midnights now') k
        go (holds z) =
            let is : k ≡ q.midnights = eqb-true _ _ z in
            ap (mark_at (longer r.marks r.midnights now e.long_room)) (omega (arith, e.midnights)) ∙
            new_mark r.marks r.midnights now e.long_room ∙ ap (λ (s : Session). s.party.tally) e.session ∙
            sym
            (ap (mark_at (marked q.marks q.midnights now')) is ∙ mark_new q.marks q.midnights now' (omega (arith, e.room)))
        go (fails z) =
            let isnt : k ≡ q.midnights → ⊥ = eqb-false _ _ z in
            old_mark r.marks r.midnights now e.long_room (cut + k) (omega (arith, e.midnights)) ∙
            e.marks k (omega arith) ∙ sym (mark_old q.marks q.midnights now' k isnt)

    after_midnight_lem : (d : ℕ) → q.midnights < 400 → q.midnights ≤ d → Follows cut (roomy_after r d) (after_midnight q d)
    unfolding after_midnight
    after_midnight_lem d less h =
        record {
          session = e.session;
          opened = refl;
          stopped_by = e.stopped_by;
          refused = e.refused;
          midnights = omega (arith, e.midnights);
          some = λ z. omega arith;
          most = omega arith;
          last_day_lem = refl;
          days_number = omega arith;
          long_room = length-append r.marks (now.runs ∷ now.claims ∷ []) ∙ two (length r.marks) r.midnights e.long_room;
          room = simp length-set e.room;
          marks = new_marks less;
        }
      where
        two : (a b : ℕ) → a ≡ 2 * b → a + 2 ≡ 2 * (b + 1)
        two a b z = omega arith

    -- both have room, or neither
    room_same : room r.midnights ≡ ltb q.midnights 400
    room_same = go (tested (ltb q.midnights 400))
      where
        go : Tested (ltb q.midnights 400) → room r.midnights ≡ ltb q.midnights 400
        go (holds l) = lt-ltb r.midnights (cut + 400) (omega (arith, e.midnights, ltb-true q.midnights 400 l)) ∙ sym l
        go (fails l) = le-ltb r.midnights (cut + 400) (omega (arith, e.midnights, ltb-false q.midnights 400 l)) ∙ sym l

    -- and it is the first midnight of both, or of neither: one that midnights were cut from has some
    first_same : eqb r.midnights 0 ≡ eqb q.midnights 0
    first_same = go (tested (eqb q.midnights 0)) (tested (ltb 0 cut))
      where
        go : Tested (eqb q.midnights 0) → Tested (ltb 0 cut) → eqb r.midnights 0 ≡ eqb q.midnights 0
        go (fails z) t =
            let some : q.midnights ≡ 0 → ⊥ = eqb-false _ _ z in
            ne_eqb r.midnights 0 (λ x. some (omega (arith, e.midnights))) ∙ sym z
        go (holds z) (fails l) =
            eq-eqb r.midnights 0 (omega (arith, e.midnights, eqb-true q.midnights 0 z, ltb-false 0 cut l)) ∙ sym z
        go (holds z) (holds l) = absurd (clash (eqb-true _ _ z) (e.some (ltb-true _ _ l)))
          where
            clash : q.midnights ≡ 0 → 0 < q.midnights → ⊥
            clash x y = omega arith

    by_midnight : (d : ℕ) → Steps q (roomy_midnight room r d) (midnight_step q d)
    unfolding roomy_midnight midnight_step
    by_midnight d =
        either_way q _ _ may_same _ _ _ _
        (λ m.
        record {
          reply = refl;
          replay = after_midnight_lem d (few q.midnights q.last_day d m) (late (enough q.midnights q.last_day d m e.days_number));
          later = midnight_later q d m;
        })
        (by_stopping 19)
      where
        may_same : (room r.midnights and pick (eqb r.midnights 0) true (eqb d (r.last_day + 1))) ≡ may_begin q.midnights q.last_day d
        may_same = unfold may_begin in λ j. room_same j and pick (first_same j) true (eqb d (e.last_day_lem j + 1))

        late : q.midnights + 1 ≤ d + 1 → q.midnights ≤ d
        late h = omega arith

    by_record : (kind number : ℕ) → Steps q (roomy_record room kind r number) (record_step kind q number)
    unfolding roomy_record record_step
    by_record kind number = either_way q (eqb kind 1) (eqb kind 1) refl _ _ _ _ (λ z. by_word number) (by_midnight number)

    by_kind_lem : (b : ℕ) → Steps q (kind_step r b) (kind_step q b)
    unfolding kind_step
    by_kind_lem b = either_way q (is_kind b) (is_kind b) refl _ _ _ _ (λ z. by_opening (of_kind b) (of_kind b) refl) (by_stopping 18)

    by_open : (b : ℕ) → Steps q (roomy_open room r b) (open_step q b)
    unfolding roomy_open open_step
    by_open b =
        either_way q _ _ (ap (λ (o : OpenRecord). ltb o.count 4) e.opened) _ _ _ _
        (λ z. by_opening _ _ (ap (λ (o : OpenRecord). with_byte o b) e.opened))
        (subst
        (λ (o : OpenRecord).
        Steps q (roomy_record room r.opened.kind r (number_from r.opened.low r.opened.second r.opened.third b))
        (record_step o.kind q (number_from o.low o.second o.third b)))
        e.opened
        (by_record r.opened.kind (number_from r.opened.low r.opened.second r.opened.third b)))

    by_byte : (b : ℕ) → Steps q (roomy_byte room r b) (byte_step q b)
    unfolding roomy_byte byte_step
    by_byte b =
        either_way q _ _ (ap (λ (n : ℕ). eqb n 0) e.stopped_by) _ _ _ _
        (λ z. either_way q _ _ (ap (λ (o : OpenRecord). eqb o.count 0) e.opened) _ _ _ _ (λ y. by_kind_lem b) (by_open b))
        (record { reply = ap refused e.stopped_by; replay = e; later = same_later q })

  -- a byte, then the rest
  go_on : (q : Replay) (t u : Stepped) (f g : Fed) → Steps q t u → Alike u.replay f g →
      Alike q (proceed t.reply t.replay f) (proceed u.reply u.replay g)
  go_on q t u f g s rest =
      subst (λ (x : Reply). Alike q (proceed t.reply t.replay f) (proceed x u.replay g)) s.reply (by_reply t.reply)
    where
      by_reply : (x : Reply) → Alike q (proceed x t.replay f) (proceed x u.replay g)
      by_reply taken =
          unfold proceed in
          record {
            taken = ap (λ (n : ℕ). 1 + n) rest.taken;
            refusal = rest.refusal;
            replay = rest.replay;
            later = later_on q u.replay g.replay s.later rest.later;
          }
      by_reply (refused n) = unfold proceed in record { taken = refl; refusal = refl; replay = s.replay; later = s.later }

  pub pieces_alike : (bytes : List ℕ) (r q : Replay) → Follows cut r q → Alike q (roomy_of room r bytes) (replay_of q bytes)
  unfolding roomy_of replay_of
  pieces_alike [] r q e = record { taken = refl; refusal = refl; replay = e; later = same_later q }
  pieces_alike (b ∷ bs) r q e =
      let s = by_byte r q e b in
      go_on q (roomy_byte room r b) (byte_step q b) (roomy_of room (roomy_byte room r b).replay bs) (replay_of (byte_step q b).replay bs) s
      (pieces_alike bs (roomy_byte room r b).replay (byte_step q b).replay s.replay)
