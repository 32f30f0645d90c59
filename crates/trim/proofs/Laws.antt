-- A replay that is trimmed goes on as the replay that wasn't, from its last midnight on, until that one is full; trimming earlier
-- changes nothing of what trimming later leaves; and the trimmed one may be handed in. Assumes nothing.
use mathlib.Core.Path.{◌≡◌, refl, sym, ap, ◌∙◌, subst}
use mathlib.Core.Bool.{Bool, true}
use mathlib.Core.List.{List}
use Prim.Native.Nat.{ℕ, ◌+◌, ◌-◌, ◌*◌, ◌<◌, ◌≤◌}
use native.Mathlib.Omega.{arith}
use lib.ListN.{length, get_or, take, drop, take-append-drop, get_or-append}
use lib.Seq.{length-take-le}
use borrow.Author.Tests.{lt-ltb, ltb-true, ltb-false}
use Rattle.replay.specs.State.{Replay}
use Rattle.replay.specs.Report.{mark_at, part_at}
use Rattle.replay.specs.Cells.{replay_in, ReplayValid, ReplayGiven}
use Rattle.station_log.specs.Feed.{Fed, replay_of}
use Rattle.station_log.proofs.Handed.{held_given}
use Rattle.judges.specs.Judged.{Judges}
use Rattle.trim.specs.Trim.{cut_before, only_mark, last_only, trimmed}
use Rattle.trim.specs.Same.{Without, Shared, Answers, same, full}
use Rattle.trim.specs.Free.{fewer_than, roomy_of, Follows}
use Rattle.trim.specs.Laws.{NotFull, SameFrom}
use Rattle.trim.specs.Left.{Trims}
use Rattle.trim.proofs.Alike.{Alike, pieces_alike}
use Rattle.trim.proofs.Rooms.{Fits, in_both, in_large, pieces_fit}
use Rattle.trim.proofs.Cells.{trims_held}
use Rattle.trim.proofs.Kept.{trimmed_is, trimmed_valid, last_follows}
use Rattle.trim.proofs.Parts.{part_same, part_before}
use Rattle.trim.proofs.Scores.{score_same, claimed_forgotten}

shared : {cut day : ℕ} {r q : Replay} → Without cut day r q → Shared cut day r q
shared w =
    record {
      session = w.session;
      stopped_by = w.stopped_by;
      midnights = w.midnights;
      some = w.some;
      last_day_lem = w.last_day_lem;
      first_day_lem = w.first_day_lem;
      marks = w.marks;
    }

-- a valid replay follows the one that has its midnights and any room
module _ (r : Replay) (v : ReplayValid r) where
  abbrev come : ℕ
  come = 2 * r.midnights

  abbrev unbounded : Replay
  unbounded =
      record {
        session = r.session;
        opened = r.opened;
        stopped_by = r.stopped_by;
        refused = r.refused;
        midnights = r.midnights;
        last_day = r.last_day;
        marks = take come r.marks;
      }

  fits : length (take come r.marks) ≡ come
  fits = length-take-le come r.marks (omega (arith, v.marks_length_lem, v.midnights_most))

  kept_number : (k : ℕ) → k < come → get_or (take come r.marks) k 0 ≡ get_or r.marks k 0
  kept_number k h =
      sym (get_or-append (take come r.marks) (drop come r.marks) 0 k (omega (arith, fits))) ∙
      ap (λ (l : List ℕ). get_or l k 0) (take-append-drop come r.marks)

  follows_all : Follows 0 unbounded r
  follows_all =
      record {
        session = refl;
        opened = refl;
        stopped_by = refl;
        refused = λ j. record { number = r.refused.number; midnights = none_less r.refused.midnights j };
        midnights = omega arith;
        some = λ z. absurd (let x : ⊥ = omega arith in x);
        most = v.midnights_most;
        last_day_lem = refl;
        days_number = v.days_number;
        long_room = fits;
        room = v.marks_length_lem;
        marks =
            λ k h.
            ap (mark_at (take come r.marks)) (let z : 0 + k ≡ k = omega arith in z) ∙
            (λ j. record { runs = kept_number (2 * k) (omega arith) j; claims = kept_number (2 * k + 1) (omega arith) j });
      }
    where
      none_less : (n : ℕ) → n - 0 ≡ n
      none_less n = omega arith

-- of two that follow the same, the one that more midnights are cut from is the other without those
cut_more : {more day : ℕ} {r q u : Replay} → Follows 0 u r → Follows more u q → 0 < q.midnights → q.last_day + 1 ≡ day + q.midnights →
    Without more day r q
cut_more {more} {day} {r} {q} {u} a b some days =
    record {
      session = sym a.session ∙ b.session;
      opened = sym a.opened ∙ b.opened;
      stopped_by = sym a.stopped_by ∙ b.stopped_by;
      refused =
          ap (cut_before more) (sym a.refused) ∙
          (λ j. record { number = u.refused.number; midnights = place u.refused.midnights j }) ∙ b.refused;
      midnights = omega (arith, a.midnights, b.midnights);
      some = some;
      most = a.most;
      last_day_lem = sym a.last_day_lem ∙ b.last_day_lem;
      first_day_lem = days;
      long_room = a.room;
      room = b.room;
      marks =
          λ k h.
          sym (a.marks (more + k) (omega (arith, a.midnights, b.midnights))) ∙
          ap (mark_at u.marks) (let z : 0 + (more + k) ≡ more + k = omega arith in z) ∙ b.marks k h;
    }
  where
    place : (n : ℕ) → n - 0 - more ≡ n - more
    place n = omega arith

module _ (r : Replay) (v : ReplayValid r) (some : 0 < r.midnights) (bytes : List ℕ) where
  abbrev long : Fed
  long = replay_of r bytes

  abbrev short : Fed
  short = replay_of (trimmed r) bytes

  abbrev more : ℕ
  more = r.midnights - 1

  by_all : Alike 0 r (roomy_of (fewer_than (0 + 400)) (unbounded r v) bytes) long
  by_all = pieces_alike 0 bytes (unbounded r v) r (follows_all r v)

  by_last : Alike more (trimmed r) (roomy_of (fewer_than (more + 400)) (unbounded r v) bytes) short
  by_last =
      pieces_alike more bytes (unbounded r v) (trimmed r)
      (subst (Follows more (unbounded r v)) (sym (trimmed_is r some))
      (subst (λ (n : ℕ). Follows n (unbounded r v) (last_only r)) (let z : 0 + more ≡ more = omega arith in z)
      (last_follows (follows_all r v) some)))

  first_stays : (0 < short.replay.midnights) × (short.replay.last_day + 1 ≡ r.last_day + short.replay.midnights)
  first_stays =
      let one : (trimmed r).midnights ≡ 1 = ap (λ (x : Replay). x.midnights) (trimmed_is r some) in
      let day : (trimmed r).last_day ≡ r.last_day = ap (λ (x : Replay). x.last_day) (trimmed_is r some) in
      let later = by_last.later (omega arith) in
      (omega (arith, later.0), omega (arith, later.1))

  larger : (m : ℕ) → fewer_than (0 + 400) m ≡ true → fewer_than (more + 400) m ≡ true
  larger m h = lt-ltb m (more + 400) (omega (arith, ltb-true m (0 + 400) h))

  -- whatever bytes come, both answer the same and stay the same but for the midnights that were cut, or the untrimmed replay has 400
  -- midnights and is refused one more, which the trimmed one takes
  pub trim_answers : Answers more r.last_day long short
  trim_answers = go (pieces_fit (fewer_than (0 + 400)) (fewer_than (more + 400)) larger bytes (unbounded r v))
    where
      go : Fits (fewer_than (0 + 400)) (fewer_than (more + 400)) larger (roomy_of (fewer_than (0 + 400)) (unbounded r v) bytes)
          (roomy_of (fewer_than (more + 400)) (unbounded r v) bytes) → Answers more r.last_day long short
      go (in_both e) =
          same (sym by_all.taken ∙ ap (λ (f : Fed). f.taken) e ∙ by_last.taken)
          (sym by_all.refusal ∙ ap (λ (f : Fed). f.refusal) e ∙ by_last.refusal)
          (cut_more (subst (λ (f : Fed). Follows 0 f.replay long.replay) e by_all.replay) by_last.replay first_stays.0
          first_stays.1)
      go (in_large a b c) =
          full (sym by_all.refusal ∙ a)
          (omega (
            arith,
            by_all.replay.midnights,
            by_all.replay.most,
            ltb-false (roomy_of (fewer_than (0 + 400)) (unbounded r v) bytes).replay.midnights (0 + 400) b,
          ))
          (omega (arith, by_all.taken, by_last.taken, c))

  from_same : Without (r.midnights - 1) r.last_day long.replay short.replay → long.taken ≡ short.taken →
      long.refusal ≡ short.refusal → SameFrom r.midnights r.last_day long short
  from_same w a b =
      record {
        taken = sym a;
        refusal = sym b;
        session = sym w.session;
        parts =
            λ k h. sym (part_same (shared w) (k + 1) (omega arith) h) ∙ ap (part_at long.replay) (omega arith);
        days = λ k h. omega (arith, w.midnights, w.last_day_lem);
        last = omega (arith, w.midnights);
        before = part_before (shared w);
        scores = λ l h. sym (score_same (shared w) l h);
        forgotten = claimed_forgotten (shared w);
      }

  -- so they go on alike where the untrimmed one isn't refused a midnight for want of room
  pub trim_same : NotFull long → SameFrom r.midnights r.last_day long short
  trim_same fits = go trim_answers
    where
      go : Answers (r.midnights - 1) r.last_day long short → SameFrom r.midnights r.last_day long short
      go (same a b w) = from_same w a b
      go (full a b c) = absurd (fits a b)

  -- in any case what the untrimmed one takes is taken
  pub trim_takes : long.taken ≤ short.taken
  trim_takes = go trim_answers
    where
      go : Answers (r.midnights - 1) r.last_day long short → long.taken ≤ short.taken
      go (same a b w) = omega arith
      go (full a b c) = omega arith

-- replays that differ in their first midnights alone are trimmed to the same replay
pub same_trimmed : {cut day : ℕ} {r q : Replay} → Without cut day r q → trimmed r ≡ trimmed q
same_trimmed {cut} {day} {r} {q} w =
    trimmed_is r (omega (arith, w.midnights, w.some)) ∙ trims ∙ sym (trimmed_is q w.some)
  where
    place : (f : ℕ) → f - (r.midnights - 1) ≡ f - cut - (q.midnights - 1)
    place f = omega (arith, w.midnights, w.some)

    refused_same : cut_before (r.midnights - 1) r.refused ≡ cut_before (q.midnights - 1) q.refused
    refused_same =
        (λ j. record { number = r.refused.number; midnights = place r.refused.midnights j }) ∙
        ap (cut_before (q.midnights - 1)) w.refused

    mark_same : mark_at r.marks (r.midnights - 1) ≡ mark_at q.marks (q.midnights - 1)
    mark_same =
        ap (mark_at r.marks) (omega (arith, w.midnights, w.some)) ∙ w.marks (q.midnights - 1) (omega (arith, w.some))

    trims : last_only r ≡ last_only q
    trims =
        λ j.
        record {
          session = w.session j;
          opened = w.opened j;
          stopped_by = w.stopped_by j;
          refused = refused_same j;
          midnights = 1;
          last_day = w.last_day_lem j;
          marks = only_mark (mark_same j);
        }

-- so a replay may be trimmed at any time: trimmed before a piece and after it, it is what it is trimmed after it alone
pub trim_any_time : (r : Replay) → ReplayValid r → 0 < r.midnights → (bytes : List ℕ) → NotFull (replay_of r bytes) →
    trimmed (replay_of (trimmed r) bytes).replay ≡ trimmed (replay_of r bytes).replay
trim_any_time r v some bytes fits = go (trim_answers r v some bytes)
  where
    go : Answers (r.midnights - 1) r.last_day (replay_of r bytes) (replay_of (trimmed r) bytes) →
        trimmed (replay_of (trimmed r) bytes).replay ≡ trimmed (replay_of r bytes).replay
    go (same a b w) = sym (same_trimmed w)
    go (full a b c) = absurd (fits a b)

-- what trimming leaves beside the session's arrays may be handed in, and the state check says yes
module _ {l m o t s : List ℕ} (g : ReplayGiven l m o t s) {l1 m1 : List ℕ} (h : Trims l m l1 m1) where
  pub trim_given : ReplayGiven l1 m1 o t s
  trim_given = held_given (trimmed (replay_in l m o t s)) (trimmed_valid (replay_in l m o t s) g.valid) l1 m1 o t s (trims_held g h)

  pub trim_taken : {yes : Bool} → Judges yes (ReplayGiven l1 m1 o t s) → yes ≡ true
  trim_taken j = j.complete trim_given
