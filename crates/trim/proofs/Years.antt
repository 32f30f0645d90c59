-- Over the years: a replay that is trimmed from time to time answers as a replay with room for any number of midnights, and its parts and
-- scores from its first midnight on are that one's. Assumes nothing.
use mathlib.Core.Path.{◌≡◌, refl, sym, ap, ◌∙◌, subst}
use mathlib.Core.Bool.{Bool}
use mathlib.Core.List.{List, [], ◌∷◌, ◌++◌}
use Prim.Native.Nat.{ℕ, ◌+◌, ◌-◌, ◌<◌, ◌≤◌}
use native.Mathlib.Omega.{arith}
use lib.ListN.{length-replicate}
use borrow.Author.Tests.{ne_eqb, eqb-false, ltb-false}
use Rattle.laws.proofs.Choice.{pick_no, by_pick}
use Rattle.replay.specs.State.{Replay, new_replay, marks_length}
use Rattle.replay.specs.Step.{Reply, taken, refused, Stepped, stopping, taking, kind_step}
use Rattle.replay.specs.Report.{mark_at, part_at, first_day}
use Rattle.station_log.specs.Feed.{Fed, proceed, replay_of}
use Rattle.trim.specs.Trim.{cut_before, trimmed}
use Rattle.trim.specs.Same.{Shared}
use Rattle.trim.specs.Free.{roomy_midnight, roomy_record, roomy_open, roomy_byte, roomy_of, fewer_than, any_number, free_of, new_free}
use Rattle.trim.specs.Free.{Follows, Behind, by, Keeps, same, full, Years, begun, fed, trim, AsFree}
use Rattle.trim.specs.Laws.{NotFull}
use Rattle.trim.proofs.Alike.{Alike, pieces_alike}
use Rattle.trim.proofs.Rooms.{Fits, in_both, in_large, pieces_fit}
use Rattle.trim.proofs.Kept.{trim_follows}
use Rattle.trim.proofs.Parts.{part_same, part_before}
use Rattle.trim.proofs.Scores.{score_same}

-- whatever bytes come, both answer the same, or the one with room for 400 midnights since it was trimmed is full
module _ (cut : ℕ) (bytes : List ℕ) (r q : Replay) (e : Follows cut r q) where
  abbrev small : ℕ → Bool
  small = fewer_than (cut + 400)

  alike : Alike cut q (roomy_of small r bytes) (replay_of q bytes)
  alike = pieces_alike cut bytes r q e

  pub pieces_keep : Keeps cut (free_of r bytes) (replay_of q bytes)
  pieces_keep = go (pieces_fit small any_number (λ m h. refl) bytes r)
    where
      go : Fits small any_number (λ m h. refl) (roomy_of small r bytes) (free_of r bytes) → Keeps cut (free_of r bytes) (replay_of q bytes)
      go (in_both x) =
          same (ap (λ (f : Fed). f.taken) (sym x) ∙ alike.taken) (ap (λ (f : Fed). f.refusal) (sym x) ∙ alike.refusal)
          (subst (λ (f : Fed). Follows cut f.replay (replay_of q bytes).replay) x alike.replay)
      go (in_large x y z) =
          full (sym alike.refusal ∙ x)
          (omega (arith, alike.replay.midnights, alike.replay.most, ltb-false (roomy_of small r bytes).replay.midnights (cut + 400) y))
          (omega (arith, alike.taken, z))

-- a byte that is refused leaves a stopped replay
abbrev Stops : Reply → Replay → Type 0
Stops y u = (n : ℕ) → y ≡ refused n → u.stopped_by ≡ 0 → ⊥

record StopsBy (t : Stepped) : Type 0 where
  stops : Stops t.reply t.replay

by_taking : (u : Replay) → StopsBy (taking u)
by_taking u = record { stops = λ n e z. clash n e }
  where
    clash : (n : ℕ) → taken ≡ refused n → ⊥
    clash n e = let x : ◌≡◌ {A = ℕ} 0 1 = cc in omega arith

by_stopping : (r : Replay) (n : ℕ) → (n ≡ 0 → ⊥) → StopsBy (stopping r n)
by_stopping r n h = record { stops = λ m e z. h z }

by_stopped : (r : Replay) → (r.stopped_by ≡ 0 → ⊥) → StopsBy (record { reply = refused r.stopped_by; replay = r })
by_stopped r h = record { stops = λ m e z. h z }

byte_stops : (r : Replay) (b : ℕ) → StopsBy (roomy_byte any_number r b)
unfolding roomy_byte kind_step roomy_open roomy_record roomy_midnight
byte_stops r b =
    by_pick StopsBy _ _ _
    (λ a.
    by_pick StopsBy _ _ _ (λ c. by_pick StopsBy _ _ _ (λ d. by_taking _) (λ d. by_stopping r 18 (λ z. omega arith)))
    (λ c.
    by_pick StopsBy _ _ _ (λ d. by_taking _)
    (λ d.
    by_pick StopsBy _ _ _ (λ e. by_taking _)
    (λ e. by_pick StopsBy _ _ _ (λ f. by_taking _) (λ f. by_stopping r 19 (λ z. omega arith))))))
    (λ a. by_stopped r (eqb-false _ _ a))

-- and that one stays as it is
stopped_stays : (r : Replay) (p : List ℕ) → (r.stopped_by ≡ 0 → ⊥) → (free_of r p).replay ≡ r
unfolding roomy_of
stopped_stays r [] h = refl
stopped_stays r (b ∷ bs) h =
    ap (λ (t : Stepped). (proceed t.reply t.replay (roomy_of any_number t.replay bs)).replay) same_again ∙ unfold proceed in refl
  where
    same_again : roomy_byte any_number r b ≡ record { reply = refused r.stopped_by; replay = r }
    same_again = unfold roomy_byte in pick_no _ _ (ne_eqb r.stopped_by 0 h)

then_on : (y : Reply) (u : Replay) → Stops y u → (f g : Fed) (p : List ℕ) → g.replay ≡ (free_of f.replay p).replay →
    (proceed y u g).replay ≡ (free_of (proceed y u f).replay p).replay
unfolding proceed
then_on taken u s f g p rest = rest
then_on (refused n) u s f g p rest = sym (stopped_stays u p (s n refl))

-- so bytes and then more leave what all of them leave
free_cut : (bs p : List ℕ) (r : Replay) → (free_of r (bs ++ p)).replay ≡ (free_of (free_of r bs).replay p).replay
unfolding roomy_of
free_cut [] p r = refl
free_cut (b ∷ bs) p r =
    let t = roomy_byte any_number r b in
    then_on t.reply t.replay (byte_stops r b).stops (free_of t.replay bs) (free_of t.replay (bs ++ p)) p (free_cut bs p t.replay)

-- over the years: pieces, and trims between them
pub years_follow : (r q0 : Replay) → Behind r q0 → (bytes : List ℕ) (q : Replay) → Years q0 bytes q → Behind (free_of r bytes).replay q
years_follow r q0 w bytes q begun = unfold roomy_of in w
years_follow r q0 w bytes q (fed bs x y p h) = go (years_follow r q0 w bs x y)
  where
    more : (cut : ℕ) → Keeps cut (free_of (free_of r bs).replay p) (replay_of x p) → Behind (free_of r (bs ++ p)).replay (replay_of x p).replay
    more cut (same a b c) = by cut (subst (λ (u : Replay). Follows cut u (replay_of x p).replay) (sym (free_cut bs p r)) c)
    more cut (full a b c) = absurd (h a b)

    go : Behind (free_of r bs).replay x → Behind (free_of r (bs ++ p)).replay (replay_of x p).replay
    go (by cut f) = more cut (pieces_keep cut p (free_of r bs).replay x f)
years_follow r q0 w bytes q (trim bs x y) = go (years_follow r q0 w bs x y)
  where
    go : Behind (free_of r bs).replay x → Behind (free_of r bs).replay (trimmed x)
    go (by cut f) = trim_follows f

-- and the answers to a piece are the free replay's
pub behind_answers : {r q : Replay} → Behind r q → (p : List ℕ) → NotFull (replay_of q p) →
    ((replay_of q p).taken ≡ (free_of r p).taken) × ((replay_of q p).refusal ≡ (free_of r p).refusal)
behind_answers {r} {q} (by cut f) p h = go (pieces_keep cut p r q f)
  where
    go : Keeps cut (free_of r p) (replay_of q p) → ((replay_of q p).taken ≡ (free_of r p).taken) × ((replay_of q p).refusal ≡ (free_of r p).refusal)
    go (same a b c) = (sym a, sym b)
    go (full a b c) = absurd (h a b)

-- and its parts and scores are the free replay's
follows_shared : {cut : ℕ} {r q : Replay} → Follows cut r q → 0 < q.midnights → Shared cut (q.last_day + 1 - q.midnights) r q
follows_shared f some =
    record {
      session = f.session;
      stopped_by = f.stopped_by;
      midnights = f.midnights;
      some = some;
      last_day_lem = f.last_day_lem;
      first_day_lem = omega (arith, f.days_number);
      marks = f.marks;
    }

first_is : (midnights last : ℕ) → 0 < midnights → first_day midnights last ≡ last + 1 - midnights
unfolding first_day
first_is midnights last h = pick_no _ _ (ne_eqb midnights 0 (λ z. omega arith))

pub as_free : {r q : Replay} → Behind r q → AsFree r q
as_free {r} {q} (by cut f) =
    let forgotten : r.midnights - q.midnights ≡ cut = omega (arith, f.midnights) in
    record {
      session = sym f.session;
      opened = sym f.opened;
      stopped_by = sym f.stopped_by;
      refused = sym (ap (λ (n : ℕ). cut_before n r.refused) forgotten ∙ f.refused);
      last_day_lem = sym f.last_day_lem;
      fewer = omega (arith, f.midnights);
      parts =
          λ k h le.
          sym (ap (λ (n : ℕ). part_at r (n + k)) forgotten ∙ part_same (follows_shared f (omega arith)) k h le);
      days = λ k h le. omega (arith, f.midnights, f.last_day_lem);
      before = λ some. part_before (follows_shared f some) ∙ ap (mark_at r.marks) (sym forgotten);
      scores =
          λ some l h.
          sym
          (score_same (follows_shared f some) l
          (subst (λ (n : ℕ). n ≤ l.first_day) (first_is q.midnights q.last_day some) h));
    }

-- a new replay follows a new one with room for any number
pub new_follows : (edition : ℕ) → Behind (new_free edition) (new_replay edition)
new_follows edition =
    by 0
    (record {
      session = refl;
      opened = refl;
      stopped_by = refl;
      refused = refl;
      midnights = refl;
      some = λ z. z;
      most = omega arith;
      last_day_lem = refl;
      days_number = omega arith;
      long_room = refl;
      room = length-replicate {A = ℕ} marks_length 0;
      marks = λ k h. absurd (let z : ⊥ = omega arith in z);
    })

-- and until its 401st midnight a replay that is never trimmed is that one
pub free_is : (edition : ℕ) (bytes : List ℕ) → Keeps 0 (free_of (new_free edition) bytes) (replay_of (new_replay edition) bytes)
free_is edition bytes = go (new_follows edition)
  where
    go : Behind (new_free edition) (new_replay edition) → Keeps 0 (free_of (new_free edition) bytes) (replay_of (new_replay edition) bytes)
    go (by cut f) =
        let none : cut ≡ 0 = omega (arith, f.midnights) in
        subst (λ (n : ℕ). Keeps n (free_of (new_free edition) bytes) (replay_of (new_replay edition) bytes)) none
        (pieces_keep cut bytes (new_free edition) (new_replay edition) f)
