-- A replay that forgets its past days, over a host's arrays: what trimming leaves may be handed in, and goes on as the replay that wasn't
-- trimmed. Assumes nothing.
use mathlib.Core.Path.{◌≡◌, sym, ap, ◌∙◌, subst}
use mathlib.Core.List.{List}
use Prim.Native.Nat.{ℕ, ◌+◌, ◌<◌, ◌≤◌}
use lib.ListN.{get_or}
use Rattle.session.specs.Feed.{first_status}
use Rattle.replay.specs.State.{Replay}
use Rattle.replay.specs.Cells.{ReplayHeld, ReplayGiven}
use Rattle.replay.specs.Report.{part_at, day_at}
use Rattle.station_log.specs.Asked.{Bytes8}
use Rattle.station_log.specs.Feed.{Fed, replay_of}
use Rattle.station_log.proofs.Handed.{held_same}
use Rattle.station_log.proofs.Kept.{piece_valid}
use Rattle.log_rooms.specs.Pieces.{Arrays, replay_at, GivenAt, FedAt}
use Rattle.score.specs.Lease.{Lease}
use Rattle.score.specs.Score.{score_of}
use Rattle.trim.specs.Trim.{trimmed}
use Rattle.trim.specs.Laws.{NotFull}
use Rattle.trim.proofs.Cells.{trims_held}
use Rattle.trim.proofs.Kept.{trimmed_valid}
use Rattle.trim.proofs.Laws.{trim_same, trim_given}
use Rattle.demands.specs.Trims.{TrimmedAt, SameAfter, HadRoom}

-- the session's arrays are as they were
module _ (P : List ℕ → List ℕ → List ℕ → Type 0) {a : Arrays} {r : ℕ} {a' : Arrays} (c : TrimmedAt a r a') where
  beside : P a.own a.tallies a.shared → P a'.own a'.tallies a'.shared
  beside p =
      subst (λ (x : List ℕ). P a'.own a'.tallies x) (sym c.shared)
      (subst (λ (x : List ℕ). P a'.own x a.shared) (sym c.tallies) (subst (λ (x : List ℕ). P x a.tallies a.shared) (sym c.own) p))

module _ {a : Arrays} (g : GivenAt a) {r : ℕ} {a' : Arrays} (c : TrimmedAt a r a') where
  pub trimmed_given : GivenAt a'
  trimmed_given = beside (λ o t s. ReplayGiven a'.log a'.marks o t s) c (trim_given g c.crosses.left)

  trimmed_held : ReplayHeld (trimmed (replay_at a)) a'.log a'.marks a'.own a'.tallies a'.shared
  trimmed_held = beside (λ o t s. ReplayHeld (trimmed (replay_at a)) a'.log a'.marks o t s) c (trims_held g c.crosses.left)

  -- the arrays are those of the trimmed replay
  pub trimmed_view : replay_at a' ≡ trimmed (replay_at a)
  trimmed_view =
      held_same (trimmed (replay_at a)) (trimmed_valid (replay_at a) g.valid) a'.log a'.marks a'.own a'.tallies a'.shared
      trimmed_held

-- the replay in the arrays after a piece is the one that the definitions leave
fed_view : {a : Arrays} → GivenAt a → (bytes : List ℕ) → Bytes8 bytes → (status taken : ℕ) (e : Arrays) →
    FedAt (replay_of (replay_at a) bytes) status taken e → replay_at e ≡ (replay_of (replay_at a) bytes).replay
fed_view {a} g bytes small status taken e f =
    held_same (replay_of (replay_at a) bytes).replay (piece_valid (replay_at a) g.valid bytes small) e.log e.marks e.own
    e.tallies e.shared f.held

module _ {a : Arrays} (g : GivenAt a) (some : 0 < (replay_at a).midnights) {r : ℕ} {a' : Arrays} (c : TrimmedAt a r a')
    (bytes : List ℕ) (small : Bytes8 bytes) (status taken : ℕ) (e : Arrays) (f : FedAt (replay_of (replay_at a) bytes) status taken e)
    (status' taken' : ℕ) (e' : Arrays) (f' : FedAt (replay_of (replay_at a') bytes) status' taken' e')
  where
    abbrev long : Fed
    long = replay_of (replay_at a) bytes

    abbrev short : Fed
    short = replay_of (trimmed (replay_at a)) bytes

    long_view : replay_at e ≡ long.replay
    long_view = fed_view g bytes small status taken e f

    short_is : replay_of (replay_at a') bytes ≡ short
    short_is = ap (λ (x : Replay). replay_of x bytes) (trimmed_view g c)

    short_view : replay_at e' ≡ short.replay
    short_view = fed_view (trimmed_given g c) bytes small status' taken' e' f' ∙ ap (λ (x : Fed). x.replay) short_is

    room : HadRoom status e → NotFull long
    room h x y = h (f.status ∙ ap first_status x) (ap (λ (x : Replay). x.midnights) long_view ∙ y)

    -- what holds of the two replays holds of those in the arrays
    in_arrays : (P : Replay → Replay → Type 0) → P long.replay short.replay → P (replay_at e) (replay_at e')
    in_arrays P p = subst (P (replay_at e)) (sym short_view) (subst (λ (x : Replay). P x short.replay) (sym long_view) p)

    -- the only number of a room
    abbrev only : List ℕ → ℕ
    only l = get_or l 0 0

    pub trimmed_goes_on : HadRoom status e → SameAfter (replay_at a).midnights (replay_at a).last_day status taken e status' taken' e'
    trimmed_goes_on h =
        let m : ℕ = (replay_at a).midnights in
        let s = trim_same (replay_at a) g.valid some bytes (room h) in
        record {
          statuses = f'.status ∙ ap first_status (ap (λ (x : Fed). x.refusal) short_is ∙ s.refusal) ∙ sym f.status;
          taken_too = ap only f'.room ∙ ap (λ (x : Fed). x.taken) short_is ∙ s.taken ∙ sym (ap only f.room);
          parts = in_arrays (λ x y. (k : ℕ) → k + 1 ≤ y.midnights → part_at y (k + 1) ≡ part_at x (m + k)) s.parts;
          days = in_arrays (λ x y. (k : ℕ) → k + 1 ≤ y.midnights → day_at y (k + 1) ≡ day_at x (m + k)) s.days;
          scores =
              in_arrays (λ x y. (l : Lease) → (replay_at a).last_day ≤ l.first_day → score_of l y ≡ score_of l x) s.scores;
        }
