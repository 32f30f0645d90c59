-- A station's replay over the years, by a host's calls: it is the replay with any room, from its first midnight on. Assumes nothing.
use mathlib.Core.Path.{◌≡◌, sym, ap, ◌∙◌, subst}
use mathlib.Core.Bool.{Bool, true}
use mathlib.Core.List.{List, [], ◌∷◌, ◌++◌}
use Prim.Native.Nat.{ℕ, zero, suc, ◌<◌, ◌≤◌}
use native.Mathlib.Omega.{arith}
use lib.ListN.{get_or}
use Rattle.session.specs.Feed.{first_status}
use Rattle.replay.specs.State.{Replay, new_replay}
use Rattle.replay.specs.Report.{first_day}
use Rattle.replay.specs.Cells.{ReplayHeld}
use Rattle.station_log.specs.Asked.{Bytes8}
use Rattle.station_log.specs.Feed.{Fed, replay_of}
use Rattle.station_log.proofs.Handed.{held_same}
use Rattle.station_log.proofs.Kept.{new_replay_valid, piece_valid}
use Rattle.log_rooms.specs.Pieces.{Arrays, replay_at, GivenAt, FedAt}
use Rattle.score.specs.Lease.{Lease}
use Rattle.score.specs.Score.{Score, score_of}
use Rattle.score_rooms.specs.Rooms.{MonthCrosses, ScoreCrosses}
use Rattle.judges.specs.Judged.{Judges}
use Rattle.trim.specs.Laws.{NotFull}
use Rattle.trim.specs.Free.{new_free, free_of, Behind, Years, AsFree}
use Rattle.trim.specs.Free as years
use Rattle.trim.proofs.Years.{years_follow, new_follows, behind_answers, as_free}
use Rattle.demands.specs.States as states
use Rattle.demands.specs.Trims.{HadRoom}
use Rattle.demands.specs.Years.{LogCalls, begun, piece, byte, trim, unlimited, AnswersAs}
use Rattle.demands.proofs.States.{replay_given, replay_taken}
use Rattle.demands.proofs.Trims.{trimmed_view}

-- the calls are a replay's, so what they leave may be handed in
calls_state : {edition : ℕ} {bytes : List ℕ} {a : Arrays} → LogCalls edition bytes a → states.Replay a
calls_state {edition} (begun known r a0 a h) = states.begun edition known r a0 a h
calls_state (piece bytes a c p small status taken a' f room) = states.piece (calls_state c) p status taken a' small f
calls_state (byte bytes a c b small status a' f room) = states.byte (calls_state c) b status a' small f
calls_state (trim bytes a c r a' t) = states.trim (calls_state c) r a' t

-- "the check takes what they leave"
pub years_judged : {edition : ℕ} {bytes : List ℕ} {a : Arrays} → LogCalls edition bytes a → {yes : Bool} → Judges yes (GivenAt a) → yes ≡ true
years_judged c j = replay_taken (calls_state c) j

one_byte : (b : ℕ) → b < 256 → Bytes8 (b ∷ [])
one_byte b h zero le = h
one_byte b h (suc k) le = absurd (omega arith)

-- the arrays after a call hold the replay that the definitions leave
module _ {a : Arrays} (g : GivenAt a) (p : List ℕ) (small : Bytes8 p) (a' : Arrays)
    (held : ReplayHeld (replay_of (replay_at a) p).replay a'.log a'.marks a'.own a'.tallies a'.shared)
  where
    view : replay_at a' ≡ (replay_of (replay_at a) p).replay
    view =
        held_same (replay_of (replay_at a) p).replay (piece_valid (replay_at a) g.valid p small) a'.log a'.marks a'.own
        a'.tallies a'.shared held

    had_room : (status : ℕ) → status ≡ first_status (replay_of (replay_at a) p).refusal → HadRoom status a' → NotFull (replay_of (replay_at a) p)
    had_room status e h x y = h (e ∙ ap first_status x) (ap (λ (r : Replay). r.midnights) view ∙ y)

    call_years : {q0 : Replay} {bytes : List ℕ} → Years q0 bytes (replay_at a) → (status : ℕ) →
        status ≡ first_status (replay_of (replay_at a) p).refusal → HadRoom status a' → Years q0 (bytes ++ p) (replay_at a')
    call_years {q0} {bytes} y status e h =
        subst (Years q0 (bytes ++ p)) (sym view) (years.fed bytes (replay_at a) y p (had_room status e h))

-- so the calls are years of a new replay
calls_years : {edition : ℕ} {bytes : List ℕ} {a : Arrays} → LogCalls edition bytes a → Years (new_replay edition) bytes (replay_at a)
calls_years {edition} (begun known r a0 a h) =
    subst (Years (new_replay edition) [])
    (sym
    (held_same (new_replay edition) (new_replay_valid edition known) a.log a.marks a.own a.tallies a.shared (h.held known)))
    years.begun
calls_years (piece bytes a c p small status taken a' f room) =
    call_years (replay_given (calls_state c)) p small a' f.held (calls_years c) status f.status room
calls_years (byte bytes a c b small status a' f room) =
    call_years (replay_given (calls_state c)) (b ∷ []) (one_byte b small) a' f.held (calls_years c) status f.status room
calls_years {edition} (trim bytes a c r a' t) =
    subst (Years (new_replay edition) bytes) (sym (trimmed_view (replay_given (calls_state c)) t)) (years.trim bytes (replay_at a) (calls_years c))

module _ {edition : ℕ} {bytes : List ℕ} {a : Arrays} (c : LogCalls edition bytes a) where
  behind : Behind (unlimited edition bytes) (replay_at a)
  behind = years_follow (new_free edition) (new_replay edition) (new_follows edition) bytes (replay_at a) (calls_years c)

  pub years_as_free : AsFree (unlimited edition bytes) (replay_at a)
  years_as_free = as_free behind

  -- a month by egretfold_score_month
  pub years_scored : (l : Lease) → 0 < (replay_at a).midnights → first_day (replay_at a).midnights (replay_at a).last_day ≤ l.first_day →
      {r : ℕ} {claimed served month claimed' served' month' : List ℕ} →
      ScoreCrosses l a.log a.marks a.tallies r claimed served month claimed' served' month' →
      MonthCrosses (score_of l (unlimited edition bytes)) r claimed served month claimed' served' month'
  years_scored l some h {r} {claimed} {served} {month} {claimed'} {served'} {month'} s =
      subst (λ (x : Score). MonthCrosses x r claimed served month claimed' served' month') (years_as_free.scores some l h)
      (s.crosses a.own a.shared)

  -- the next piece
  module _ (p : List ℕ) (small : Bytes8 p) (status taken : ℕ) (a' : Arrays) (f : FedAt (replay_of (replay_at a) p) status taken a')
      (room : HadRoom status a')
    where
      abbrev only : List ℕ → ℕ
      only l = get_or l 0 0

      pub years_answered : AnswersAs (free_of (unlimited edition bytes) p) status taken
      years_answered =
          let n = behind_answers behind p (had_room (replay_given (calls_state c)) p small a' f.held status f.status room) in
          record {
            status_too = f.status ∙ ap first_status n.1;
            taken_too = ap only f.room ∙ n.0;
          }
