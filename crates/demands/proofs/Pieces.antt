-- Sessions as a host has them: arrays that the calls left may be handed in again, a refused word leaves tallies, settings and room, and
-- pieces fed by one call after the other leave what one call with the uncut words leaves. Assumes nothing.
use mathlib.Core.Path.{◌≡◌, refl, sym, ap, ap₂, ◌∙◌, subst}
use mathlib.Core.List.{List, [], ◌∷◌}
use Prim.Native.Nat.{ℕ, ◌+◌, ◌≤◌}
use native.Mathlib.Omega.{arith}
use lib.ListN.{length-append}
use borrow.Author.Tests.{ne_eqb}
use Rattle.laws.specs.Choice.{pick}
use Rattle.laws.proofs.Choice.{pick_no}
use Rattle.state.specs.State.{Session, new_session}
use Rattle.state.specs.Valid.{Valid}
use Rattle.state.specs.Asked.{Given, Held}
use Rattle.state.specs.Cells.{session_of, tally_cells, shared_cells}
use Rattle.state.proofs.Cells.{own_canon, tally_canon, shared_canon, held_view, held_given}
use Rattle.session.specs.Step.{Reply, refused, step_of}
use Rattle.session.specs.Feed.{First, nothing, first, Fed, feed_of, earlier, joined, uncut, first_status}
use Rattle.session.specs.Refusals.{low, full, foreign, RefusedTo, unchanged, stopping}
use Rattle.session.specs.Reached.{Reached}
use Rattle.session.specs.Reached as reached
use Rattle.session.proofs.Kept.{kept}
use Rattle.session.proofs.Cut.{cut}
use Rattle.session.proofs.Refusals.{fed_valid, refused_word, refused_piece_lem}
use Rattle.session.proofs.Reached.{reached_valid}
use Rattle.refusal.specs.Crossing.{status_of, room_of}
use Rattle.session_rooms.specs.Rooms.{reply_told, WordCrosses, FeedCrosses}
use Rattle.demands.specs.Pieces.{Handed, begun, word, piece, WordRefused, first_of, InTurn, no_more, and_then, AsOne}

-- the arrays show a session that the entries reached
pub handed_reached : {o t s : List ℕ} → Handed o t s → Reached (session_of o t s)
handed_reached {o} {t} {s} (begun edition known r a b c a' b' c' h) =
    let new = reached.begun edition known in
    subst Reached (sym (held_view (new_session edition) (reached_valid new) o t s (h.held known))) new
handed_reached {o} {t} {s} (word {own = o₀} {tallies = t₀} {shared = s₀} h w r a b c d e k) =
    let from = handed_reached h in
    subst Reached (sym (held_view (step_of (session_of o₀ t₀ s₀) w).session (kept (session_of o₀ t₀ s₀) w (reached_valid from)) o t s k.held))
    (reached.word from w)
handed_reached {o} {t} {s} (piece {own = o₀} {tallies = t₀} {shared = s₀} h ws r a b c d k) =
    let from = handed_reached h in
    subst Reached (sym (held_view (feed_of (session_of o₀ t₀ s₀) ws).session (fed_valid (session_of o₀ t₀ s₀) ws (reached_valid from)) o t s k.held))
    (reached.piece from ws)

-- so they are what the calls ask for: nothing that a host got from them is refused to be taken
pub handed_given : {o t s : List ℕ} → Handed o t s → Given o t s
handed_given {o} {t} {s} (begun edition known r a b c a' b' c' h) =
    held_given (new_session edition) (reached_valid (reached.begun edition known)) o t s (h.held known)
handed_given {o} {t} {s} (word {own = o₀} {tallies = t₀} {shared = s₀} h w r a b c d e k) =
    held_given (step_of (session_of o₀ t₀ s₀) w).session (kept (session_of o₀ t₀ s₀) w (reached_valid (handed_reached h))) o t s k.held
handed_given {o} {t} {s} (piece {own = o₀} {tallies = t₀} {shared = s₀} h ws r a b c d k) =
    held_given (feed_of (session_of o₀ t₀ s₀) ws).session (fed_valid (session_of o₀ t₀ s₀) ws (reached_valid (handed_reached h))) o t s k.held

-- arrays of the right lengths hold the session that they show
module _ (o t s : List ℕ) (g : Given o t s) where
  pub holds_own : Held (session_of o t s) o t s
  holds_own =
      record {
        own_cells = sym (own_canon o t g.sized.own_length_lem);
        tally_cells_lem = sym (tally_canon o t g.sized.tallies_length_lem);
        shared_cells_lem = sym (shared_canon s g.sized.shared_length_lem);
      }

  module _ (w r : ℕ) (o' t' s' c c' : List ℕ) (k : WordCrosses (step_of (session_of o t s) w) r o' t' s' c c') where
    after_held : session_of o' t' s' ≡ (step_of (session_of o t s) w).session
    after_held = held_view (step_of (session_of o t s) w).session (kept (session_of o t s) w g.valid) o' t' s' k.held

    same_tallies : {n : ℕ} {u : Session} → RefusedTo (session_of o t s) n u → tally_cells u.party ≡ t
    unfolding tally_cells
    same_tallies (unchanged e) = tally_canon o t g.sized.tallies_length_lem
    same_tallies (stopping e) = tally_canon o t g.sized.tallies_length_lem

    same_settings : {n : ℕ} {u : Session} → RefusedTo (session_of o t s) n u → shared_cells u.shared ≡ s
    same_settings (unchanged e) = shared_canon s g.sized.shared_length_lem
    same_settings (stopping e) = shared_canon s g.sized.shared_length_lem

    pub word_refused : (n : ℕ) → (step_of (session_of o t s) w).reply ≡ refused n → WordRefused n r o t s c o' t' s' c'
    word_refused n e =
        let left = refused_word (session_of o t s) w n e in
        record {
          number = k.answer.status ∙ ap (λ (a : Reply). status_of (reply_told a)) e;
          tallies_same = k.held.tally_cells_lem ∙ same_tallies left;
          settings_same = k.held.shared_cells_lem ∙ same_settings left;
          room_same = k.answer.room ∙ ap (λ (a : Reply). room_of (reply_told a) c) e;
          session = subst (RefusedTo (session_of o t s) n) (sym after_held) left;
        }

-- no refusal has the number 0
stop_number : {n : ℕ} {s u : Session} → RefusedTo s n u → 1 ≤ n
stop_number (unchanged e) = omega arith
stop_number (stopping (low a b)) = omega arith
stop_number (stopping full) = omega arith
stop_number (stopping foreign) = omega arith

first_status_lem : (s : Session) (p : List ℕ) (x y : First) → (feed_of s p).refusal ≡ x →
    first_of (first_status x) (first_status y) ≡ first_status (earlier x y)
unfolding pick
first_status_lem s p nothing y e = refl
first_status_lem s p (first n) y e = pick_no _ _ (ne_eqb n 0 (λ z. omega (arith, stop_number (refused_piece_lem s p n e))))

-- the answers to two pieces, one after the other, cross as the answer to both
joined_crosses : (s : Session) (p q : List ℕ) (r r' a b n m : ℕ) (o1 t1 s1 o2 t2 s2 : List ℕ) →
    FeedCrosses (feed_of s p) r o1 t1 s1 (a ∷ b ∷ []) → FeedCrosses (feed_of (feed_of s p).session q) r' o2 t2 s2 (n ∷ m ∷ []) →
    FeedCrosses (joined (feed_of s p) (feed_of (feed_of s p).session q)) (first_of r r') o2 t2 s2 ((a + n) ∷ (b + m) ∷ [])
unfolding joined
joined_crosses s p q r r' a b n m o1 t1 s1 o2 t2 s2 c d =
    record {
      status =
          ap₂ first_of c.status d.status ∙
          first_status_lem s p (feed_of s p).refusal (feed_of (feed_of s p).session q).refusal refl;
      room =
          ap₂ {C = List ℕ} (λ (i j : ℕ). i ∷ j ∷ []) (ap₂ ◌+◌ (head_same c.room) (head_same d.room))
          (ap₂ ◌+◌ (next_same c.room) (next_same d.room) ∙
          sym (length-append (feed_of s p).commands (feed_of (feed_of s p).session q).commands));
      held = d.held;
    }
  where
    head_same : {i j i' j' : ℕ} → (i ∷ j ∷ []) ≡ (i' ∷ j' ∷ []) → i ≡ i'
    head_same e = cc

    next_same : {i j i' j' : ℕ} → (i ∷ j ∷ []) ≡ (i' ∷ j' ∷ []) → j ≡ j'
    next_same e = cc

-- calls in turn answer and leave what the contract of one call with the uncut words says
pub in_turn_lem : {o t s : List ℕ} {ps : List (List ℕ)} {r n m : ℕ} {o2 t2 s2 : List ℕ} → Given o t s → InTurn o t s ps r n m o2 t2 s2 →
    FeedCrosses (feed_of (session_of o t s) (uncut ps)) r o2 t2 s2 (n ∷ m ∷ [])
unfolding uncut feed_of
in_turn_lem {o} {t} {s} g no_more = record { status = refl; room = refl; held = holds_own o t s g }
in_turn_lem {o} {t} {s} g (and_then p r₁ a b o1 t1 s1 c {ps} {r'} {n = n'} {m = m'} {own₂ = o2} {tallies₂ = t2} {shared₂ = s2} rest) =
    let v : Valid (feed_of (session_of o t s) p).session = fed_valid (session_of o t s) p g.valid in
    let shown : session_of o1 t1 s1 ≡ (feed_of (session_of o t s) p).session = held_view (feed_of (session_of o t s) p).session v o1 t1 s1 c.held in
    let later : FeedCrosses (feed_of (feed_of (session_of o t s) p).session (uncut ps)) r' o2 t2 s2 (n' ∷ m' ∷ []) =
    subst (λ (u : Session). FeedCrosses (feed_of u (uncut ps)) r' o2 t2 s2 (n' ∷ m' ∷ [])) shown
    (in_turn_lem (held_given (feed_of (session_of o t s) p).session v o1 t1 s1 c.held) rest) in
    subst (λ (f : Fed). FeedCrosses f (first_of r₁ r') o2 t2 s2 ((a + n') ∷ (b + m') ∷ [])) (sym (cut (session_of o t s) p (uncut ps)))
    (joined_crosses (session_of o t s) p (uncut ps) r₁ r' a b n' m' o1 t1 s1 o2 t2 s2 c later)

-- so whatever the cuts, the host has the same status, the same sums and the same arrays as after the one call
pub as_one : {o t s : List ℕ} (ps : List (List ℕ)) (r n m : ℕ) (o2 t2 s2 : List ℕ) → Given o t s → InTurn o t s ps r n m o2 t2 s2 →
    (r' : ℕ) (o' t' s' fed' : List ℕ) → FeedCrosses (feed_of (session_of o t s) (uncut ps)) r' o' t' s' fed' →
    AsOne r n m o2 t2 s2 r' o' t' s' fed'
as_one {o} {t} {s} ps r n m o2 t2 s2 g i r' o' t' s' fed' c =
    let d = in_turn_lem g i in
    record {
      status = d.status ∙ sym c.status;
      sums = d.room ∙ sym c.room;
      own_same = d.held.own_cells ∙ sym c.held.own_cells;
      tallies_same = d.held.tally_cells_lem ∙ sym c.held.tally_cells_lem;
      shared_same = d.held.shared_cells_lem ∙ sym c.held.shared_cells_lem;
    }
