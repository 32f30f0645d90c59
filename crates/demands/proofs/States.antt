-- States as a host has them, also from elsewhere: what the calls leave is what they and the checks take, and a state that was saved and
-- read back goes on as the one that was saved. Assumes nothing.
use mathlib.Core.Path.{◌≡◌, refl, sym, ◌∙◌, subst}
use mathlib.Core.Bool.{Bool, true, false}
use mathlib.Core.List.{List, [], ◌∷◌}
use Prim.Native.Nat.{ℕ, ◌+◌}
use lib.Dec.{eqb}
use lib.ListN.{length, replicate}
use borrow.Author.Tests.{eqb-true, eqb-false}
use native.Mathlib.Omega.{arith}
use Rattle.laws.specs.Choice.{pick}
use Rattle.laws.proofs.Choice.{pick_no, Tested, tested, holds, fails}
use Rattle.state.specs.State.{new_session}
use Rattle.state.specs.Asked.{Given}
use Rattle.state.specs.Start.{is_edition}
use Rattle.state.specs.Cells.{Sized, party_of, session_of, own_length}
use Rattle.state.proofs.Cells.{held_given}
use Rattle.session.specs.Step.{step_of}
use Rattle.session.specs.Feed.{feed_of, uncut}
use Rattle.session.specs.Reached as reached
use Rattle.session.proofs.Kept.{kept}
use Rattle.session.proofs.Refusals.{fed_valid}
use Rattle.session.proofs.Reached.{reached_valid}
use Rattle.session_rooms.specs.Rooms.{FeedCrosses}
use Rattle.lessees.specs.Begin.{new_pair}
use Rattle.lessees.specs.Rooms.{groups_of}
use Rattle.lessees.proofs.Begun.{begun_valid}
use Rattle.lessees.proofs.Folding.{pair_given}
use Rattle.station_log.specs.Asked.{Bytes8}
use Rattle.station_log.specs.Feed.{replay_of}
use Rattle.station_log.proofs.Handed.{begun_given, piece_given, byte_given}
use Rattle.log_rooms.specs.Pieces.{Arrays, replay_at, GivenAt, FedAt, Pieces, more, first_of_two}
use Rattle.log_rooms.proofs.Cut.{any_pieces}
use Rattle.judges.specs.Judged.{Judges, session_by}
use Rattle.judges.proofs.Valid.{judged_given, given_judged}
use Rattle.demands.specs.Pieces.{first_of, InTurn, and_then, AsOne}
use Rattle.demands.specs.Lives as lives
use Rattle.demands.specs.Pairs.{PairArrays, PairGivenAt, PairFedAt}
use Rattle.demands.specs.States.{GoesOn, SamePiece}
use Rattle.demands.specs.States as states
use Rattle.demands.proofs.Lives.{untouched_same, life_given}
use Rattle.demands.proofs.Pieces.{as_one}
use Rattle.demands.proofs.Trims.{trimmed_given}

-- the test of a session is what the entries ask
pub session_judged : {o t s : List ℕ} → Sized o t s → Judges (session_by (session_of o t s)) (Given o t s)
session_judged z = record { sound = judged_given z; complete = given_judged }

zero_edition : (t s : List ℕ) → Given (replicate own_length 0) t s → false ≡ true
unfolding party_of is_edition pick
zero_edition t s g = g.valid.edition

-- a session's arrays may be handed in
pub session_given : {o t s : List ℕ} → states.Session o t s → Given o t s
session_given {o} {t} {s} (states.begun edition known r a b c a' b' c' h) =
    held_given (new_session edition) (reached_valid (reached.begun edition known)) o t s (h.held known)
session_given (states.checked o t s j) = j.sound refl
session_given {o} {t} {s} (states.word {own = o₀} {tallies = t₀} {shared = s₀} h w r a b c d e k) =
    held_given (step_of (session_of o₀ t₀ s₀) w).session (kept (session_of o₀ t₀ s₀) w (session_given h).valid) o t s k.held
session_given {o} {t} {s} (states.piece {own = o₀} {tallies = t₀} {shared = s₀} h ws r a b c d k) =
    held_given (feed_of (session_of o₀ t₀ s₀) ws).session (fed_valid (session_of o₀ t₀ s₀) ws (session_given h).valid) o t s k.held

pub session_taken : {o t s : List ℕ} → states.Session o t s → {yes : Bool} → Judges yes (Given o t s) → yes ≡ true
session_taken h j = j.complete (session_given h)

-- arrays of zeros have no edition
pub zeros_untaken : (t s : List ℕ) {yes : Bool} → Judges yes (Given (replicate own_length 0) t s) → yes ≡ false
zeros_untaken t s {yes} j = go (tested yes)
  where
    go : Tested yes → yes ≡ false
    go (holds e) = e ∙ sym (zero_edition t s (j.sound e))
    go (fails e) = e

-- arrays that are the same
module _ (P : List ℕ → List ℕ → List ℕ → Type 0) {o t s o' t' s' : List ℕ} (a : o ≡ o') (b : t ≡ t') (c : s ≡ s') where
  moved : P o t s → P o' t' s'
  moved p = subst (λ (x : List ℕ). P o' t' x) c (subst (λ (x : List ℕ). P o' x s) b (subst (λ (x : List ℕ). P x t s) a p))

module _ {o t s : List ℕ} (h : states.Session o t s) (before : List ℕ) (r taken commands : ℕ) (o₁ t₁ s₁ : List ℕ)
    (c : FeedCrosses (feed_of (session_of o t s) before) r o₁ t₁ s₁ (taken ∷ commands ∷ [])) (o₂ t₂ s₂ : List ℕ)
    (own : o₂ ≡ o₁) (tallies : t₂ ≡ t₁) (shared : s₂ ≡ s₁)
  where
    pub session_goes_on : {yes : Bool} → Judges yes (Given o₂ t₂ s₂) → (ps : List (List ℕ)) (r' n m : ℕ) (o₃ t₃ s₃ : List ℕ) →
        InTurn o₂ t₂ s₂ ps r' n m o₃ t₃ s₃ → (r'' : ℕ) (o₄ t₄ s₄ fed : List ℕ) →
        FeedCrosses (feed_of (session_of o t s) (uncut (before ∷ ps))) r'' o₄ t₄ s₄ fed →
        GoesOn yes (AsOne (first_of r r') (taken + n) (commands + m) o₃ t₃ s₃ r'' o₄ t₄ s₄ fed)
    session_goes_on j ps r' n m o₃ t₃ s₃ i r'' o₄ t₄ s₄ fed d =
        let saved : Given o₁ t₁ s₁ = session_given (states.piece h before r o₁ t₁ s₁ (taken ∷ commands ∷ []) c) in
        record {
          taken = j.complete (moved Given (sym own) (sym tallies) (sym shared) saved);
          goes_on =
              as_one (before ∷ ps) (first_of r r') (taken + n) (commands + m) o₃ t₃ s₃ (session_given h)
              (and_then before r taken commands o₁ t₁ s₁ c (moved (λ x y z. InTurn x y z ps r' n m o₃ t₃ s₃) own tallies shared i)) r'' o₄ t₄ s₄
              fed d;
        }

-- two parties' arrays
pair_after : {a : PairArrays} → PairGivenAt a → (words parties : List ℕ) (r : ℕ) (fed : List ℕ) (a' : PairArrays) (fed' : List ℕ) →
    PairFedAt words parties r a fed a' fed' → PairGivenAt a'
pair_after {a} g words parties r fed a' fed' c = go (tested (eqb (length parties) (groups_of (length words))))
  where
    go : Tested (eqb (length parties) (groups_of (length words))) → PairGivenAt a'
    go (holds q) = life_given g (lives.piece words parties r fed a' fed' (eqb-true _ _ q) c lives.no_more)
    go (fails q) = life_given g (lives.refused_piece words parties r fed a' fed' (eqb-false _ _ q) c lives.no_more)

pub pair_handed : {a : PairArrays} → states.Pair a → PairGivenAt a
pair_handed (states.begun inputs outputs edition r may b a h) =
    pair_given (new_pair inputs outputs edition) (begun_valid inputs outputs edition may) (h.held may)
pair_handed (states.checked a j) = j.sound refl
pair_handed (states.piece h words parties r fed a fed' c) = pair_after (pair_handed h) words parties r fed a fed' c
pair_handed (states.word h party w r own tallies shared command command' c) =
    life_given (pair_handed h) (lives.word party w r own tallies shared command command' c lives.no_more)
pair_handed (states.feed h party ws r own tallies shared fed c) =
    life_given (pair_handed h) (lives.feed party ws r own tallies shared fed c lives.no_more)

pub pair_taken : {a : PairArrays} → states.Pair a → {yes : Bool} → Judges yes (PairGivenAt a) → yes ≡ true
pair_taken h j = j.complete (pair_handed h)

module _ {a b : PairArrays} (same : b ≡ a) (words parties : List ℕ) (r r' : ℕ) (room room' : List ℕ) (a' b' : PairArrays) (fed fed' : List ℕ)
    (c : PairFedAt words parties r a room a' fed) (d : PairFedAt words parties r' b room' b' fed')
  where
    back : PairFedAt words parties r' a room' b' fed'
    back = subst (λ (x : PairArrays). PairFedAt words parties r' x room' b' fed') same d

    abbrev fits : Bool
    fits = eqb (length parties) (groups_of (length words))

    module _ (q : length parties ≡ groups_of (length words)) where
      same_arrays : b' ≡ a'
      same_arrays =
          let left = (c.left q).held in
          let later = (back.left q).held in
          λ i.
          record {
            own0 = (later.own0_cells ∙ sym left.own0_cells) i;
            tallies0 = (later.tally0_cells ∙ sym left.tally0_cells) i;
            own1 = (later.own1_cells ∙ sym left.own1_cells) i;
            tallies1 = (later.tally1_cells ∙ sym left.tally1_cells) i;
            shared = (later.shared_cells_lem ∙ sym left.shared_cells_lem) i;
          }

    pair_same : SamePiece r' r b' a' fed' fed
    pair_same = go (tested fits)
      where
        go : Tested fits → SamePiece r' r b' a' fed' fed
        go (holds q) =
            record {
              status = back.status ∙ sym c.status;
              arrays = same_arrays (eqb-true _ _ q);
              answers = λ z. (back.left (eqb-true _ _ q)).told ∙ sym (c.left (eqb-true _ _ q)).told;
            }
        go (fails q) =
            let ne = eqb-false _ _ q in
            let eleven : r' ≡ 11 = back.status ∙ pick_no 0 11 q in
            record {
              status = back.status ∙ sym c.status;
              arrays = untouched_same (back.untouched ne).0 ∙ sym (untouched_same (c.untouched ne).0);
              answers = λ z. absurd (omega arith);
            }

    pub pair_goes_on : states.Pair a → {yes : Bool} → Judges yes (PairGivenAt b) → GoesOn yes (SamePiece r' r b' a' fed' fed)
    pair_goes_on h j = record { taken = j.complete (subst PairGivenAt (sym same) (pair_handed h)); goes_on = pair_same }

-- a replay's arrays
pub replay_given : {a : Arrays} → states.Replay a → GivenAt a
replay_given (states.begun edition known r b a h) = begun_given edition known (h.held known)
replay_given (states.checked a j) = j.sound refl
replay_given (states.byte h b r a small c) = byte_given (replay_given h) b r small c
replay_given (states.piece h bytes r taken a small c) = piece_given (replay_given h) bytes small c.held
replay_given (states.trim h r a c) = trimmed_given (replay_given h) c

pub replay_taken : {a : Arrays} → states.Replay a → {yes : Bool} → Judges yes (GivenAt a) → yes ≡ true
replay_taken h j = j.complete (replay_given h)

module _ {a : Arrays} (h : states.Replay a) (before : List ℕ) (small : Bytes8 before) (status taken : ℕ) (saved : Arrays)
    (c : FedAt (replay_of (replay_at a) before) status taken saved) (back : Arrays) (same : back ≡ saved)
  where
    pub replay_goes_on : {yes : Bool} → Judges yes (GivenAt back) → (ps : List (List ℕ)) (status' taken' : ℕ) (end : Arrays) →
        Pieces back ps status' taken' end →
        GoesOn yes (FedAt (replay_of (replay_at a) (uncut (before ∷ ps))) (first_of_two status status') (taken + taken') end)
    replay_goes_on j ps status' taken' end p =
        record {
          taken = j.complete (subst GivenAt (sym same) (replay_given (states.piece h before status taken saved small c)));
          goes_on =
              any_pieces a (replay_given h) (before ∷ ps) (first_of_two status status') (taken + taken') end
              (more a before status taken saved ps status' taken' end small c
              (subst (λ (x : Arrays). Pieces x ps status' taken' end) same p));
        }
