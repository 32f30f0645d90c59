-- The entries give out only replays that they take: a new replay's arrays, and the arrays after any byte or piece, may be handed in
-- again, and hold just the replay that the definitions leave. Assumes nothing.
use mathlib.Core.Path.{◌≡◌, refl, sym, ap, ap₂, ◌∙◌, subst}
use mathlib.Core.Bool.{true, false}
use mathlib.Core.List.{List, [], ◌∷◌}
use Prim.Native.Nat.{ℕ, zero, suc, ◌<◌}
use native.Mathlib.Omega.{arith}
use lib.ListN.{length, replicate}
use Rattle.laws.proofs.Choice.{pick_yes, pick_no}
use Rattle.refusal.specs.Told.{gives, refuses}
use Rattle.refusal.specs.Crossing.{status_of}
use Rattle.state.specs.State.{Session}
use Rattle.state.specs.Start.{is_edition, edition_told}
use Rattle.state.specs.Cells.{session_of}
use Rattle.state.proofs.Cells as cells
use Rattle.session.specs.Answers as session
use Rattle.replay.specs.State.{Replay, new_replay, marks_length}
use Rattle.replay.specs.Places.{log_length}
use Rattle.replay.specs.Cells.{viewed, replay_in, log_cells, ReplayHeld, ReplayValid, ReplayGiven}
use Rattle.replay.proofs.Changes.{log_back}
use Rattle.station_log.specs.Feed.{replay_of}
use Rattle.station_log.specs.Asked.{Begins, ByteLeft, Bytes8}
use Rattle.station_log.proofs.Kept.{new_replay_valid, piece_valid}

-- arrays that hold a valid replay are that replay's, and may be handed in
module _ (r : Replay) (v : ReplayValid r) (l m o t s : List ℕ) (h : ReplayHeld r l m o t s) where
  session_same : session_of o t s ≡ r.session
  session_same = cells.held_view r.session v.session o t s h.session_cells

  pub held_same : replay_in l m o t s ≡ r
  held_same =
      ap (λ (x : List ℕ). viewed x m (session_of o t s)) h.log_cells_lem ∙
      ap₂ (λ (x : List ℕ) (u : Session). viewed (log_cells r) x u) h.mark_cells session_same ∙ log_back r

  pub held_given : ReplayGiven l m o t s
  held_given =
      record {
        log_length_lem = ap length h.log_cells_lem ∙ unfold log_cells in refl;
        marks_length_lem = ap length h.mark_cells ∙ v.marks_length_lem;
        session_sized = (cells.held_given r.session v.session o t s h.session_cells).sized;
        valid = subst ReplayValid (sym held_same) v;
      }

pub begun_given : (edition : ℕ) → is_edition edition ≡ true → {l m o t s : List ℕ} → ReplayHeld (new_replay edition) l m o t s →
    ReplayGiven l m o t s
begun_given edition known {l} {m} {o} {t} {s} h = held_given (new_replay edition) (new_replay_valid edition known) l m o t s h

module _ {l m o t s : List ℕ} (g : ReplayGiven l m o t s) {l1 m1 o1 t1 s1 : List ℕ} where
  pub piece_given : (bs : List ℕ) → Bytes8 bs → ReplayHeld (replay_of (replay_in l m o t s) bs).replay l1 m1 o1 t1 s1 →
      ReplayGiven l1 m1 o1 t1 s1
  piece_given bs small h =
      held_given (replay_of (replay_in l m o t s) bs).replay (piece_valid (replay_in l m o t s) g.valid bs small) l1 m1 o1 t1 s1 h

  pub byte_given : (b n : ℕ) → b < 256 → ByteLeft (replay_of (replay_in l m o t s) (b ∷ [])) n l1 m1 o1 t1 s1 →
      ReplayGiven l1 m1 o1 t1 s1
  byte_given b n small h = piece_given (b ∷ []) (one_byte b small) h.held
    where
      one_byte : (x : ℕ) → x < 256 → Bytes8 (x ∷ [])
      one_byte x e zero le = e
      one_byte x e (suc k) le = absurd (omega arith)

-- a replay begins where its session does, and else nothing is touched
module _ (edition : ℕ) {n : ℕ} {o t s o1 t1 s1 : List ℕ} (b : session.Begins edition n o t s o1 t1 s1) where
  refused_with : is_edition edition ≡ false → n ≡ 3
  refused_with e = b.status ∙ unfold edition_told in ap status_of (pick_no (gives []) (refuses 3) e)

  begun_with : is_edition edition ≡ true → n ≡ 0
  begun_with e = b.status ∙ unfold edition_told in ap status_of (pick_yes (gives []) (refuses 3) e)

  pub begins : {l m : List ℕ} → n ≡ 0 → Begins edition n l m o t s (replicate log_length 0) (replicate marks_length 0) o1 t1 s1
  begins z =
      record {
        status = b.status;
        held = λ k. record { log_cells_lem = unfold log_cells in refl; mark_cells = refl; session_cells = b.held k };
        untouched = λ k. absurd (clash (refused_with k));
      }
    where
      clash : n ≡ 3 → ⊥
      clash k = omega arith

  pub begins_not : {l m : List ℕ} → (n ≡ 0 → ⊥) → Begins edition n l m o t s l m o1 t1 s1
  begins_not z =
      record {
        status = b.status;
        held = λ k. absurd (z (begun_with k));
        untouched = λ k. record { log_cells_lem = refl; mark_cells = refl; session_cells = b.untouched k };
      }
