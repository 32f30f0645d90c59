-- What trimming leaves in a replay's arrays, return by return. Assumes nothing.
use mathlib.Core.Path.{◌≡◌, refl, sym, ap, ◌∙◌, subst}
use mathlib.Core.List.{List, [], ◌∷◌}
use Prim.Native.Nat.{ℕ, zero, suc, ◌-◌, ◌<◌, ◌≤◌}
use native.Mathlib.Omega.{arith}
use lib.ListN.{length, get_or, set}
use Rattle.laws.proofs.Choice.{by_pick}
use Rattle.state.specs.State.{Session, Tally}
use Rattle.state.specs.Cells.{session_of}
use Rattle.state.specs.Asked.{Held}
use Rattle.replay.specs.State.{Replay}
use Rattle.replay.specs.Report.{mark_at, began_with}
use Rattle.replay.specs.Cells.{viewed, replay_in, log_cells, ReplayHeld, ReplayGiven}
use Rattle.replay.proofs.Changes.{canon, log_canon}
use Rattle.station_log.proofs.Feeding.{held_view}
use Rattle.trim.specs.Trim.{only_mark, trimmed}
use Rattle.trim.specs.Left.{Trims}
use Rattle.trim.proofs.Kept.{untrimmed, trimmed_is}

-- a replay without a midnight is left as it is
pub nothing_cut : (l m : List ℕ) → length l ≡ 10 → get_or l 3 0 ≤ 0 → Trims l m l m
unfolding viewed
nothing_cut l m h z =
    record {
      log_cells_lem = λ s. sym (ap log_cells (untrimmed (viewed l m s) (omega arith)) ∙ log_canon l m s h);
      mark_cells = λ s. sym (ap (λ (r : Replay). r.marks) (untrimmed (viewed l m s) (omega arith)));
    }

-- the tallies when a day began are those at its midnight
pub began_mark : (m : List ℕ) (k : ℕ) (t : Tally) → 0 < k → t ≡ began_with m k → t ≡ mark_at m (k - 1)
unfolding began_with
began_mark m zero t h e = absurd (omega arith)
began_mark m (suc k) t h e = e ∙ ap (mark_at m) (one_less k)
  where
    one_less : (n : ℕ) → n ≡ suc n - 1
    one_less n = omega arith

pub all_cut : (l m : List ℕ) (t : Tally) (after : ℕ) → length l ≡ 10 → 0 < get_or l 3 0 → t ≡ began_with m (get_or l 3 0) →
    after ≡ get_or l 2 0 - (get_or l 3 0 - 1) → (m1 : List ℕ) → m1 ≡ only_mark t → Trims l m (set (set l 2 after) 3 1) m1
unfolding viewed log_cells
all_cut l m t after h some began e m1 marks =
    record {
      log_cells_lem =
          λ s.
          ap (λ (x : List ℕ). set (set x 2 after) 3 1) (sym (canon l h)) ∙
          ap (λ (n : ℕ).
          get_or l 0 0 ∷ get_or l 1 0 ∷ n ∷ 1 ∷ get_or l 4 0 ∷ get_or l 5 0 ∷ get_or l 6 0 ∷ get_or l 7 0 ∷ get_or l 8 0 ∷ get_or l 9 0 ∷ []) e ∙
          sym (ap log_cells (trimmed_is (viewed l m s) some));
      mark_cells =
          λ s.
          marks ∙ ap only_mark (began_mark m (get_or l 3 0) t some began) ∙
          sym (ap (λ (r : Replay). r.marks) (trimmed_is (viewed l m s) some));
    }

-- the session isn't touched
pub session_stays : (r : Replay) → (trimmed r).session ≡ r.session
unfolding trimmed
session_stays r = by_pick (λ (q : Replay). q.session ≡ r.session) _ _ _ (λ e. refl) (λ e. refl)

-- the arrays then hold the trimmed replay whole, with the session's arrays as they were
pub trims_held : {l m o t s : List ℕ} → ReplayGiven l m o t s → {l1 m1 : List ℕ} → Trims l m l1 m1 →
    ReplayHeld (trimmed (replay_in l m o t s)) l1 m1 o t s
trims_held {l} {m} {o} {t} {s} g h =
    record {
      log_cells_lem = h.log_cells_lem (session_of o t s);
      mark_cells = h.mark_cells (session_of o t s);
      session_cells =
          subst (λ (x : Session). Held x o t s) (sym (session_stays (replay_in l m o t s))) (held_view l m o t s g).session_cells;
    }
