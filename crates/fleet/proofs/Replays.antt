-- A log replayed in arrays of its own: what they hold in the end is the replay of its bytes, by the edition. Assumes nothing.
use mathlib.Core.Path.{◌≡◌, sym, ap, ap₂, ◌∙◌, subst}
use mathlib.Core.Bool.{true}
use mathlib.Core.List.{List, []}
use Rattle.laws.proofs.Choice.{pick_yes}
use Rattle.refusal.specs.Told.{gives, refuses}
use Rattle.refusal.specs.Crossing.{status_of}
use Prim.Native.Nat.{ℕ}
use Rattle.state.specs.State.{Session}
use Rattle.state.specs.Start.{is_edition, edition_told}
use Rattle.state.specs.Cells.{session_of}
use Rattle.state.specs.Valid.{Valid}
use Rattle.state.proofs.Cells as cells
use Rattle.session.proofs.Kept.{new_valid}
use Rattle.session.proofs.Refusals.{fed_valid}
use Rattle.replay.specs.State.{Replay, new_replay}
use Rattle.replay.specs.Cells.{viewed, replay_in, log_cells, ReplayHeld, ReplayGiven}
use Rattle.replay.proofs.Changes.{log_back}
use Rattle.station_log.specs.Asked.{Begins, PieceLeft}
use Rattle.station_log.specs.Feed.{replay_of}
use Rattle.station_log.specs.declared.stream.Fed.{Fed}
use Rattle.station_log.specs.Words.{words_in}
use Rattle.station_log.proofs.Handed.{begun_given}
use Rattle.station_log.proofs.Words.{one_session}
use Rattle.score.specs.Lease.{Lease}
use Rattle.score.specs.Score.{score_of, score_of_log}
use Rattle.fleet.specs.Answers.{month_from, ScoredAs}
use Rattle.fleet.specs.declared.station.Month.{Month}
use Rattle.std.specs.Prelude.{Result}

-- arrays that hold a replay with a valid session show it
shows : (r : Replay) → Valid r.session → {l m o t s : List ℕ} → ReplayHeld r l m o t s → replay_in l m o t s ≡ r
shows r v {l} {m} {o} {t} {s} h =
    ap (λ (x : List ℕ). viewed x m (session_of o t s)) h.log_cells_lem ∙
    ap₂ (λ (x : List ℕ) (u : Session). viewed (log_cells r) x u) h.mark_cells (cells.held_view r.session v o t s h.session_cells) ∙
    log_back r

module _ (edition : ℕ) (known : is_edition edition ≡ true) {n : ℕ} {l m o t s l1 m1 o1 t1 s1 : List ℕ}
    (b : Begins edition n l m o t s l1 m1 o1 t1 s1)
  where
    pub begun_fine : n ≡ 0
    begun_fine = b.status ∙ unfold edition_told in ap status_of (pick_yes (gives []) (refuses 3) known)

    pub may_feed : ReplayGiven l1 m1 o1 t1 s1
    may_feed = begun_given edition known (b.held known)

    begun_is : replay_in l1 m1 o1 t1 s1 ≡ new_replay edition
    begun_is = shows (new_replay edition) (new_valid edition known) (b.held known)

    -- the session stays valid whatever bytes come
    fed_session : (bytes : List ℕ) → Valid (replay_of (new_replay edition) bytes).replay.session
    fed_session bytes =
        subst Valid (sym (one_session (new_replay edition) bytes))
        (fed_valid (new_replay edition).session (words_in (new_replay edition) bytes) (new_valid edition known))

    pub fed_is : (bytes : List ℕ) (r : Fed) (l2 m2 o2 t2 s2 : List ℕ) →
        PieceLeft (replay_of (replay_in l1 m1 o1 t1 s1) bytes) r l2 m2 o2 t2 s2 →
        replay_in l2 m2 o2 t2 s2 ≡ (replay_of (new_replay edition) bytes).replay
    fed_is bytes r l2 m2 o2 t2 s2 p =
        shows (replay_of (new_replay edition) bytes).replay (fed_session bytes)
        (subst (λ (x : Replay). ReplayHeld (replay_of x bytes).replay l2 m2 o2 t2 s2) begun_is p.held)

    -- so the month of the arrays is the log's
    pub replayed_month : (l : Lease) (bytes : List ℕ) {r : Fed} {l2 m2 o2 t2 s2 : List ℕ} →
        PieceLeft (replay_of (replay_in l1 m1 o1 t1 s1) bytes) r l2 m2 o2 t2 s2 → {month : Result Month ℕ} → ScoredAs l l2 m2 t2 month →
        month ≡ month_from l (score_of_log edition l bytes)
    replayed_month l bytes {r} {l2} {m2} {o2} {t2} {s2} p k =
        k.told o2 s2 ∙ ap (λ (x : Replay). month_from l (score_of l x)) (fed_is bytes r l2 m2 o2 t2 s2 p)
