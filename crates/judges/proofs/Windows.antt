-- What is kept of readiness, worked out anew: the windows of a party's own outputs, then the gauge and the number. Assumes nothing.
use mathlib.Core.Path.{◌≡◌, refl, sym, ap, ap₂, ◌∙◌, subst}
use mathlib.Core.Bool.{Bool, true, false}
use mathlib.Core.List.{List, []}
use Prim.Native.Nat.{ℕ, ◌+◌, ◌*◌, ◌<◌}
use lib.Dec.{eqb}
use lib.ListN.{get_or}
use Rattle.laws.specs.Choice.{pick}
use Rattle.laws.specs.Below.{every}
use Rattle.laws.specs.Masks.{on}
use Rattle.laws.proofs.Choice.{pick_yes, pick_no}
use Rattle.laws.proofs.Table.{each, ◌&◌}
use Rattle.std.specs.Prelude.{unwrap_or}
use Rattle.command.specs.Format.{value_of, window_of, window_seen}
use Rattle.command.specs.declared.format.Window.{Window as Accepted}
use Rattle.command.proofs.Windows.{default_values}
use Rattle.start.proofs.New.{unset_kept}
use Rattle.state.specs.State.{Buffer, Window, Party, Shared, unset}
use Rattle.state.specs.Valid.{DomainValid}
use Rattle.state.specs.Cells.{buffer_at, party_of, party_cells, shared_of}
use Rattle.state.specs.Effects.{renewed, window_from, with_readiness, with_window}
use Rattle.state.specs.Readiness.{readiness_for, window_for}
use Rattle.state.specs.Seen.{seen_from, seen_outputs}
use Rattle.state.specs.Start.{output, step_of_buffer, span_of_buffer}
use Rattle.start.specs.Gauge.{RenewAsked, WindowsKept}
use Rattle.start.proofs.Readiness.{kept_length}
use Rattle.judges.specs.Judged.{WorkAsked, same_readiness, window_kept}

-- the window that the words of a buffer describe
described : (b : Buffer) (w : Accepted) → w.step ≡ value_of (window_of b.base b.format b.height) 0 →
    w.span ≡ value_of (window_of b.base b.format b.height) 1 → window_from w.step w.span ≡ window_for b
unfolding window_for step_of_buffer span_of_buffer
described b w step span = ap₂ (λ (x y : ℕ). window_from x y) step span

module _ {owned : Bool} (b : Buffer) (w : Accepted) where
  pub own_window : owned ≡ true → w ≡ unwrap_or (window_seen (window_of b.base b.format b.height)) (record { step = 0; span = 0 }) →
      window_from w.step w.span ≡ window_for (pick owned b unset)
  own_window y e = let values = default_values _ w e in described b w values.0 values.1 ∙ ap window_for (sym (pick_yes b unset y))

pub others_window : {owned : Bool} (b : Buffer) → owned ≡ false → window_from 0 0 ≡ window_for (pick owned b unset)
others_window b n = sym unset_kept ∙ ap window_for (sym (pick_no b unset n))

-- an output as its party sees it, by its place in the cells
seen_output : (mine : ℕ) (l : List ℕ) (n : ℕ) → n < 4 →
    pick (on (16 + n) mine) (buffer_at l (21 + 4 * n)) unset ≡ output (seen_outputs mine (shared_of l).outputs) n
unfolding output seen_from shared_of
seen_output mine l =
    each (λ (n : ℕ). pick (on (16 + n) mine) (buffer_at l (21 + 4 * n)) unset ≡ output (seen_outputs mine (shared_of l).outputs) n) 4
    (tt & refl & refl & refl & refl)

-- one window is kept
pub window_kept_lem : (own shared : List ℕ) (n : ℕ) → n < 4 → {w : Window} {own1 : List ℕ} →
    own1 ≡ party_cells (with_readiness (with_window n w (party_of own []).readiness) (party_of own [])) → {owned : Bool} →
    owned ≡ on (16 + n) (get_or own 17 0) → w ≡ window_for (pick owned (buffer_at shared (21 + 4 * n)) unset) →
    own1 ≡ party_cells (window_kept n (shared_of shared) (party_of own []))
unfolding party_of
window_kept_lem own shared n h k o e =
    let p = party_of own [] in
    k ∙
    ap (λ (v : Window). party_cells (with_readiness (with_window n v p.readiness) p))
    (e ∙ ap (λ (t : Bool). window_for (pick t (buffer_at shared (21 + 4 * n)) unset)) o ∙ ap window_for (seen_output p.birth.mine shared n h))

-- all four are
module _ (own shared own1 own2 own3 own4 : List ℕ) where
  abbrev kept : ℕ → List ℕ → Party
  kept n l = window_kept n (shared_of shared) (party_of l [])

  module _ (e1 : own1 ≡ party_cells (kept 0 own)) (e2 : own2 ≡ party_cells (kept 1 own1)) (e3 : own3 ≡ party_cells (kept 2 own2))
      (e4 : own4 ≡ party_cells (kept 3 own3)) where
    abbrev all_kept : Party
    all_kept =
        window_kept 3 (shared_of shared)
        (window_kept 2 (shared_of shared) (window_kept 1 (shared_of shared) (window_kept 0 (shared_of shared) (party_of own []))))

    viewed : (n : ℕ) (l : List ℕ) {m : List ℕ} → m ≡ party_cells (kept n l) → party_of m [] ≡ kept n l
    unfolding party_of party_cells
    viewed n l e = ap (λ (x : List ℕ). party_of x []) e

    after : party_of own4 [] ≡ all_kept
    after =
        viewed 3 own3 e4 ∙
        ap (λ (p : Party). window_kept 3 (shared_of shared) p)
        (viewed 2 own2 e3 ∙
        ap (λ (p : Party). window_kept 2 (shared_of shared) p)
        (viewed 1 own1 e2 ∙ ap (λ (p : Party). window_kept 1 (shared_of shared) p) (viewed 0 own e1)))

    every_window : WindowsKept all_kept.readiness (seen_outputs all_kept.birth.mine (shared_of shared).outputs)
    unfolding pick
    every_window = record { first = refl; second = refl; third = refl; fourth = refl }

    pub renew_asked : WorkAsked own shared → RenewAsked own4 shared
    renew_asked a =
        record {
          own_length_lem = kept_length (kept 3 own3) e4;
          shared_length_lem = a.shared_length_lem;
          windows =
              subst (λ (p : Party). WindowsKept p.readiness (seen_outputs p.birth.mine (shared_of shared).outputs)) (sym after)
              every_window;
          domain = subst (λ (p : Party). DomainValid p.domain) (sym after) a.domain;
        }

    pub worked_out_lem : {own5 : List ℕ} → own5 ≡ party_cells (renewed (shared_of shared) (party_of own4 [])) →
        own5 ≡ party_cells (renewed (shared_of shared) (party_of own []))
    worked_out_lem e = e ∙ ap (λ (p : Party). party_cells (renewed (shared_of shared) p)) after

-- the numbers of readiness compared, by their places in the cells
pub numbers_listed : (own fresh : List ℕ) →
    every 14 (λ k. eqb (get_or own (19 + k) 0) (get_or fresh (19 + k) 0)) ≡
    same_readiness (party_of own []).readiness (party_of fresh []).readiness
unfolding every same_readiness party_of
numbers_listed own fresh = refl

fresh_view : (p : Party) (h : Shared) {fresh : List ℕ} → fresh ≡ party_cells (renewed h p) → (party_of fresh []).readiness ≡ readiness_for p h
unfolding party_of party_cells
fresh_view p h e = ap (λ (l : List ℕ). (party_of l []).readiness) e

-- with those that were worked out
pub kept_told : (own shared fresh : List ℕ) → fresh ≡ party_cells (renewed (shared_of shared) (party_of own [])) → {r : Bool} →
    r ≡ same_readiness (party_of own []).readiness (party_of fresh []).readiness →
    r ≡ same_readiness (party_of own []).readiness (readiness_for (party_of own []) (shared_of shared))
kept_told own shared fresh e s =
    s ∙ ap (same_readiness (party_of own []).readiness) (fresh_view (party_of own []) (shared_of shared) e)
