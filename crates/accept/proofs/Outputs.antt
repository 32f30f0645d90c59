-- A command that sets an output or the mask, cell by cell as the code takes it: the windows that are kept are the outputs', so that
-- what is renewed from them is what the settings give. Assumes nothing.
use mathlib.Core.Path.{◌≡◌, refl, sym, ap, ap₂, ◌∙◌, subst}
use mathlib.Core.Bool.{Bool, true}
use mathlib.Core.List.{List, [], ◌∷◌}
use Prim.Native.Nat.{ℕ, ◌+◌, ◌*◌, ◌<◌}
use lib.ListN.{length, get_or, set, length-set}
use Rattle.laws.specs.Choice.{pick}
use Rattle.laws.proofs.Choice.{pick_yes}
use Rattle.laws.proofs.Table.{each, ◌&◌}
use Rattle.owners.specs.Owners.{mask_by, owns_output}
use Rattle.command.specs.Format.{window_of, window_seen}
use Rattle.command.specs.declared.format.Window as seen
use Rattle.command.proofs.Windows.{seen_values}
use Rattle.std.specs.Prelude.{Some}
use Rattle.command.specs.declared.commands.Command.{Command}
use Rattle.command.specs.declared.commands.Command.TheVariants as command
use Rattle.state.specs.State.{Buffer, Window, Readiness, Party, Shared, unset}
use Rattle.state.specs.Seen.{seen_from, seen_outputs}
use Rattle.state.specs.Start.{output, step_of_buffer, span_of_buffer}
use Rattle.state.specs.Readiness.{window_for, worked_out}
use Rattle.state.specs.Effects.{buffer, renewed, shared_after, took_words, window_from, with_readiness, with_window}
use Rattle.state.specs.Valid.{DomainValid}
use Rattle.state.specs.Asked.{HeldOwn, OwnAsked}
use Rattle.state.specs.Cells.{party_of, party_cells, shared_of, shared_cells, tally_cells, set_buffer, own_length, shared_length, tallies_length}
use Rattle.state.proofs.Cells.{shared_back, shared_canon, tally_canon}
use Rattle.state.proofs.SharedPuts.{output_shared, mask_shared}
use Rattle.start.specs.Gauge.{WindowsKept, RenewAsked}

-- the shared settings that the cells hold after an output or the mask was set
module _ (mine : ℕ) (h h1 : List ℕ) (z : length h ≡ shared_length) where
  pub output_set : (n b f k : ℕ) → n < 4 → h1 ≡ set_buffer h (21 + 4 * n) (buffer b f k) →
      shared_of h1 ≡ shared_after mine (command.Output n b f k) (shared_of h)
  unfolding shared_after shared_of
  output_set n b f k less e =
      ap shared_of (e ∙ output_shared mine h z n b f k less) ∙
      shared_back (shared_after mine (command.Output n b f k) (shared_of h)) (length-set (shared_of h).outputs n (buffer b f k)) refl

  pub mask_set : (n : ℕ) → h1 ≡ set h 0 (mask_by mine n (get_or h 0 0)) → shared_of h1 ≡ shared_after mine (command.OutputMask n) (shared_of h)
  unfolding shared_after shared_of
  mask_set n e = ap shared_of (e ∙ mask_shared mine h z n) ∙ shared_back (shared_after mine (command.OutputMask n) (shared_of h)) refl refl

-- another mask leaves the outputs as they are
mask_outputs : (h h1 : List ℕ) → length h ≡ shared_length → (n : ℕ) → h1 ≡ set h 0 n → (shared_of h1).outputs ≡ (shared_of h).outputs
unfolding shared_of shared_cells
mask_outputs h h1 z n e = ap (λ (x : List ℕ). (shared_of x).outputs) e ∙ ap (λ (x : List ℕ). (shared_of (set x 0 n)).outputs) (sym (shared_canon h z))

-- the length of the shared cells stands
pub set_length : (h h1 : List ℕ) → length h ≡ shared_length → (n : ℕ) → h1 ≡ set h 0 n → length h1 ≡ shared_length
set_length h h1 z n e = ap length e ∙ length-set h 0 n ∙ z

pub put_length : (h h1 : List ℕ) → length h ≡ shared_length → (at : ℕ) (b : Buffer) → h1 ≡ set_buffer h at b → length h1 ≡ shared_length
put_length h h1 z at b e =
    let one = set h at b.is_set in
    let two = set one (at + 1) b.base in
    let three = set two (at + 2) b.format in
    ap length e ∙ length-set three (at + 3) b.height ∙ length-set two (at + 2) b.format ∙ length-set one (at + 1) b.base ∙
    length-set h at b.is_set ∙ z

-- the window of the output that was set in the place of the old one's
window_set : (mine : ℕ) (l h : List ℕ) (n b f k : ℕ) → n < 4 → owns_output mine n ≡ true → (w : Window) → w ≡ window_for (buffer b f k) →
    WindowsKept (party_of l []).readiness (seen_outputs mine (shared_of h).outputs) →
    WindowsKept (with_window n w (party_of l []).readiness) (seen_outputs mine (set (shared_of h).outputs n (buffer b f k)))
unfolding output pick shared_of seen_from
window_set mine l h n b f k less o w e kept =
    each
    (λ x. owns_output mine x ≡ true → WindowsKept (with_window x w (party_of l []).readiness) (seen_outputs mine (set (shared_of h).outputs x (buffer b f k))))
    4
    (tt
    & (λ q. record { first = e ∙ seen q; second = kept.second; third = kept.third; fourth = kept.fourth })
    & (λ q. record { first = kept.first; second = e ∙ seen q; third = kept.third; fourth = kept.fourth })
    & (λ q. record { first = kept.first; second = kept.second; third = e ∙ seen q; fourth = kept.fourth })
    & (λ q. record { first = kept.first; second = kept.second; third = kept.third; fourth = e ∙ seen q }))
    n less o
  where
    seen : {t : Bool} → t ≡ true → window_for (buffer b f k) ≡ window_for (pick t (buffer b f k) unset)
    seen q = ap window_for (sym (pick_yes (buffer b f k) unset q))

-- own cells `l`, and `l1` after `m` words were counted; shared cells `h`, and `h1` after the command set them
module _ (l l1 h h1 : List ℕ) (m : ℕ) (e : l1 ≡ party_cells (took_words m (party_of l []))) (asked : RenewAsked l h) where
  counted_domain : DomainValid (party_of l1 []).domain
  unfolding party_of party_cells
  counted_domain = subst (λ (x : List ℕ). DomainValid (party_of x []).domain) (sym e) asked.domain

  counted_readiness : (party_of l1 []).readiness ≡ (party_of l []).readiness
  unfolding party_of party_cells
  counted_readiness = ap (λ (x : List ℕ). (party_of x []).readiness) e

  counted_mine : (party_of l1 []).birth.mine ≡ (party_of l []).birth.mine
  unfolding party_of party_cells
  counted_mine = ap (λ (x : List ℕ). (party_of x []).birth.mine) e

  pub counted_length : length l1 ≡ own_length
  unfolding party_cells
  counted_length = ap length e

  -- the mask is set: the windows that are kept stand
  pub mask_asked : (n : ℕ) → h1 ≡ set h 0 n → RenewAsked l1 h1
  mask_asked n q =
      record {
        own_length_lem = counted_length;
        shared_length_lem = set_length h h1 asked.shared_length_lem n q;
        windows =
            subst (λ (o : List Buffer). WindowsKept (party_of l1 []).readiness (seen_outputs (party_of l1 []).birth.mine o))
            (sym (mask_outputs h h1 asked.shared_length_lem n q))
            (subst (λ (x : ℕ). WindowsKept (party_of l1 []).readiness (seen_outputs x (shared_of h).outputs)) (sym counted_mine)
            (subst (λ (r : Readiness). WindowsKept r (seen_outputs (party_of l []).birth.mine (shared_of h).outputs)) (sym counted_readiness)
            asked.windows));
        domain = counted_domain;
      }

  module _ (n b f k : ℕ) (less : n < 4) (owns : owns_output (party_of l []).birth.mine n ≡ true) (w : seen.Window)
      (judged : window_seen (window_of b f k) ≡ Some w) (l2 : List ℕ)
      (e2 : l2 ≡ party_cells (with_readiness (with_window n (window_from w.step w.span) (party_of l1 []).readiness) (party_of l1 []))) where
    judged_window : window_from w.step w.span ≡ window_for (buffer b f k)
    unfolding window_for step_of_buffer span_of_buffer
    judged_window = let values = seen_values _ w judged in ap₂ (λ (x y : ℕ). window_from x y) values.0 values.1

    set_readiness : (party_of l2 []).readiness ≡ with_window n (window_from w.step w.span) (party_of l []).readiness
    set_readiness = stored ∙ ap (λ (r : Readiness). with_window n (window_from w.step w.span) r) counted_readiness
      where
        stored : (party_of l2 []).readiness ≡ with_window n (window_from w.step w.span) (party_of l1 []).readiness
        stored = unfold party_of party_cells in ap (λ (x : List ℕ). (party_of x []).readiness) e2

    set_mine : (party_of l2 []).birth.mine ≡ (party_of l []).birth.mine
    set_mine = stored ∙ counted_mine
      where
        stored : (party_of l2 []).birth.mine ≡ (party_of l1 []).birth.mine
        stored = unfold party_of party_cells in ap (λ (x : List ℕ). (party_of x []).birth.mine) e2

    set_domain_lem : DomainValid (party_of l2 []).domain
    unfolding party_of party_cells
    set_domain_lem = subst (λ (x : List ℕ). DomainValid (party_of x []).domain) (sym e2) counted_domain

    pub output_asked : h1 ≡ set_buffer h (21 + 4 * n) (buffer b f k) → RenewAsked l2 h1
    output_asked q =
        let mine = (party_of l []).birth.mine in
        record {
          own_length_lem = unfold party_cells in ap length e2;
          shared_length_lem = put_length h h1 asked.shared_length_lem (21 + 4 * n) (buffer b f k) q;
          windows =
              subst (λ (x : ℕ). WindowsKept (party_of l2 []).readiness (seen_outputs x (shared_of h1).outputs)) (sym set_mine)
              (subst (λ (r : Readiness). WindowsKept r (seen_outputs mine (shared_of h1).outputs)) (sym set_readiness)
              (subst (λ (s : Shared). WindowsKept (with_window n (window_from w.step w.span) (party_of l []).readiness) (seen_outputs mine s.outputs))
              (sym (output_set mine h h1 asked.shared_length_lem n b f k less q))
              (unfold shared_after in window_set mine l h n b f k less owns (window_from w.step w.span) judged_window asked.windows)));
          domain = set_domain_lem;
        }

-- own cells that were renewed are those of the party renewed, whatever was kept before
pub renewed_own : (l1 l2 t h1 : List ℕ) (h : Shared) (r : Readiness) → shared_of h1 ≡ h → length t ≡ tallies_length →
    l2 ≡ party_cells (with_readiness r (party_of l1 [])) → (l3 : List ℕ) → l3 ≡ party_cells (renewed (shared_of h1) (party_of l2 [])) →
    HeldOwn (renewed h (party_of l1 t)) l3 t
renewed_own l1 l2 t h1 h r e z e2 l3 e3 =
    record {
      own_cells =
          e3 ∙ ap (λ (x : List ℕ). party_cells (renewed (shared_of h1) (party_of x []))) e2 ∙
          unfold party_of party_cells in ap (λ (s : Shared). party_cells (renewed s (party_of l1 t))) e;
      tally_cells_lem = unfold party_of tally_cells in sym (tally_canon l1 t z);
    }

-- what renewing asks, from what is asked of a command
pub renew_asked : (l t h : List ℕ) → OwnAsked l t h → RenewAsked l h
unfolding party_of worked_out
renew_asked l t h a =
    record {
      own_length_lem = a.sized.own_length_lem;
      shared_length_lem = a.sized.shared_length_lem;
      windows =
          record {
            first = ap (λ (r : Readiness). r.window0) a.kept;
            second = ap (λ (r : Readiness). r.window1) a.kept;
            third = ap (λ (r : Readiness). r.window2) a.kept;
            fourth = ap (λ (r : Readiness). r.window3) a.kept;
          };
      domain = a.domain;
    }
