-- What is kept of readiness in a new session is what its settings give: 7, and no output asks anything of a domain. Assumes nothing.
use mathlib.Core.Path.{◌≡◌, refl, sym, ap, ◌∙◌}
use mathlib.Core.List.{[], ◌∷◌}
use Prim.Native.Nat.{ℕ}
use Rattle.laws.specs.Below.{some, every, sum}
use Rattle.laws.specs.Choice.{◌and◌, pick, place_of}
use Rattle.laws.specs.Masks.{◌or◌, digit, on}
use Rattle.laws.proofs.Choice.{pick_same}
use Rattle.layout.specs.Sizes.{is_size}
use Rattle.layout.specs.Layout.{well_formed, unit_of, row_step, in_bounds, window_rule, judge_of}
use Rattle.command.specs.Format.{pitch_of, tiled_of, code_of, size_of, window_of, value_of}
use Rattle.refusal.specs.Told.{Told, refuses}
use Rattle.state.specs.State.{unset, no_window, new_readiness, new_party, new_party_of, new_shared}
use Rattle.state.specs.Seen.{seen_from, seen_outputs}
use Rattle.state.specs.Start.{
  step_of_buffer,
  span_of_buffer,
  output,
  is_set,
  counts,
  disjoint,
  complete,
  ready_of,
  number_told,
  readiness_of,
  credit_at,
  credit_of,
}
use Rattle.state.specs.Effects.{window_from}
use Rattle.state.specs.Readiness.{lesser, least_extent, window_for, columns_left, rows_left, gauge_of, worked_out, readiness_for}

-- nothing set describes no window
unset_window : window_of 0 0 0 ≡ refuses 6
unfolding window_of pitch_of tiled_of code_of size_of judge_of well_formed is_size place_of window_rule in_bounds row_step unit_of pick ◌and◌
unset_window = refl

pub unset_kept : window_for unset ≡ no_window
unfolding window_for step_of_buffer span_of_buffer value_of
unset_kept = ap (λ (t : Told). window_from (value_of t 0) (value_of t 1)) unset_window

-- none that is seen is set
none_seen : (mine : ℕ) → new_shared.outputs ≡ seen_outputs mine new_shared.outputs
unfolding seen_from
none_seen mine = λ k. none 16 k ∷ none 17 k ∷ none 18 k ∷ none 19 k ∷ []
  where
    none : (n : ℕ) → unset ≡ pick (on n mine) unset unset
    none n = sym (pick_same (on n mine) unset)

new_whole : (edition : ℕ) →
    new_readiness ≡ worked_out edition (new_party edition).domain (new_party edition).instructions new_shared.mask new_shared.outputs
unfolding worked_out readiness_of ready_of number_told complete gauge_of least_extent lesser columns_left rows_left counts is_set output some every sum credit_of credit_at digit disjoint pick ◌and◌ ◌or◌
new_whole edition =
    λ k.
    record {
      number = 7;
      gauge = new_readiness.gauge;
      window0 = sym unset_kept k;
      window1 = sym unset_kept k;
      window2 = sym unset_kept k;
      window3 = sym unset_kept k;
    }

pub new_kept : (mine edition : ℕ) → new_readiness ≡ readiness_for (new_party_of mine edition) new_shared
new_kept mine edition =
    new_whole edition ∙ ap (worked_out edition (new_party edition).domain (new_party edition).instructions new_shared.mask) (none_seen mine)
