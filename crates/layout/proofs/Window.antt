-- What an accepted layout has, and its judgement case by case as the code finds it. Assumes nothing.
use mathlib.Core.Path.{◌≡◌, sym, ap, ap₂, ◌∙◌}
use mathlib.Core.Bool.{Bool, true, false, false≢true}
use mathlib.Core.List.{[], ◌∷◌}
use Prim.Native.Nat.{ℕ, ◌+◌, ◌*◌, ◌/◌, ◌^◌, ◌<◌, ◌≤◌}
use native.Mathlib.Nat.{mul-div_cancel}
use native.Mathlib.Omega.{arith}
use borrow.Author.Tests.{leb-true}
use Rattle.laws.specs.Choice.{pick, place_of}
use Rattle.laws.proofs.Choice.{pick_yes, pick_no, and_left, and_right}
use Rattle.refusal.specs.Told.{gives, refuses}
use Rattle.layout.specs.Sizes.{is_size, width_of}
use Rattle.layout.specs.Layout.{well_formed, unit_of, row_step, span_of, in_bounds, window_rule, judge_of}
use Rattle.layout.proofs.Sizes.{by_size}

-- row step and height from 1 to 4,096
pub record Bounds (e h : ℕ) : Type 0 where
  pub step_least : 1 ≤ e
  pub step_most : e ≤ 4096
  pub height_least : 1 ≤ h
  pub height_most : h ≤ 4096

pub width_pos : (s : ℕ) → is_size s ≡ true → 0 < width_of s
unfolding width_of place_of
width_pos = by_size (λ s. 0 < width_of s) (omega arith) (omega arith) (omega arith) (omega arith) (omega arith)

pub size_most : (s : ℕ) → is_size s ≡ true → s ≤ 16
size_most = by_size (λ s. s ≤ 16) (omega arith) (omega arith) (omega arith) (omega arith) (omega arith)

-- what the tests of the judgement give
pub form_size : (base pitch s : ℕ) → well_formed base pitch s ≡ true → is_size s ≡ true
unfolding well_formed
form_size base pitch s e = and_right _ _ (and_right _ _ (and_right _ _ e))

pub bounds_of : (e h : ℕ) → in_bounds e h ≡ true → Bounds e h
unfolding in_bounds
bounds_of e h t =
    let u = and_right _ _ t in
    let v = and_right _ _ u in
    record {
      step_least = leb-true _ _ (and_left _ _ t);
      step_most = leb-true _ _ (and_left _ _ u);
      height_least = leb-true _ _ (and_left _ _ v);
      height_most = leb-true _ _ (and_right _ _ v);
    }

-- the window rule, taken apart
pub rule_bounds : (base : ℕ) (tiled : Bool) (s e h : ℕ) → window_rule base tiled s e h ≡ true → Bounds e h
unfolding window_rule
rule_bounds base tiled s e h w = bounds_of e h (and_left _ _ w)

pub rule_room : (base : ℕ) (tiled : Bool) (s e h : ℕ) → window_rule base tiled s e h ≡ true → base + span_of tiled s e h ≤ 2 ^ 32
unfolding window_rule
rule_room base tiled s e h w = leb-true _ _ (and_right _ _ w)

-- a tiled layout's row step is a whole number of tiles
pub step_whole :
    (tiled : Bool) (s pitch : ℕ) → is_size s ≡ true → tiled ≡ true →
    row_step tiled s pitch / width_of s * width_of s ≡ row_step tiled s pitch
unfolding row_step unit_of pick
step_whole true s pitch z e = ap (λ (n : ℕ). n * width_of s) (mul-div_cancel (pitch / width_of s) (width_pos s z))
step_whole false s pitch z e = absurd (false≢true e)

-- the judgement, as far as the tests on the way decide it
module _ (base pitch h s : ℕ) (tiled : Bool) where
  pub judged_malformed : well_formed base pitch s ≡ false → judge_of base pitch h s tiled ≡ refuses 3
  unfolding judge_of
  judged_malformed e = pick_no _ _ e

  module _ (form : well_formed base pitch s ≡ true) where
    pub judged_broken : window_rule base tiled s (row_step tiled s pitch) h ≡ false → judge_of base pitch h s tiled ≡ refuses 6
    unfolding judge_of
    judged_broken w = pick_yes _ _ form ∙ pick_no _ _ w

    pub judged_accepted :
        (e n : ℕ) → e ≡ row_step tiled s pitch → n ≡ span_of tiled s (row_step tiled s pitch) h →
        window_rule base tiled s (row_step tiled s pitch) h ≡ true → judge_of base pitch h s tiled ≡ gives (e ∷ n ∷ [])
    unfolding judge_of
    judged_accepted e n step span w =
        pick_yes _ _ form ∙ pick_yes _ _ w ∙ ap₂ (λ (i k : ℕ). gives (i ∷ k ∷ [])) (sym step) (sym span)
