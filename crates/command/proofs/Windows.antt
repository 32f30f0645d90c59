-- Laws of a format word's fields, and the window that base, format and height describe: words that passed their checks get
-- no 3 from it. Assumes nothing.
use mathlib.Core.Path.{◌≡◌, refl, sym, ap, ◌∙◌}
use mathlib.Core.Bool.{Bool, true, false}
use mathlib.Core.List.{List, [], ◌∷◌}
use Prim.Native.Nat.{ℕ, ◌*◌, ◌/◌, ◌%◌, ◌^◌, ◌<◌, ◌≤◌}
use native.Mathlib.Omega.{arith}
use lib.Dec.{eqb}
use lib.ListN.{get_or-eq_default}
use borrow.Author.Tests.{eqb-true, leb-true, eq-eqb, le-leb}
use Rattle.laws.specs.Below.{every}
use Rattle.laws.specs.Choice.{◌and◌, pick, place_of}
use Rattle.laws.proofs.Below.{every_at}
use Rattle.laws.proofs.Choice.{pick_yes, and_intro, and_left, and_right}
use Rattle.laws.proofs.Table.{NoneOf}
use Rattle.refusal.specs.Told.{Told, gives, refuses, is_given}
use Rattle.layout.specs.Sizes.{is_size}
use Rattle.layout.specs.Layout.{well_formed, window_rule, row_step, span_of, judge_of}
use Rattle.layout.proofs.Window.{judged_malformed, judged_broken, judged_accepted}
use Rattle.command.specs.Format.{pitch_of, tiled_of, code_of, size_of, channels_of, window_of, value_of, window_seen}
use Rattle.command.specs.declared.format.Window.{Window}
use Rattle.std.specs.Prelude.{Some, None, is_some, unwrap_or}
use Rattle.std.proofs.lemmas.Option.{same_Some, none-some}
use Rattle.command.specs.Kinds.{format_allowed, allowed}
use Rattle.command.specs.declared.kinds.Kind.TheVariants.{Base, Format, InputFormat}

-- codes above 4 have no channels, and those above 7 no size
pub code_past : (code : ℕ) → NoneOf Unit (0 ∷ 1 ∷ 2 ∷ 3 ∷ 4 ∷ []) code → 5 ≤ code
code_past code r =
    let n0 : code ≡ 0 → ⊥ = r.0.0.0.0.1 in
    let n1 : code ≡ 1 → ⊥ = r.0.0.0.1 in
    let n2 : code ≡ 2 → ⊥ = r.0.0.1 in
    let n3 : code ≡ 3 → ⊥ = r.0.1 in
    let n4 : code ≡ 4 → ⊥ = r.1 in
    omega arith

pub size_past : (code : ℕ) → 7 < code → 0 ≡ size_of code
unfolding size_of
size_past code h = sym (get_or-eq_default (2 ∷ 4 ∷ 4 ∷ 8 ∷ 16 ∷ []) 0 {n = code} (omega arith))

-- the sizes as the digits of one number, five bits each
digit_right : ℕ → Bool
digit_right code = eqb (17043586 / 2 ^ (5 * code) % 32) (size_of code)

digits_right : (code : ℕ) → code < 8 → digit_right code ≡ true
unfolding digit_right size_of every ◌and◌
digits_right = every_at 8 digit_right refl

pub size_read : (code : ℕ) → code ≤ 7 → 17043586 / 2 ^ (5 * code) % 32 ≡ size_of code
unfolding digit_right
size_read code h = eqb-true _ _ (digits_right code (omega arith))

pub channels_past : (code : ℕ) → NoneOf Unit (0 ∷ 1 ∷ 2 ∷ 3 ∷ 4 ∷ []) code → channels_of code ≡ 0
unfolding channels_of
channels_past code r = get_or-eq_default (1 ∷ 4 ∷ 1 ∷ 2 ∷ 4 ∷ []) 0 {n = code} (code_past code r)

-- the window from the fields as the code reads them
pub window_read :
    (base format height pitch code size : ℕ) (tiled : Bool) → pitch ≡ pitch_of format → code ≡ code_of format →
    size ≡ size_of code → tiled ≡ tiled_of format → judge_of base pitch height size tiled ≡ window_of base format height
unfolding window_of
window_read base format height pitch code size tiled p c s t = cc

-- what a window is seen to be, by the tests of its layout's numbers
module _
    (base format h p k s : ℕ)
    (t : Bool)
    (ep : p ≡ pitch_of format)
    (ek : k ≡ code_of format)
    (es : s ≡ size_of k)
    (et : t ≡ tiled_of format)
  where
    abbrev read : judge_of base p h s t ≡ window_of base format h
    read = window_read base format h p k s t ep ek es et

    pub seen_malformed : well_formed base p s ≡ false → None ≡ window_seen (window_of base format h)
    seen_malformed w = ap window_seen (sym (judged_malformed base p h s t w) ∙ read)

    module _ (w : well_formed base p s ≡ true) where
      pub seen_broken : window_rule base t s (row_step t s p) h ≡ false → None ≡ window_seen (window_of base format h)
      seen_broken r = ap window_seen (sym (judged_broken base p h s t w r) ∙ read)

      pub seen_accepted : (e n : ℕ) → e ≡ row_step t s p → n ≡ span_of t s (row_step t s p) h → window_rule base t s (row_step t s p) h ≡ true →
          Some (record { step = e; span = n }) ≡ window_seen (window_of base format h)
      seen_accepted e n step span r = ap window_seen (sym (judged_accepted base p h s t w e n step span r) ∙ read)

-- a window is seen where it is accepted
pub seen_given : (t : Told) → is_some (window_seen t) ≡ is_given t
unfolding is_given
seen_given (gives values) = refl
seen_given (refuses number) = refl

-- the row step and the span of a window that is seen; those of one that isn't are 0
pub seen_values : (t : Told) (w : Window) → window_seen t ≡ Some w → (w.step ≡ value_of t 0) × (w.span ≡ value_of t 1)
unfolding value_of
seen_values (gives values) w e =
    let same = same_Some _ _ e in
    (sym (ap (λ (v : Window). v.step) same), sym (ap (λ (v : Window). v.span) same))
seen_values (refuses number) w e = absurd (none-some _ e)

pub default_values : (t : Told) (w : Window) → w ≡ unwrap_or (window_seen t) (record { step = 0; span = 0 }) →
    (w.step ≡ value_of t 0) × (w.span ≡ value_of t 1)
unfolding value_of
default_values (gives values) w e = (ap (λ (v : Window). v.step) e, ap (λ (v : Window). v.span) e)
default_values (refuses number) w e = (ap (λ (v : Window). v.step) e, ap (λ (v : Window). v.span) e)

-- what an allowed format word has
pub record Allowed (w : ℕ) : Type 0 where
  pub low : w % 2 ^ 2 ≡ 0
  pub code : code_of w ≤ 4

allowed_format : (w : ℕ) → format_allowed w ≡ true → Allowed w
unfolding format_allowed
allowed_format w e =
    record {
      low = eqb-true _ _ (and_left _ _ e);
      code = leb-true _ _ (and_right _ _ (and_right _ _ (and_right _ _ (and_right _ _ e))));
    }

-- each code that is allowed has one of the five sizes
sized : ℕ → Bool
sized code = is_size (size_of code)

sizes_right : (code : ℕ) → code < 5 → sized code ≡ true
unfolding sized is_size size_of place_of every pick ◌and◌
sizes_right = every_at 5 sized refl

six_or_given : (values : List ℕ) (t : Bool) → pick t (gives values) (refuses 6) ≡ refuses 3 → ⊥
unfolding pick
six_or_given values true q = let z : ◌≡◌ {A = ℕ} 0 1 = cc in omega arith
six_or_given values false q = let z : ◌≡◌ {A = ℕ} 6 3 = cc in omega arith

six_else : (values : List ℕ) (t : Bool) → is_given (pick t (gives values) (refuses 6)) ≡ false → pick t (gives values) (refuses 6) ≡ refuses 6
unfolding pick is_given
six_else values true q = absurd (let z : ◌≡◌ {A = Bool} true false = q in let y : ◌≡◌ {A = ℕ} 0 1 = cc in omega arith)
six_else values false q = refl

-- an input's format word is allowed as any format word is
pub input_format : (w : ℕ) → allowed InputFormat w ≡ true → allowed Format w ≡ true
unfolding allowed
input_format w e = and_left _ _ e

-- allowed words make a well-formed layout: what their window gets is 6 or its row step and span, never 3
module _ (base format height : ℕ) (b : allowed Base base ≡ true) (f : allowed Format format ≡ true) where
  pub window_formed : well_formed base (pitch_of format) (size_of (code_of format)) ≡ true
  unfolding well_formed allowed pitch_of sized
  window_formed =
      let a = allowed_format format f in
      let l : format % 2 ^ 2 ≡ 0 = a.low in
      let k : code_of format ≤ 4 = a.code in
      and_intro b
      (and_intro (eq-eqb (format % 2 ^ 13 % 4) 0 (omega arith))
      (and_intro (le-leb (format % 2 ^ 13) 8188 (omega arith)) (sizes_right (code_of format) (omega arith))))

  pub window_ruled :
      let e : ℕ = row_step (tiled_of format) (size_of (code_of format)) (pitch_of format) in
      window_of base format height ≡
      pick (window_rule base (tiled_of format) (size_of (code_of format)) e height)
      (gives (e ∷ span_of (tiled_of format) (size_of (code_of format)) e height ∷ []))
      (refuses 6)
  unfolding window_of judge_of
  window_ruled = pick_yes _ _ window_formed

  -- so a window that isn't accepted gets 6
  pub window_six : is_given (window_of base format height) ≡ false → window_of base format height ≡ refuses 6
  window_six e = window_ruled ∙ six_else _ _ (sym (ap is_given window_ruled) ∙ e)

  pub window_not_three : window_of base format height ≡ refuses 3 → ⊥
  window_not_three e =
      six_or_given _ (window_rule base (tiled_of format) (size_of (code_of format)) (row_step (tiled_of format) (size_of (code_of format)) (pitch_of format)) height)
      (sym window_ruled ∙ e)
