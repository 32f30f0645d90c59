-- A domain of an accepted layout as rows of numbers: what the survey of rows asks for, and what it gives. Assumes nothing.
use mathlib.Core.Path.{◌≡◌, sym, ap, ap₂, ◌∙◌, subst}
use mathlib.Core.Bool.{Bool, true}
use mathlib.Core.List.{List, [], ◌∷◌}
use Prim.Native.Nat.{ℕ, suc, ◌+◌, ◌-◌, ◌*◌, ◌/◌, ◌%◌, ◌<◌, ◌^◌}
use native.Mathlib.Omega.{arith}
use native.Mathlib.Nat.{div-lt_iff_lt-mul}
use lib.Arith.{digits_div, digits_mod}
use lib.ListN.{get_or}
use Rattle.laws.specs.Below.{every}
use Rattle.laws.specs.Masks.{digit}
use Rattle.laws.proofs.Below.{every_at}
use Rattle.refusal.specs.Told.{gives, refuses}
use Rattle.layout.specs.declared.Layout.{Layout}
use Rattle.layout.specs.Layout.{span_of, judge_of}
use Rattle.layout.proofs.Window.{rule_bounds}
use Rattle.laws.proofs.Choice.{pick_yes}
use Rattle.address.specs.Address.{step_of, inside, address_of, layout_of}
use Rattle.address.specs.Inverse.{Accepted, Inside}
use Rattle.address.proofs.Inverse.{inverse, room}
use Rattle.memory.specs.Elements.{is_held}
use Rattle.memory.proofs.Pairs.{told_apart, is_inside}
use Rattle.memory.proofs.Places.{Held, is_held_lem}
use Rattle.conditions.specs.Conditions.{word_in}
use Rattle.conditions.specs.Spans.{SpanOf, span_bit}
use Rattle.conditions.proofs.Written.{word_few}
use Rattle.survey.specs.Asked.{StrideAsked, HeldAsked, RowsAsked}
use Rattle.survey.specs.Rows.{number_at, place_of, domain_byte, domain_held}
use Rattle.conditional.specs.Asked.{SurveyAsked}
use Rattle.conditional.specs.Conditional.{columns, pairs, pair_x, pair_y, all_held, word_at, passes_at, bit_at}

-- the judgement of an accepted layout
module _ (base pitch height : ℕ) (tiled : Bool) (a : Accepted (layout_of base pitch height 2 tiled)) where
  abbrev l : Layout
  l = layout_of base pitch height 2 tiled

  judged : judge_of base pitch height 2 tiled ≡ gives (step_of l ∷ span_of tiled 2 (step_of l) height ∷ [])
  unfolding judge_of
  judged = pick_yes _ _ a.form ∙ pick_yes _ _ a.window

  pub judged_so :
      (step span : ℕ) → gives (step ∷ span ∷ []) ≡ judge_of base pitch height 2 tiled →
      (step ≡ step_of l) × (span ≡ span_of tiled 2 (step_of l) height)
  judged_so step span told =
      let same : gives (step ∷ span ∷ []) ≡ gives (step_of l ∷ span_of tiled 2 (step_of l) height ∷ []) = told ∙ judged in
      (cc, cc)

  pub not_refused : (k : ℕ) → refuses k ≡ judge_of base pitch height 2 tiled → ⊥
  not_refused k told = told_apart (sym judged ∙ sym told)

module _
    (base pitch height : ℕ) (tiled : Bool) (step span i0 j0 i1 j1 long : ℕ)
    (asked : SurveyAsked (layout_of base pitch height 2 tiled) step span i0 j0 i1 j1 long)
  where
    abbrev L : Layout
    L = layout_of base pitch height 2 tiled

    abbrev e : ℕ
    e = step * 2 / 2

    abbrev w : ℕ
    w = i1 - i0 + 1

    abbrev h : ℕ
    h = j1 - j0 + 1

    half : e ≡ step_of L
    half = omega (arith, asked.step_is)

    w_is : w ≡ columns i0 j0 i1 j1
    w_is = omega (arith, asked.domain.columns)

    h_is : h ≡ suc j1 - j0
    h_is = omega (arith, asked.domain.rows)

    last_pair : Inside L i1 j1
    last_pair = is_inside L i1 j1 asked.domain.last

    number_is : (x y : ℕ) → number_at base tiled e x y ≡ address_of L x y
    unfolding address_of
    number_is x y = ap (λ (z : ℕ). number_at base tiled z x y) half

    inside_pair : (i j : ℕ) → i < w → j < h → Inside L (i0 + i) (j0 + j)
    inside_pair i j hi hj =
        record {
          column = omega (arith, last_pair.column, hi, asked.domain.columns);
          row = omega (arith, last_pair.row, hj, asked.domain.rows);
        }

    pub stride_fits : step * 2 < 2 ^ 32
    stride_fits =
        let b = rule_bounds base tiled 2 (step_of L) height asked.domain.accepted.window in
        omega (arith, asked.step_is, b.step_most)

    stride_asked : StrideAsked (step * 2)
    stride_asked =
        let b = rule_bounds base tiled 2 (step_of L) height asked.domain.accepted.window in
        record { whole = omega arith; step = omega (arith, half, b.step_most) }

    pub held_asked : HeldAsked base (step * 2) tiled i0 j0 w h span
    held_asked =
        let b = rule_bounds base tiled 2 (step_of L) height asked.domain.accepted.window in
        record {
          stride_is = stride_asked;
          inside = omega (arith, half, last_pair.column, asked.domain.columns);
          last = omega (arith, last_pair.row, b.height_most, asked.domain.rows);
          within =
              λ i j hi hj.
              omega (
                arith,
                number_is (i0 + i) (j0 + j),
                asked.span_is,
                (inverse L asked.domain.accepted).within (i0 + i) (j0 + j) (inside_pair i j hi hj),
              );
          fits = omega (arith, asked.span_is, room L asked.domain.accepted);
        }

    pub same_held :
        (first n : ℕ) → every (h * w) (domain_held base tiled e first n i0 j0 w) ≡ all_held i0 j0 i1 j1 L first n
    unfolding all_held address_of
    same_held first n =
        ap₂ (λ (p q : ℕ). every (p * q) (domain_held base tiled e first n i0 j0 q)) h_is w_is ∙
        ap (λ (z : ℕ). every (pairs i0 j0 i1 j1) (domain_held base tiled z first n i0 j0 (columns i0 j0 i1 j1))) half

    pub pairs_are : h * w ≡ pairs i0 j0 i1 j1
    pairs_are = ap₂ (λ (p q : ℕ). p * q) h_is w_is

    some : 0 < w
    some = omega arith

    -- the pair of row j and column i is held
    held_pair :
        (first n : ℕ) → every (h * w) (domain_held base tiled e first n i0 j0 w) ≡ true → (i j : ℕ) → i < w → j < h →
        Held first n (number_at base tiled e (i0 + i) (j0 + j)) 2
    held_pair first n t i j hi hj =
        is_held_lem first n (number_at base tiled e (i0 + i) (j0 + j)) 2
        (sym (ap₂ (λ (c d : ℕ). is_held first n (number_at base tiled e (i0 + c) (j0 + d)) 2) (digits_mod j hi) (digits_div j hi)) ∙
        every_at (h * w) (domain_held base tiled e first n i0 j0 w) t (j * w + i) below)
      where
        below : j * w + i < h * w
        below = (div-lt_iff_lt-mul {x = j * w + i} {y = h} some).0 (subst (λ (z : ℕ). z < h) (sym (digits_div j hi)) hj)

    pub rows_asked :
        (first n : ℕ) → every (h * w) (domain_held base tiled e first n i0 j0 w) ≡ true →
        RowsAsked base (step * 2) tiled i0 j0 w h first n long
    rows_asked first n t =
        record {
          stride_is = stride_asked;
          inside = held_asked.inside;
          last = held_asked.last;
          low = λ i j hi hj. (held_pair first n t i j hi hj).low;
          high = λ i j hi hj. (held_pair first n t i j hi hj).whole;
          end = (held_pair first n t 0 0 some (omega arith)).high;
          bytes = asked.long ∙ sym pairs_are;
        }

    pub same_byte :
        (test v low top : ℕ) (outside : Bool) (first : ℕ) (m : List ℕ) → SpanOf test v low top outside → ((i : ℕ) → get_or m i 0 < 256) →
        (k : ℕ) → domain_byte low top outside m base tiled e first i0 j0 w k ≡ bit_at L test v first m i0 j0 i1 j1 k
    unfolding bit_at passes_at word_at span_bit address_of
    same_byte test v low top outside first m s bytes k =
        ap₂ (λ (q z : ℕ). span_bit low top outside m (place_of base tiled z first (i0 + k % q) (j0 + k / q))) w_is half ∙
        ap digit (s.same (word_in m (address_of L (pair_x i0 j0 i1 j1 k) (pair_y i0 j0 i1 j1 k) - first)) (word_few m _ (bytes _) (bytes _)))
