-- The unit with a session's settings: one law a return of the entries. Assumes nothing.
use mathlib.Core.Path.{◌≡◌, sym, ap, ◌∙◌, subst}
use mathlib.Core.Bool.{Bool, true, false}
use mathlib.Core.List.{List}
use Prim.Native.Nat.{ℕ}
use lib.Dec.{eqb}
use borrow.Author.Tests.{eq-eqb, ne_eqb}
use Rattle.laws.specs.Choice.{◌and◌}
use Rattle.laws.proofs.Choice.{pick_yes, pick_no, and_intro, and_no_left, and_no_right}
use Rattle.refusal.specs.Told.{Told, refuses}
use Rattle.layout.specs.declared.Layout.{Layout}
use Rattle.address.specs.Address.{layout_of}
use Rattle.command.specs.Format.{pitch_of, tiled_of, code_of}
use Rattle.state.specs.State.{Shared}
use Rattle.queries.specs.Queries.{setting_of}
use Rattle.queries.specs.declared.Setting.{Setting}
use Rattle.conditional.specs.Conditional.{buffer_layout, if_ready, pair_of, pairs, bit_at, domain_of, listed, test_of, survey_of, bytes_of, Answers}

module _ (s : Shared) (b : Setting) (eb : b ≡ setting_of s.conditional) where
  present_is : b.present ≡ eqb s.conditional.is_set 1
  present_is = ap (λ (z : Setting). z.present) eb

  -- "With no conditional buffer or test set, 7"
  pub buffer_unset : (t : Told) → b.present ≡ false → if_ready s t ≡ refuses 7
  unfolding if_ready
  buffer_unset t h = pick_no _ _ (and_no_left _ (sym present_is ∙ h))

  pub test_unset : (t : Told) (has : Bool) → has ≡ eqb s.test_set 1 → has ≡ false → if_ready s t ≡ refuses 7
  unfolding if_ready
  test_unset t has eh h = pick_no _ _ (and_no_right _ (sym eh ∙ h))

  module _ (has : Bool) (eh : has ≡ eqb s.test_set 1) (set : b.present ≡ true) (tests : has ≡ true) (code : ℕ) (ec : code ≡ code_of b.format) where
    both : (eqb s.conditional.is_set 1 and eqb s.test_set 1) ≡ true
    both = and_intro (sym present_is ∙ set) (sym eh ∙ tests)

    code_is : code ≡ code_of s.conditional.format
    code_is = ec ∙ ap (λ (z : Setting). code_of z.format) eb

    -- "then 3"
    pub other_format : (t : Told) → (code ≡ 0 → ⊥) → if_ready s t ≡ refuses 3
    unfolding if_ready
    other_format t h = pick_yes _ _ both ∙ pick_no _ _ (ne_eqb (code_of s.conditional.format) 0 (λ e. h (code_is ∙ e)))

    pub ready : (t : Told) → code ≡ 0 → if_ready s t ≡ t
    unfolding if_ready
    ready t h = pick_yes _ _ both ∙ pick_yes _ _ (eq-eqb (code_of s.conditional.format) 0 (sym code_is ∙ h))

  -- what holds of the layout and the test that the code hands over holds of the settings' own
  module _ (pitch test : ℕ) (tiled : Bool) (ep : pitch ≡ pitch_of b.format) (et : tiled ≡ tiled_of b.format) (es : test ≡ s.test) where
    handed : (P : Layout → ℕ → Type 0) → P (layout_of b.base pitch b.height 2 tiled) test → P (buffer_layout s.conditional) s.test
    handed P h =
        subst (λ (z : Setting). P (layout_of z.base (pitch_of z.format) z.height 2 (tiled_of z.format)) s.test) eb
        (subst (λ (n : ℕ). P (layout_of b.base n b.height 2 (tiled_of b.format)) s.test) ep
        (subst (λ (t : Bool). P (layout_of b.base pitch b.height 2 t) s.test) et
        (subst (λ (n : ℕ). P (layout_of b.base pitch b.height 2 tiled) n) es h)))

    pub tested_so :
        (v first x y : ℕ) (m : List ℕ) (r : Told) → ((t : Told) → if_ready s t ≡ t) →
        r ≡ pair_of (layout_of b.base pitch b.height 2 tiled) test v first m x y → r ≡ test_of s v first m x y
    unfolding test_of
    tested_so v first x y m r go h = handed (λ (l : Layout) (n : ℕ). r ≡ pair_of l n v first m x y) h ∙ sym (go _)

    pub surveyed_so :
        (v first i0 j0 i1 j1 room : ℕ) (m before after : List ℕ) (r : Told) → ((t : Told) → if_ready s t ≡ t) →
        Answers (domain_of (layout_of b.base pitch b.height 2 tiled) test v first m i0 j0 i1 j1 room)
        (listed (pairs i0 j0 i1 j1) (bit_at (layout_of b.base pitch b.height 2 tiled) test v first m i0 j0 i1 j1)) r before after →
        Answers (survey_of s v first m i0 j0 i1 j1 room) (bytes_of s v first m i0 j0 i1 j1) r before after
    unfolding survey_of bytes_of
    surveyed_so v first i0 j0 i1 j1 room m before after r go h =
        subst (λ (t : Told). Answers t (bytes_of s v first m i0 j0 i1 j1) r before after) (sym (go _))
        (handed
        (λ (l : Layout) (n : ℕ). Answers (domain_of l n v first m i0 j0 i1 j1 room) (listed (pairs i0 j0 i1 j1) (bit_at l n v first m i0 j0 i1 j1)) r before after)
        h)
