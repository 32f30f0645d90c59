-- What the settings show, and the format that a line of the command table sets. Assumes nothing.
use mathlib.Core.Path.{◌≡◌, refl, sym, ap, ap₂, ◌∙◌}
use mathlib.Core.Bool.{Bool, true, false}
use mir.Val.{bool_byte as from_bool}
use mathlib.Core.List.{[], ◌∷◌}
use Prim.Native.Nat.{ℕ, ◌≤◌}
use lib.Dec.{eqb}
use lib.ListN.{get_or-eq_default}
use borrow.Author.Tests.{ne_eqb}
use Rattle.laws.specs.Choice.{pick}
use Rattle.laws.proofs.Choice.{pick_no}
use Rattle.refusal.specs.Told.{gives, refuses}
use Rattle.command.specs.Table.{headers, header_of}
use Rattle.state.specs.State.{Party, Shared}
use Rattle.queries.specs.Queries.{bounds_of}
use Rattle.queries.specs.declared.Bounds.{Bounds}
use Rattle.queries.specs.declared.Setting.{Setting}
use Rattle.refusal.specs.Crossing.{Shows, flag}
use Rattle.setting_rooms.specs.Rooms.{standing_numbers, domain_numbers, mask_numbers, open_header, format_told, numbered_told, format_at, format_numbers}

-- a flag as a number, as the code converts it
pub flag_from : (t : Bool) → from_bool t ≡ flag t
flag_from true = refl
flag_from false = refl

-- no line past the table has a header
pub no_header : (line : ℕ) → 21 ≤ line → open_header line ≡ 0
unfolding header_of
no_header line past = get_or-eq_default headers 0 past

pub standing_shows :
    (p : Party) (taken stopped header count line ready edition : ℕ) (s : Bool) →
    taken ≡ p.taken → stopped ≡ flag s → s ≡ eqb p.stopped 1 → header ≡ open_header line → line ≡ p.opened.line →
    count ≡ p.opened.count → ready ≡ p.readiness.number → edition ≡ p.birth.edition →
    Shows (standing_numbers p) 0 (taken ∷ stopped ∷ header ∷ count ∷ ready ∷ edition ∷ [])
unfolding standing_numbers
standing_shows p taken stopped header count line ready edition s e1 e2 e3 e4 e5 e6 e7 e8 = record { status = refl; room = cc }

pub domain_shows :
    (p : Party) (b : Bounds) (set : ℕ) → b ≡ bounds_of p.domain → set ≡ flag b.present →
    Shows (domain_numbers p) 0 (set ∷ b.i0 ∷ b.j0 ∷ b.i1 ∷ b.j1 ∷ [])
unfolding domain_numbers
domain_shows p b set e same =
    record {
      status = refl;
      room =
          ap₂ (λ (f : ℕ) (d : Bounds). f ∷ d.i0 ∷ d.j0 ∷ d.i1 ∷ d.j1 ∷ [])
          (same ∙ ap (λ (d : Bounds). flag d.present) e)
          e;
    }

pub masks_shows :
    (h : Shared) (mask conditional_set conditional test_set test : ℕ) (c t : Bool) →
    mask ≡ h.mask → conditional_set ≡ flag c → c ≡ eqb h.conditional_mask_set 1 → conditional ≡ h.conditional_mask →
    test_set ≡ flag t → t ≡ eqb h.test_set 1 → test ≡ h.test →
    Shows (mask_numbers h) 0 (mask ∷ conditional_set ∷ conditional ∷ test_set ∷ test ∷ [])
unfolding mask_numbers
masks_shows h mask conditional_set conditional test_set test c t e1 e2 e3 e4 e5 e6 e7 = record { status = refl; room = cc }

-- a format in four numbers, the first of them reckoned
pub setting_told :
    (s : Setting) (set : ℕ) → set ≡ flag s.present → gives (format_numbers s) ≡ gives (set ∷ s.base ∷ s.format ∷ s.height ∷ [])
unfolding format_numbers
setting_told s set same = ap (λ (f : ℕ). gives (f ∷ s.base ∷ s.format ∷ s.height ∷ [])) (sym same)

-- the format of each line that sets one
module _ (p : Party) (h : Shared) (line number : ℕ) where
  at : (k : ℕ) → line ≡ k → format_at p h k number ≡ format_at p h line number
  at k e = ap (λ (l : ℕ). format_at p h l number) (sym e)

  pub instructions_line : line ≡ 3 → format_told p.instructions ≡ format_at p h line number
  unfolding format_at pick
  instructions_line e = at 3 e

  pub inputs_line : line ≡ 4 → numbered_told h.inputs 16 number ≡ format_at p h line number
  unfolding format_at pick
  inputs_line e = at 4 e

  pub outputs_line : line ≡ 5 → numbered_told h.outputs 4 number ≡ format_at p h line number
  unfolding format_at pick
  outputs_line e = at 5 e

  pub conditional_line : line ≡ 6 → format_told h.conditional ≡ format_at p h line number
  unfolding format_at pick
  conditional_line e = at 6 e

  pub floats_line : line ≡ 7 → format_told h.floats ≡ format_at p h line number
  unfolding format_at pick
  floats_line e = at 7 e

  pub integers_line : line ≡ 8 → format_told h.integers ≡ format_at p h line number
  unfolding format_at pick
  integers_line e = at 8 e

  pub booleans_line : line ≡ 9 → format_told h.booleans ≡ format_at p h line number
  unfolding format_at pick
  booleans_line e = at 9 e

  pub other_line :
      (line ≡ 3 → ⊥) → (line ≡ 4 → ⊥) → (line ≡ 5 → ⊥) → (line ≡ 6 → ⊥) → (line ≡ 7 → ⊥) → (line ≡ 8 → ⊥) → (line ≡ 9 → ⊥) →
      refuses 2 ≡ format_at p h line number
  unfolding format_at
  other_line n3 n4 n5 n6 n7 n8 n9 =
      sym
      (pick_no _ _ (ne_eqb _ _ n3) ∙ pick_no _ _ (ne_eqb _ _ n4) ∙ pick_no _ _ (ne_eqb _ _ n5) ∙
      pick_no _ _ (ne_eqb _ _ n6) ∙ pick_no _ _ (ne_eqb _ _ n7) ∙ pick_no _ _ (ne_eqb _ _ n8) ∙ pick_no _ _ (ne_eqb _ _ n9))
