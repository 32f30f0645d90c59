-- Each return of the writer by lines: a command that its tests don't accept, room that is too short, words that are stored; and
-- the lines whose one parameter is reserved. Assumes nothing.
use mathlib.Core.Path.{◌≡◌, refl, sym, ap, ap₂, ◌∙◌, subst}
use mathlib.Core.Bool.{Bool, true, false}
use mathlib.Core.List.{List, [], ◌∷◌, ◌++◌}
use Prim.Native.Nat.{ℕ, ◌+◌, ◌<◌, ◌≤◌}
use native.Mathlib.Omega.{arith}
use lib.Dec.{lit≤}
use lib.ListN.{length, get_or, take, drop}
use lib.Seq.{length-take-le}
use borrow.Author.Tests.{le-leb, lt-leb}
use Rattle.std.specs.Prelude.{Option, Some, None}
use Rattle.laws.proofs.Choice.{pick_yes, pick_no}
use Rattle.laws.proofs.Table.{each, ◌&◌, NoneOf, none_at}
use Rattle.refusal.specs.Told.{Told, gives, refuses, is_given, then_told}
use Rattle.command.specs.Table.{header_of}
use Rattle.command.specs.Commands.{no_effect_line, line_of, fields_of, words_of, command_of}
use Rattle.command.specs.declared.commands.Command.{Command}
use Rattle.command.specs.declared.commands.NoEffect.TheVariants.{
  Wait,
  InvalidateInstructions,
  InvalidateFloats,
  InvalidateIntegers,
  InvalidateBooleans,
  InvalidateConditional,
  InvalidateInputs,
  FlushOutputs,
  FlushConditional,
}
use Rattle.rules.specs.Writer.{judge_command_of, write_of, room_after}
use Rattle.rules.proofs.Judging.{then_given}
use Rattle.rules.proofs.Fitting.{given_fine, fine_given, start_fits, effectless_fits}
use Rattle.line_writer.specs.Tried.{words_told, Tried}

module _ (c : Command) (before : List ℕ) where
  -- a refusal, whatever would come next
  refused : (t next : Told) → is_given t ≡ false → (None ≡ words_told (then_told t next)) × (before ≡ room_after (then_told t next) c before)
  unfolding then_told is_given room_after
  refused (gives values) next e = absurd (let z : ◌≡◌ {A = ℕ} 0 1 = cc in omega arith)
  refused (refuses number) next e = (refl, refl)

  pub unfit : (fits : Bool) → fits ≡ is_given (judge_command_of c) → fits ≡ false → Tried c None before before
  unfolding write_of
  unfit fits same e = let both = refused (judge_command_of c) _ (sym same ∙ e) in record { words = both.0; room = both.1 }

  module _ (fits : Bool) (same : fits ≡ is_given (judge_command_of c)) (e : fits ≡ true) (words : List ℕ) (are : words ≡ words_of c) where
    judged : judge_command_of c ≡ gives []
    judged = given_fine c (sym same ∙ e)

    pub short : length before < length words → Tried c None before before
    unfolding write_of room_after
    short h =
        let told : write_of c (length before) ≡ refuses 11 =
        then_given _ judged ∙ pick_no _ _ (lt-leb (length (words_of c)) (length before) (rw are at h))
        in
        record { words = sym (ap words_told told); room = sym (ap (λ (t : Told). room_after t c before) told) }

    pub stored : (n : ℕ) (after : List ℕ) → length words ≡ n → n ≤ length before → after ≡ words ++ drop n before → Tried c (Some n) before after
    unfolding write_of room_after
    stored n after counted h is =
        let told : write_of c (length before) ≡ gives (length (words_of c) ∷ []) =
        then_given _ judged ∙
        pick_yes _ _ (le-leb (length (words_of c)) (length before) (let k : length (words_of c) ≡ n = sym (ap length are) ∙ counted in omega arith))
        in
        record {
          words = ap (λ (k : ℕ). Some k) (sym counted ∙ ap length are) ∙ sym (ap words_told told);
          room = is ∙ ap₂ (λ (ws : List ℕ) (k : ℕ). ws ++ drop k before) are (sym counted ∙ ap length are) ∙ sym (ap (λ (t : Told). room_after t c before) told);
        }

-- a header and `n` of four parameters are a word more
pub counted : (n h p0 p1 p2 p3 : ℕ) → n ≤ 4 → length (h ∷ take n (p0 ∷ p1 ∷ p2 ∷ p3 ∷ [])) ≡ n + 1
counted n h p0 p1 p2 p3 most =
    let k : length (take n (p0 ∷ p1 ∷ p2 ∷ p3 ∷ [])) ≡ n = length-take-le n (p0 ∷ p1 ∷ p2 ∷ p3 ∷ []) most in omega arith

-- a command by the number of its line
module _ (p0 p1 p2 p3 : ℕ) (r : Option ℕ) (before after : List ℕ) where
  pub at_line_lem : (m n h : ℕ) → m ≡ n → h ≡ header_of m → (h ≡ header_of n → Tried (command_of n p0 p1 p2 p3) r before after) →
      Tried (command_of m p0 p1 p2 p3) r before after
  at_line_lem m n h e w q = subst (λ (x : ℕ). Tried (command_of x p0 p1 p2 p3) r before after) (sym e) (q (w ∙ ap header_of e))

pub headed : {h k : ℕ} (rest : List ℕ) → h ≡ k → h ∷ rest ≡ k ∷ rest
headed {h} {k} rest e = ap {B = List ℕ} (λ (x : ℕ). x ∷ rest) e

-- the lines whose arms name them
abbrev pub named : List ℕ
named = 0 ∷ 3 ∷ 4 ∷ 5 ∷ 6 ∷ 7 ∷ 8 ∷ 9 ∷ 18 ∷ 19 ∷ 20 ∷ []

-- all others have one reserved parameter, and their commands are always accepted
pub record Plain (p0 p1 p2 p3 line : ℕ) : Type 0 where
  pub fits : true ≡ is_given (judge_command_of (command_of line p0 p1 p2 p3))
  pub words : header_of line ∷ 0 ∷ [] ≡ words_of (command_of line p0 p1 p2 p3)

module _ (p0 p1 p2 p3 : ℕ) where
  abbrev Other : ℕ → Type 0
  Other line = NoneOf Unit named line → Plain p0 p1 p2 p3 line

  by_arm : (i line : ℕ) → i < length named → line ≡ get_or named i 0 → Other line
  by_arm i line h e r = absurd (none_at named Unit line i r h e)

  pub plain : (line : ℕ) → line < 21 → NoneOf Unit named line → Plain p0 p1 p2 p3 line
  unfolding words_of fields_of line_of no_effect_line command_of
  plain =
      each Other 21
      (tt & by_arm 0 0 (lit≤ tt) refl & (λ r. record { fits = fine_given _ start_fits; words = refl }) &
      (λ r. record { fits = fine_given _ (effectless_fits Wait); words = refl }) & by_arm 1 3 (lit≤ tt) refl & by_arm 2 4 (lit≤ tt) refl &
      by_arm 3 5 (lit≤ tt) refl & by_arm 4 6 (lit≤ tt) refl & by_arm 5 7 (lit≤ tt) refl & by_arm 6 8 (lit≤ tt) refl &
      by_arm 7 9 (lit≤ tt) refl & (λ r. record { fits = fine_given _ (effectless_fits InvalidateInstructions); words = refl }) &
      (λ r. record { fits = fine_given _ (effectless_fits InvalidateFloats); words = refl }) &
      (λ r. record { fits = fine_given _ (effectless_fits InvalidateIntegers); words = refl }) &
      (λ r. record { fits = fine_given _ (effectless_fits InvalidateBooleans); words = refl }) &
      (λ r. record { fits = fine_given _ (effectless_fits InvalidateConditional); words = refl }) &
      (λ r. record { fits = fine_given _ (effectless_fits InvalidateInputs); words = refl }) &
      (λ r. record { fits = fine_given _ (effectless_fits FlushOutputs); words = refl }) &
      (λ r. record { fits = fine_given _ (effectless_fits FlushConditional); words = refl }) & by_arm 8 18 (lit≤ tt) refl &
      by_arm 9 19 (lit≤ tt) refl & by_arm 10 20 (lit≤ tt) refl)
