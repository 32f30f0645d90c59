-- A command whose line is known is written as the command of that line is, and has at most 5 words. Assumes nothing.
use mathlib.Core.Path.{◌≡◌, refl, sym, ap, ◌∙◌, subst}
use mathlib.Core.Bool.{Bool, true, false}
use mathlib.Core.List.{List, [], ◌∷◌}
use Prim.Native.Nat.{ℕ, suc, ◌≤◌}
use native.Mathlib.Omega.{arith}
use lib.Dec.{leb}
use lib.ListN.{length}
use Rattle.std.specs.Prelude.{Some, None}
use Rattle.std.proofs.lemmas.Option.{same_Some, none-some}
use Rattle.laws.specs.Choice.{pick}
use Rattle.refusal.specs.Told.{Told, gives, refuses, then_told}
use Rattle.refusal.specs.Crossing.{Crosses}
use Rattle.refusal.proofs.Crossings.{crosses_gives, crosses_refuses}
use Rattle.command.specs.Table.{count_of, line_with}
use Rattle.command.specs.Commands.{line_of, words_of, fields_of}
use Rattle.rules.specs.Writer.{judge_command_of, write_of, room_after, Wrote}
use Rattle.line_writer.specs.Tried.{words_told, Tried}
use Rattle.command.specs.declared.commands.Command.{Command}
use Rattle.command.proofs.Headers.{count_most}
use Rattle.command.proofs.WriteBack.{lined}
use Rattle.command_rooms.specs.Rooms.{command_with, CommandCrosses}
use Rattle.command.proofs.Known.{on_line_lem}

module _ {before after written : List ℕ} (header line : ℕ) (fields : List ℕ) (known : line_with header ≡ gives (line ∷ [])) where
  crossed : {t : Told} {r : ℕ} {written' : List ℕ} → Crosses t r written written' → Wrote (command_with fields line) t before after →
      CommandCrosses header fields r before after written written'
  crossed {t} {r} {written'} cross w =
      record {
        answer = subst (λ (u : Told). Crosses u r written written') (w.answer ∙ sym (on_line_lem header _ _ line known)) cross;
        room = w.room ∙ sym (on_line_lem header _ _ line known);
      }

  pub words_cross : (n : ℕ) → Wrote (command_with fields line) (gives (n ∷ [])) before after → CommandCrosses header fields 0 before after written (n ∷ [])
  words_cross n w = crossed (crosses_gives _ _ _ refl) w

  pub refusal_crosses : (r number : ℕ) → r ≡ number → Wrote (command_with fields line) (refuses number) before after →
      CommandCrosses header fields r before after written written
  refusal_crosses r number same w = crossed (crosses_refuses _ _ _ _ same refl) w

-- what is told after a check that passed
after : (t u : Told) (values : List ℕ) → then_told t u ≡ gives values → u ≡ gives values
unfolding then_told
after (gives v) u values e = e
after (refuses n) u values e = let z : ◌≡◌ {A = ℕ} 0 1 = cc in absurd (omega arith)

picked : (fits : Bool) (k n : ℕ) → pick fits (gives (k ∷ [])) (refuses 11) ≡ gives (n ∷ []) → k ≡ n
unfolding pick
picked true k n e = cc
picked false k n e = let z : ◌≡◌ {A = ℕ} 0 1 = cc in absurd (omega arith)

-- a command has at most 5 words
pub words_few : (c : Command) (room n : ℕ) → write_of c room ≡ gives (n ∷ []) → n ≤ 5
unfolding write_of words_of
words_few c room n e =
    let same : length (words_of c) ≡ n = picked _ _ _ (after (judge_command_of c) _ _ e) in
    let fields : length (fields_of c) ≡ count_of (line_of c) = (lined c).fields_count in
    let most : count_of (line_of c) ≤ 4 = count_most (line_of c) (lined c).line_most in
    omega arith

-- the writer tells a number of words that isn't 0, or refuses
data Answer : Told → Type 0 where
  words : (n : ℕ) → Answer (gives (suc n ∷ []))
  refusal : (n : ℕ) → Answer (refuses n)

answer : (c : Command) (room : ℕ) → Answer (write_of c room)
unfolding write_of words_of then_told pick
answer c room = go (judge_command_of c) (leb (length (words_of c)) room) (length (fields_of c))
  where
    go : (t : Told) (fits : Bool) (n : ℕ) → Answer (then_told t (pick fits (gives (suc n ∷ [])) (refuses 11)))
    go (gives values) true n = words n
    go (gives values) false n = refusal 11
    go (refuses number) fits n = refusal number

-- what the tests of a line wrote are the writer's words; where they wrote none, the room is as it was
module _ (c : Command) (before after : List ℕ) where
  pub by_line : (n : ℕ) → Tried c (Some n) before after → Wrote c (gives (n ∷ [])) before after
  by_line n t = record { answer = told (answer c (length before)) t.words; room = t.room }
    where
      told : {a : Told} → Answer a → Some n ≡ words_told a → gives (n ∷ []) ≡ a
      told (words m) e = ap (λ (k : ℕ). gives (k ∷ [])) (same_Some _ _ e)
      told (refusal m) e = absurd (none-some _ (sym e))

  pub by_command : (last : List ℕ) (t : Told) → Tried c None before after → Wrote c t after last → Wrote c t before last
  unfolding room_after
  by_command last t none w =
      subst (λ (l : List ℕ). Wrote c t l last) (none.room ∙ same (answer c (length before)) none.words) w
    where
      same : {a : Told} → Answer a → None ≡ words_told a → room_after a c before ≡ before
      same (words n) e = absurd (none-some _ e)
      same (refusal n) e = refl
