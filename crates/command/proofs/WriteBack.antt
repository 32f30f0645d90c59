-- Reading and writing back are inverse: the command of a line and allowed parameters has just the words that it was read
-- from, every command is the one that its own line and parameters make, and two commands with the same words are the same.
-- Assumes nothing.
use mathlib.Core.Path.{◌≡◌, refl, sym, ap, ap₂, ◌∙◌}
use mathlib.Core.Bool.{true}
use mathlib.Core.List.{List, [], ◌∷◌}
use Prim.Native.Nat.{ℕ, ◌<◌}
use native.Mathlib.Omega.{arith}
use lib.Dec.{lit<}
use lib.ListN.{length, take, get_or}
use borrow.Author.Tests.{eqb-true}
use Rattle.laws.specs.Choice.{place_of}
use Rattle.laws.proofs.Table.{◌&◌, each}
use Rattle.command.specs.Table.{headers, header_of, count_of}
use Rattle.command.specs.Kinds.{allowed, kind_of}
use Rattle.command.specs.Commands.{no_effect_line, stored_line, line_of, fields_of, words_of, places_of, command_of, EachAllowed}
use Rattle.command.proofs.Headers.{place_of_line}
use Rattle.command.specs.declared.kinds.Kind.TheVariants.{Reserved}
use Rattle.command.specs.declared.commands.NoEffect.TheVariants.{
  Wait,
  InvalidateInstructions,
  InvalidateFloats,
  InvalidateIntegers,
  InvalidateBooleans,
  InvalidateConditional,
  InvalidateInputs,
  FlushOutputs,
  FlushConditional,
}
use Rattle.command.specs.declared.commands.Stored.TheVariants.{Instructions, Floats, Integers, Booleans}
use Rattle.command.specs.declared.commands.Command.{Command}
use Rattle.command.specs.declared.commands.Command.TheVariants.{
  Domain,
  Start,
  Effectless,
  Store,
  Input,
  Output,
  Conditional,
  OutputMask,
  ConditionalMask,
  Test,
}

-- the command that a command's line and parameters make
abbrev pub again : Command → Command
again c =
    command_of (line_of c) (get_or (fields_of c) 0 0) (get_or (fields_of c) 1 0) (get_or (fields_of c) 2 0) (get_or (fields_of c) 3 0)

pub read_back : (c : Command) → again c ≡ c
unfolding command_of line_of fields_of no_effect_line stored_line
read_back (Domain i0 j0 i1 j1) = refl
read_back Start = refl
read_back (Effectless Wait) = refl
read_back (Effectless InvalidateInstructions) = refl
read_back (Effectless InvalidateFloats) = refl
read_back (Effectless InvalidateIntegers) = refl
read_back (Effectless InvalidateBooleans) = refl
read_back (Effectless InvalidateConditional) = refl
read_back (Effectless InvalidateInputs) = refl
read_back (Effectless FlushOutputs) = refl
read_back (Effectless FlushConditional) = refl
read_back (Store Instructions base format) = refl
read_back (Store Floats base format) = refl
read_back (Store Integers base format) = refl
read_back (Store Booleans base format) = refl
read_back (Input number base format height) = refl
read_back (Output number base format height) = refl
read_back (Conditional base format height) = refl
read_back (OutputMask mask) = refl
read_back (ConditionalMask mask) = refl
read_back (Test test) = refl

-- what the command of a line and its parameters has
pub record Made (p0 p1 p2 p3 line : ℕ) : Type 0 where
  pub line_back : line_of (command_of line p0 p1 p2 p3) ≡ line
  pub words_back :
      EachAllowed line (p0 ∷ p1 ∷ p2 ∷ p3 ∷ []) →
      words_of (command_of line p0 p1 p2 p3) ≡ header_of line ∷ take (count_of line) (p0 ∷ p1 ∷ p2 ∷ p3 ∷ [])

module _ (p0 p1 p2 p3 : ℕ) where
  -- a line whose parameters are all kept
  kept : (line : ℕ) → line_of (command_of line p0 p1 p2 p3) ≡ line →
      fields_of (command_of line p0 p1 p2 p3) ≡ take (count_of line) (p0 ∷ p1 ∷ p2 ∷ p3 ∷ []) → Made p0 p1 p2 p3 line
  unfolding words_of
  kept line e f = record { line_back = e; words_back = λ a. cc }

  -- a line with one reserved parameter
  reserved : (line : ℕ) → line_of (command_of line p0 p1 p2 p3) ≡ line → fields_of (command_of line p0 p1 p2 p3) ≡ 0 ∷ [] →
      kind_of line 0 ≡ Reserved → count_of line ≡ 1 → Made p0 p1 p2 p3 line
  unfolding words_of allowed
  reserved line e f k n =
      record {
        line_back = e;
        words_back =
            λ a.
            let b : allowed Reserved p0 ≡ true = rw k at (a 0 (rw n (omega arith))) in
            let z : p0 ≡ 0 = eqb-true p0 0 b in
            cc;
      }

  pub made : (line : ℕ) → line < 21 → Made p0 p1 p2 p3 line
  unfolding command_of line_of fields_of no_effect_line stored_line count_of kind_of
  made =
      each (Made p0 p1 p2 p3) 21
      (tt &
      kept 0 refl refl &
      reserved 1 refl refl refl refl &
      reserved 2 refl refl refl refl &
      kept 3 refl refl &
      kept 4 refl refl &
      kept 5 refl refl &
      kept 6 refl refl &
      kept 7 refl refl &
      kept 8 refl refl &
      kept 9 refl refl &
      reserved 10 refl refl refl refl &
      reserved 11 refl refl refl refl &
      reserved 12 refl refl refl refl &
      reserved 13 refl refl refl refl &
      reserved 14 refl refl refl refl &
      reserved 15 refl refl refl refl &
      reserved 16 refl refl refl refl &
      reserved 17 refl refl refl refl &
      kept 18 refl refl &
      kept 19 refl refl &
      kept 20 refl refl)

-- every command has a line of the table, and as many parameters as that line says: the first of the four places
pub record Lined (c : Command) : Type 0 where
  pub line_most : line_of c < 21
  pub fields_count : length (fields_of c) ≡ count_of (line_of c)
  pub fields_taken :
      take (count_of (line_of c)) ((places_of c).0 ∷ (places_of c).1 ∷ (places_of c).2 ∷ (places_of c).3 ∷ []) ≡ fields_of c

pub lined : (c : Command) → Lined c
unfolding line_of fields_of places_of no_effect_line stored_line count_of
lined (Domain i0 j0 i1 j1) = record { line_most = lit< tt; fields_count = refl; fields_taken = refl }
lined Start = record { line_most = lit< tt; fields_count = refl; fields_taken = refl }
lined (Effectless Wait) = record { line_most = lit< tt; fields_count = refl; fields_taken = refl }
lined (Effectless InvalidateInstructions) = record { line_most = lit< tt; fields_count = refl; fields_taken = refl }
lined (Effectless InvalidateFloats) = record { line_most = lit< tt; fields_count = refl; fields_taken = refl }
lined (Effectless InvalidateIntegers) = record { line_most = lit< tt; fields_count = refl; fields_taken = refl }
lined (Effectless InvalidateBooleans) = record { line_most = lit< tt; fields_count = refl; fields_taken = refl }
lined (Effectless InvalidateConditional) = record { line_most = lit< tt; fields_count = refl; fields_taken = refl }
lined (Effectless InvalidateInputs) = record { line_most = lit< tt; fields_count = refl; fields_taken = refl }
lined (Effectless FlushOutputs) = record { line_most = lit< tt; fields_count = refl; fields_taken = refl }
lined (Effectless FlushConditional) = record { line_most = lit< tt; fields_count = refl; fields_taken = refl }
lined (Store Instructions base format) = record { line_most = lit< tt; fields_count = refl; fields_taken = refl }
lined (Store Floats base format) = record { line_most = lit< tt; fields_count = refl; fields_taken = refl }
lined (Store Integers base format) = record { line_most = lit< tt; fields_count = refl; fields_taken = refl }
lined (Store Booleans base format) = record { line_most = lit< tt; fields_count = refl; fields_taken = refl }
lined (Input number base format height) = record { line_most = lit< tt; fields_count = refl; fields_taken = refl }
lined (Output number base format height) = record { line_most = lit< tt; fields_count = refl; fields_taken = refl }
lined (Conditional base format height) = record { line_most = lit< tt; fields_count = refl; fields_taken = refl }
lined (OutputMask mask) = record { line_most = lit< tt; fields_count = refl; fields_taken = refl }
lined (ConditionalMask mask) = record { line_most = lit< tt; fields_count = refl; fields_taken = refl }
lined (Test test) = record { line_most = lit< tt; fields_count = refl; fields_taken = refl }

-- two commands with the same words are the same command
pub words_apart : (c d : Command) → words_of c ≡ words_of d → c ≡ d
unfolding words_of
words_apart c d e =
    let h : header_of (line_of c) ≡ header_of (line_of d) = cc in
    let f : fields_of c ≡ fields_of d = cc in
    let l : line_of c ≡ line_of d =
    sym (place_of_line (line_of c) (lined c).line_most) ∙ ap (λ (w : ℕ). place_of w headers) h ∙ place_of_line (line_of d) (lined d).line_most
    in
    sym (read_back c) ∙
    ap₂ (λ (n : ℕ) (fs : List ℕ). command_of n (get_or fs 0 0) (get_or fs 1 0) (get_or fs 2 0) (get_or fs 3 0)) l f ∙
    read_back d
