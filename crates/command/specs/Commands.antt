-- Document 01, "The command words": a command's line in the table, its words, and the command that a line and its parameters
-- make. Places are whole words, so that a command writes back to the words that it came from. Assumes nothing.
use Rattle.std.specs.Prelude.{◌≡◌, true, List, [], ◌∷◌, ℕ, ◌<◌, get_or}
use Rattle.command.specs.Table.{header_of, count_of}
use Rattle.command.specs.Kinds.{allowed, kind_of}
use Rattle.command.specs.declared.commands.NoEffect.{NoEffect}
use Rattle.command.specs.declared.commands.NoEffect.TheVariants.{
  Wait,
  InvalidateInstructions,
  InvalidateFloats,
  InvalidateIntegers,
  InvalidateBooleans,
  InvalidateConditional,
  InvalidateInputs,
  FlushOutputs,
  FlushConditional,
}
use Rattle.command.specs.declared.commands.Stored.{Stored}
use Rattle.command.specs.declared.commands.Stored.TheVariants.{Instructions, Floats, Integers, Booleans}
use Rattle.command.specs.declared.commands.Command.{Command}
use Rattle.command.specs.declared.commands.Command.TheVariants.{
  Domain,
  Start,
  Effectless,
  Store,
  Input,
  Output,
  Conditional,
  OutputMask,
  ConditionalMask,
  Test,
}
use Rattle.command.specs.declared.commands.Places.{Places}

-- "C0000900 wait_for_idle; C0001100 to C0001600 .. invalidate ..; C0001700, C0001800 flush"
unfoldable pub no_effect_line : NoEffect → ℕ
no_effect_line Wait = 2
no_effect_line InvalidateInstructions = 10
no_effect_line InvalidateFloats = 11
no_effect_line InvalidateIntegers = 12
no_effect_line InvalidateBooleans = 13
no_effect_line InvalidateConditional = 14
no_effect_line InvalidateInputs = 15
no_effect_line FlushOutputs = 16
no_effect_line FlushConditional = 17

-- "C0010A00 set_inst_fmt, C0010E00, C0010F00, C0011000 set_constf, consti, constb_fmt"
unfoldable pub stored_line : Stored → ℕ
stored_line Instructions = 3
stored_line Floats = 7
stored_line Integers = 8
stored_line Booleans = 9

-- the line of a command in the table
unfoldable pub line_of : Command → ℕ
line_of (Domain i0 j0 i1 j1) = 0
line_of Start = 1
line_of (Effectless what) = no_effect_line what
line_of (Store what base format) = stored_line what
line_of (Input number base format height) = 4
line_of (Output number base format height) = 5
line_of (Conditional base format height) = 6
line_of (OutputMask mask) = 18
line_of (ConditionalMask mask) = 19
line_of (Test test) = 20

-- the parameters of a command in document 01's order; a reserved parameter is 0
unfoldable pub fields_of : Command → List ℕ
fields_of (Domain i0 j0 i1 j1) = i0 ∷ j0 ∷ i1 ∷ j1 ∷ []
fields_of Start = 0 ∷ []
fields_of (Effectless what) = 0 ∷ []
fields_of (Store what base format) = base ∷ format ∷ []
fields_of (Input number base format height) = number ∷ base ∷ format ∷ height ∷ []
fields_of (Output number base format height) = number ∷ base ∷ format ∷ height ∷ []
fields_of (Conditional base format height) = base ∷ format ∷ height ∷ []
fields_of (OutputMask mask) = mask ∷ []
fields_of (ConditionalMask mask) = mask ∷ []
fields_of (Test test) = test ∷ []

-- "a command's words": its header, then its parameters
unfoldable pub words_of : Command → List ℕ
words_of command = header_of (line_of command) ∷ fields_of command

-- the parameters in four places, 0 where a command has none
unfoldable pub places_of : Command → Places
places_of command =
    record {
      0 = get_or (fields_of command) 0 0;
      1 = get_or (fields_of command) 1 0;
      2 = get_or (fields_of command) 2 0;
      3 = get_or (fields_of command) 3 0;
    }

-- the command of each line, in the order of the table, with the line's parameters
abbrev pub commands : ℕ → ℕ → ℕ → ℕ → List Command
commands p0 p1 p2 p3 =
    Domain p0 p1 p2 p3 ∷
    Start ∷
    Effectless Wait ∷
    Store Instructions p0 p1 ∷
    Input p0 p1 p2 p3 ∷
    Output p0 p1 p2 p3 ∷
    Conditional p0 p1 p2 ∷
    Store Floats p0 p1 ∷
    Store Integers p0 p1 ∷
    Store Booleans p0 p1 ∷
    Effectless InvalidateInstructions ∷
    Effectless InvalidateFloats ∷
    Effectless InvalidateIntegers ∷
    Effectless InvalidateBooleans ∷
    Effectless InvalidateConditional ∷
    Effectless InvalidateInputs ∷
    Effectless FlushOutputs ∷
    Effectless FlushConditional ∷
    OutputMask p0 ∷
    ConditionalMask p0 ∷
    Test p0 ∷
    []

-- the command that a line of the table and its parameters make; places past the line's parameters aren't read
unfoldable pub command_of : ℕ → ℕ → ℕ → ℕ → ℕ → Command
command_of line p0 p1 p2 p3 = get_or (commands p0 p1 p2 p3) line Start

-- each parameter of a line is allowed by its kind
abbrev pub EachAllowed : ℕ → List ℕ → Type 0
EachAllowed line ps = (k : ℕ) → k < count_of line → allowed (kind_of line k) (get_or ps k 0) ≡ true
