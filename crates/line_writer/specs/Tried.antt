-- A command written by the tests of its line: what the writer would write, and how many words, none for every refusal.
-- Assumes nothing.
use Rattle.std.specs.Prelude.{◌≡◌, List, [], ◌∷◌, ℕ, length, Option, Some, None}
use Rattle.refusal.specs.Told.{Told, gives, refuses}
use Rattle.rules.specs.Writer.{write_of, room_after}
use Rattle.command.specs.declared.commands.Command.{Command}

-- how many words the writer tells; none of a refusal
abbrev pub words_told : Told → Option ℕ
words_told (gives []) = None
words_told (gives (n ∷ rest)) = Some n
words_told (refuses number) = None

pub record Tried (command : Command) (r : Option ℕ) (before after : List ℕ) : Type 0 where
  pub words : r ≡ words_told (write_of command (length before))
  pub room : after ≡ room_after (write_of command (length before)) command before
