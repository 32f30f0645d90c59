-- Commands as a status and rooms: a command is named by its header. Assumes nothing.
use Rattle.std.specs.Prelude.{◌≡◌, List, [], ◌∷◌, ℕ, length, get_or}
use Rattle.refusal.specs.Told.{Told, gives}
use Rattle.command.specs.Table.{line_with, count_of}
use Rattle.command.specs.Known.{on_line, if_known}
use Rattle.command.specs.Commands.{command_of}
use Rattle.rules.specs.Writer.{write_of, room_after}
use Rattle.command.specs.declared.commands.Command.{Command}
use Rattle.refusal.specs.Crossing.{Crosses}

-- how many parameters follow a header, or 2
abbrev pub parameters_of : ℕ → Told
parameters_of header = if_known header (λ line. gives (count_of line ∷ []))

-- the command of a line with the first of four fields
abbrev pub command_with : List ℕ → ℕ → Command
command_with fields line = command_of line (get_or fields 0 0) (get_or fields 1 0) (get_or fields 2 0) (get_or fields 3 0)

-- the number of words, or 2, or the writer's refusal; and the room at return
abbrev pub named_write_of : ℕ → List ℕ → List ℕ → Told
named_write_of header fields room = if_known header (λ line. write_of (command_with fields line) (length room))

abbrev pub named_room : ℕ → List ℕ → List ℕ → List ℕ
named_room header fields room =
    on_line (line_with header)
    (λ line. room_after (write_of (command_with fields line) (length room)) (command_with fields line) room)
    room

pub record CommandCrosses (header : ℕ) (fields : List ℕ) (r : ℕ) (before after written written' : List ℕ) : Type 0 where
  pub answer : Crosses (named_write_of header fields before) r written written'
  pub room : after ≡ named_room header fields before
