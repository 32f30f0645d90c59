-- Document 01: "The writer gives a command's words or the refusal (3, 4, 5, 6, then 11 for room) that its fields cause; it asks
-- for no session. Room past the words isn't touched." Assumes nothing.
use Rattle.std.specs.Prelude.{◌≡◌, Bool, true, List, [], ◌∷◌, ◌++◌, ℕ, eqb, leb, length, get_or, drop}
use Rattle.laws.specs.Choice.{◌and◌, pick}
use Rattle.refusal.specs.Told.{Told, gives, refuses, then_told}
use Rattle.command.specs.Kinds.{allowed, fault_of, kinds, kind_of, check_of}
use Rattle.command.specs.Commands.{line_of, fields_of, words_of}
use Rattle.rules.specs.Rules.{last_rule_of}
use Rattle.command.specs.declared.kinds.Kind.{Kind}
use Rattle.command.specs.declared.commands.Command.{Command}

-- a word of a kind doesn't cause refusal `n`
unfoldable pub unrefused : ℕ → Kind → ℕ → Bool
unrefused n kind w = pick (eqb (fault_of kind) n) (allowed kind w) true

-- no word of a list causes refusal `n`, each by its kind
unfoldable pub all_unrefused : ℕ → List Kind → List ℕ → Bool
all_unrefused n [] ws = true
all_unrefused n (kind ∷ ks) [] = true
all_unrefused n (kind ∷ ks) (w ∷ ws) = unrefused n kind w and all_unrefused n ks ws

-- no field of a command causes refusal `n`
unfoldable pub fields_unrefused : ℕ → Command → Bool
fields_unrefused n command = all_unrefused n (get_or kinds (line_of command) []) (fields_of command)

-- the parameters of a line, asked in the order that puts 3 before 4: an input or output number stands first in its command and
-- nowhere else, so it is asked last
unfoldable pub places_judged_of : ℕ → ℕ → ℕ → ℕ → ℕ → Told
places_judged_of line p0 p1 p2 p3 =
    then_told (check_of (kind_of line 1) p1) (then_told (check_of (kind_of line 2) p2) (then_told (check_of (kind_of line 3) p3) (check_of (kind_of line 0) p0)))

-- what the fields cause: 3 before 4, whichever field comes first, then 5 and 6
unfoldable pub judge_command_of : Command → Told
judge_command_of command = pick (fields_unrefused 3 command) (pick (fields_unrefused 4 command) (last_rule_of command) (refuses 4)) (refuses 3)

-- the number of words, or the refusal; `room` is the room's length
unfoldable pub write_of : Command → ℕ → Told
write_of command room =
    then_told (judge_command_of command)
    (pick (leb (length (words_of command)) room) (gives (length (words_of command) ∷ [])) (refuses 11))

-- the room at return: the command's words, then what stood there; untouched by a refusal
unfoldable pub room_after : Told → Command → List ℕ → List ℕ
room_after (gives values) command room = words_of command ++ drop (length (words_of command)) room
room_after (refuses number) command room = room

-- a call of the writer: what it told, and the room before and after
pub record Wrote (command : Command) (told : Told) (before after : List ℕ) : Type 0 where
  pub answer : told ≡ write_of command (length before)
  pub room : after ≡ room_after (write_of command (length before)) command before
