-- Document 01: what the statements on reading again speak of. Assumes nothing.
use Rattle.std.specs.Prelude.{◌≡◌, List, [], ◌∷◌, ℕ, ◌+◌, ◌-◌, ◌<◌, ◌≤◌, length, get_or}
use Rattle.refusal.specs.Told.{gives, refuses}
use Rattle.command.specs.Commands.{fields_of, words_of}
use Rattle.rules.specs.Writer.{judge_command_of}
use Rattle.command.specs.declared.commands.Command.{Command}
use Rattle.state.specs.State.{Open, Session, none}
use Rattle.state.specs.Effects.{limit, after}
use Rattle.session.specs.Step.{refusing, start_rule_of}
use Rattle.session.specs.Feed.{First, nothing, first, Fed, written}
-- a running session without an open command, and one at another word: commands taken whole are stated by them too
pub use Rattle.accept.specs.AtWord.{Idle, at_word}

-- the answer to a piece: words taken, commands completed, the first refusal, and the session after it
abbrev pub fed : ℕ → List Command → First → Session → Fed
fed taken commands refusal session = record { taken = taken; commands = commands; refusal = refusal; session = session }

-- the open command of a line with its parameters so far
abbrev pub holding : ℕ → List ℕ → Open
holding line ps =
    record { line = line; count = length ps; p0 = get_or ps 0 0; p1 = get_or ps 1 0; p2 = get_or ps 2 0; p3 = get_or ps 3 0 }

-- the answers to the words of a command that the writer accepts, where the session is running and without an open command
pub data ReadAs (s : Session) (c : Command) : Fed → Type 0 where
  -- it is read back: the command, what `after` says of it, and all its words taken
  read_whole :
      (v : List ℕ) → start_rule_of c s ≡ gives v →
      ReadAs s c (fed (length (words_of c)) (c ∷ []) nothing (at_word (after c s) (s.party.taken + length (words_of c)) none))
  -- 7, 8 or 9, with its last word
  denied_start :
      (n : ℕ) → start_rule_of c s ≡ refuses n → 7 ≤ n → n ≤ 9 →
      ReadAs s c (fed (length (fields_of c)) [] (first n) (refusing (at_word s (s.party.taken + length (fields_of c)) none) n).session)
  -- 17, with the word that comes when the session has taken 1,000,000,000
  filled_up :
      limit < s.party.taken + length (words_of c) →
      ReadAs s c (fed (limit - s.party.taken) [] (first 17) (refusing (at_word s limit none) 17).session)

-- "the settings they first met": the same settings in two sessions, of parties that own the same
pub record SameSettings (s u : Session) : Type 0 where
  pub domain : s.party.domain ≡ u.party.domain
  pub instructions : s.party.instructions ≡ u.party.instructions
  pub shared : s.shared ≡ u.shared
  pub mine : s.party.birth.mine ≡ u.party.birth.mine

-- commands whose words are read again to the same commands and the same settings: `t` is the session that they left first, `f` the
-- answer to their words
pub record ReadAgain (cs : List Command) (t : Session) (f : Fed) : Type 0 where
  pub commands : f.commands ≡ cs
  pub unrefused : f.refusal ≡ nothing
  pub all_taken : f.taken ≡ length (written cs)
  pub settings : SameSettings t f.session

-- the writer accepts each of the commands
abbrev pub EachWritable : List Command → Type 0
EachWritable [] = Unit
EachWritable (c ∷ cs) = (judge_command_of c ≡ gives []) × EachWritable cs
