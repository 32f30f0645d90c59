-- What taking a command whole asks of the cells, and what it leaves in them. Assumes nothing.
use Rattle.std.specs.Prelude.{◌≡◌, true, false, List, [], ◌∷◌, ◌++◌, ℕ, ◌+◌, ◌≤◌, length, get_or}
use Rattle.refusal.specs.Told.{gives, is_given}
use Rattle.command.specs.Table.{header_of, line_with}
use Rattle.command.specs.Commands.{words_of, command_of}
use Rattle.owners.specs.Owners.{owned}
use Rattle.rules.specs.Writer.{judge_command_of}
use Rattle.command.specs.declared.commands.Stored.{Stored}
use Rattle.command.specs.declared.commands.Stored.TheVariants as stored
use Rattle.command.specs.declared.commands.Command.{Command}
use Rattle.state.specs.Effects.{limit, after}
use Rattle.state.specs.State.{Session}
use Rattle.start.specs.Rules.{start_rule_of}
use Rattle.accept.specs.AtWord.{Idle, at_word}
use Rattle.state.specs.Asked.{Given, Held, OwnAsked}
use Rattle.state.specs.Cells.{party_of, session_of, own_length}

-- the most words that a command has
abbrev pub most_words : ℕ
most_words = 5

-- own cells with room for so many words more
pub record RoomFor (words : ℕ) (own : List ℕ) : Type 0 where
  pub own_length_lem : length own ≡ own_length
  pub room : (party_of own []).taken + words ≤ limit

-- a valid session that takes words, without an open command, with room for the words of any command
pub record Ready (own tallies shared : List ℕ) : Type 0 where
  pub given : Given own tallies shared
  pub idle : Idle (session_of own tallies shared)
  pub room : (party_of own tallies).taken + most_words ≤ limit

-- why a command isn't taken: the words aren't its own (a reserved parameter isn't 0), its fields cause a refusal, it sets what the party
-- doesn't own, or the settings refuse it
pub data Denied (c : Command) (ws : List ℕ) (s : Session) : Type 0 where
  by_words : ((rest : List ℕ) → ws ≡ words_of c ++ rest → ⊥) → Denied c ws s
  by_fields : is_given (judge_command_of c) ≡ false → Denied c ws s
  by_owner : owned s.party.birth.mine c ≡ false → Denied c ws s
  by_settings : is_given (start_rule_of c s) ≡ false → Denied c ws s

-- an attempt at a command whose words a list begins with: it was accepted and so many words counted, or it can't be accepted, 0 is
-- told and nothing was changed
pub data Tried (c : Command) (ws : List ℕ) (words : ℕ) (own tallies shared : List ℕ) : ℕ → List ℕ → List ℕ → List ℕ → Type 0 where
  untaken : Denied c ws (session_of own tallies shared) → Tried c ws words own tallies shared 0 own tallies shared
  accepted :
      (rest own1 tallies1 shared1 : List ℕ) → ws ≡ words_of c ++ rest → judge_command_of c ≡ gives [] →
      owned (party_of own tallies).birth.mine c ≡ true → start_rule_of c (session_of own tallies shared) ≡ gives [] →
      Held (at_word (after c (session_of own tallies shared)) ((party_of own tallies).taken + words) (party_of own tallies).opened) own1 tallies1 shared1 →
      Tried c ws words own tallies shared words own1 tallies1 shared1

-- the same of a command that changes own cells alone, and of one that changes own and shared cells
abbrev pub OwnTried : Command → List ℕ → ℕ → ℕ → List ℕ → List ℕ → Type 0
OwnTried c ws words n own own1 =
    (tallies shared rest : List ℕ) → OwnAsked own tallies shared → Tried c (ws ++ rest) words own tallies shared n own1 tallies shared

abbrev pub SharedTried : Command → List ℕ → ℕ → ℕ → List ℕ → List ℕ → List ℕ → List ℕ → Type 0
SharedTried c ws words n own shared own1 shared1 =
    (tallies rest : List ℕ) → OwnAsked own tallies shared → Tried c (ws ++ rest) words own tallies shared n own1 tallies shared1

-- an attempt at the command of a line with these parameters; `words` tells how many words of it are counted
abbrev pub LineTried :
    ℕ → ℕ → ℕ → ℕ → ℕ → (Command → ℕ) → List ℕ → List ℕ → List ℕ → ℕ → List ℕ → List ℕ → List ℕ → Type 0
LineTried line p0 p1 p2 p3 words own tallies shared n own1 tallies1 shared1 =
    (rest : List ℕ) →
    Tried (command_of line p0 p1 p2 p3) (header_of line ∷ p0 ∷ p1 ∷ p2 ∷ p3 ∷ rest) (words (command_of line p0 p1 p2 p3)) own tallies
    shared n own1 tallies1 shared1

-- all the words of a command, and the last alone
abbrev pub every_word : Command → ℕ
every_word c = length (words_of c)

abbrev pub last_word : Command → ℕ
last_word c = 1

-- an attempt at the command that words begin with; or 0, and nothing was changed, where they begin with no header
pub data Begun (ws own tallies shared : List ℕ) : ℕ → List ℕ → List ℕ → List ℕ → Type 0 where
  begun :
      (c : Command) (n : ℕ) (own1 tallies1 shared1 : List ℕ) → Tried c ws (every_word c) own tallies shared n own1 tallies1 shared1 →
      Begun ws own tallies shared n own1 tallies1 shared1
  unbegun : ((line : ℕ) → line_with (get_or ws 0 0) ≡ gives (line ∷ []) → ⊥) → Begun ws own tallies shared 0 own tallies shared

-- the place of each constants' format
abbrev pub KeptAt : Stored → ℕ → Type 0
KeptAt stored.Instructions at = ⊥
KeptAt stored.Floats at = at ≡ 5
KeptAt stored.Integers at = at ≡ 9
KeptAt stored.Booleans at = at ≡ 13
