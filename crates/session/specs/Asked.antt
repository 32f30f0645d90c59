-- What the entries and inner routines ask of the cells that they are lent, and what these hold at return. Assumes nothing.
use Rattle.std.specs.Prelude.{◌≡◌, true, Result, Ok, Err, List, [], ◌++◌, ℕ, ◌+◌, ◌<◌, ◌≤◌, eqb, length, drop}
use Rattle.laws.specs.Choice.{pick}
use Rattle.command.specs.Kinds.{allowed, kind_of}
use Rattle.command.specs.Commands.{EachAllowed, command_of}
use Rattle.command.specs.declared.commands.Command.{Command}
use Rattle.owners.specs.Owners.{may_name, owned}
use Rattle.state.specs.State.{Open, Session}
use Rattle.state.specs.Effects.{limit}
use Rattle.session.specs.Feed as piece
use Rattle.session.specs.Feed.{feed_of}
use Rattle.session.specs.Step.{Reply, Stepped, still_open, completed, refused, completing}
use Rattle.state.specs.Valid.{parameters_of}
use Rattle.refusal.specs.Number.{IsNumber, number_of}
use Rattle.refusal.specs.declared.Refusal.{Refusal}
use Rattle.session.specs.declared.stream.Progress.{Progress}
use Rattle.session.specs.declared.stream.Progress.TheVariants.{Open as StillOpen, Whole}
use Rattle.state.specs.Cells.{party_of, session_of, own_length}
use Rattle.state.specs.Asked.{Held, Given, OwnAsked}

-- a step's reply, and cells that hold the session after it
pub record Left (t : Stepped) (r : Reply) (own tallies shared : List ℕ) : Type 0 where
  pub reply : r ≡ t.reply
  pub held : Held t.session own tallies shared

-- a step that completes a command, and cells that hold the session after it
pub record Finished (t : Stepped) (own tallies shared : List ℕ) : Type 0 where
  pub command : Command
  pub left : Left t (completed command) own tallies shared

-- a step as one answers it who doesn't ask for the command, and cells that hold the session after it
abbrev pub Told : Stepped → Result Progress Refusal → List ℕ → List ℕ → List ℕ → Type 0
Told t (Ok StillOpen) own tallies shared = Left t still_open own tallies shared
Told t (Ok Whole) own tallies shared = Finished t own tallies shared
Told t (Err why) own tallies shared = Left t (refused (number_of why)) own tallies shared

-- the refusal of a command whose parameters are allowed and which isn't accepted, by its line and what the settings give a start:
-- "5: i0 > i1 or j0 > j1" is a domain's, 7 to 9 are a start's, and "6: window rule broken" is of a command that describes a window
unfoldable pub refusal_at : ℕ → ℕ → ℕ
refusal_at line readiness = pick (eqb line 0) 5 (pick (eqb line 1) readiness 6)

-- the number that is kept in these cells of what the settings give a start
abbrev pub stored_in : List ℕ → ℕ
stored_in own = (party_of own []).readiness.number

-- the line of a command that isn't accepted: where it is a start, the stored number is a refusal's
pub record RefusalAsked (own : List ℕ) (line : ℕ) : Type 0 where
  pub own_length_lem : length own ≡ own_length
  pub unready : line ≡ 1 → IsNumber (stored_in own)

-- the command that an open command with all its parameters is
abbrev pub whole_of : Open → Command
whole_of o = command_of o.line o.p0 o.p1 o.p2 o.p3

-- an open command with all its parameters, which sets nothing but what the party owns, in a session that takes words
pub record CompleteAsked (own tallies shared : List ℕ) : Type 0 where
  pub asked : OwnAsked own tallies shared
  pub taken : (party_of own tallies).taken < limit
  pub line : (party_of own tallies).opened.line < 21
  pub passed : EachAllowed (party_of own tallies).opened.line (parameters_of (party_of own tallies).opened)
  pub owner : owned (party_of own tallies).birth.mine (whole_of (party_of own tallies).opened) ≡ true

-- how a whole command is judged, and cells that hold the session after it
abbrev pub Judged : {T : Type 0} → Open → Session → Result T Refusal → List ℕ → List ℕ → List ℕ → Type 0
Judged o s (Ok done) own tallies shared = Left (completing o s) (completed (whole_of o)) own tallies shared
Judged o s (Err why) own tallies shared = Left (completing o s) (refused (number_of why)) own tallies shared

-- cells that hold an open command with all its parameters, and a step that is that command's completion
pub record Unjudged (t : Stepped) (own tallies shared : List ℕ) : Type 0 where
  pub asked : CompleteAsked own tallies shared
  pub completes : t ≡ completing (party_of own []).opened (session_of own tallies shared)

-- a word that was read: the step as it is answered, but where the command is whole, it is still to be judged
abbrev pub Read : Stepped → Result Progress Refusal → List ℕ → List ℕ → List ℕ → Type 0
Read t (Ok StillOpen) own tallies shared = Left t still_open own tallies shared
Read t (Ok Whole) own tallies shared = Unjudged t own tallies shared
Read t (Err why) own tallies shared = Left t (refused (number_of why)) own tallies shared

-- a valid session that takes words, with an open command whose next parameter's kind allows the word, which names nothing but one's own
pub record ParameterAsked (own tallies shared : List ℕ) (w : ℕ) : Type 0 where
  pub given : Given own tallies shared
  pub taken : (party_of own tallies).taken < limit
  pub line : (party_of own tallies).opened.line < 21
  pub kind_allows :
      allowed (kind_of (party_of own tallies).opened.line (party_of own tallies).opened.count) w ≡ true
  pub named :
      may_name (party_of own tallies).birth.mine (kind_of (party_of own tallies).opened.line (party_of own tallies).opened.count) w ≡
      true

-- a valid session that takes words, with an open command
pub record OpenAsked (own tallies shared : List ℕ) : Type 0 where
  pub given : Given own tallies shared
  pub taken : (party_of own tallies).taken < limit
  pub line : (party_of own tallies).opened.line < 21

-- own cells of a party whose next words, so many, whole commands may take: it isn't stopped, no command is open, and the session has room
pub record Reach (own : List ℕ) (words : ℕ) : Type 0 where
  pub running : 0 < words → (party_of own []).stopped ≡ 1 → ⊥
  pub unopened : 0 < words → (party_of own []).opened.line ≡ 21
  pub room : 0 < words → (party_of own []).taken + words ≤ limit

-- an answer to the rest of a piece, with the words taken and the commands completed before it
abbrev pub ahead : ℕ → List Command → piece.Fed → piece.Fed
ahead i cs f = record { taken = i + f.taken; commands = cs ++ f.commands; refusal = f.refusal; session = f.session }

-- `i` words of a piece were taken and completed `n` commands; the cells hold the session that they left
pub record Fold (s : Session) (ws own tallies shared : List ℕ) (i n : ℕ) : Type 0 where
  pub done : List Command
  pub given : Given own tallies shared
  pub within : i ≤ length ws
  pub number : length done ≡ n
  pub fewer : n ≤ i
  pub rest : feed_of s ws ≡ ahead i done (feed_of (session_of own tallies shared) (drop i ws))
