-- Sessions as a status and rooms: what a word and a piece are answered. Assumes nothing.
use Rattle.std.specs.Prelude.{◌≡◌, List, [], ◌∷◌, ℕ, length, get_or}
use Rattle.refusal.specs.Told.{Told, gives, refuses}
use Rattle.refusal.specs.Crossing.{Crosses}
use Rattle.command.specs.Table.{header_of}
use Rattle.command.specs.Commands.{line_of, fields_of}
use Rattle.state.specs.Asked.{Held}
use Rattle.session.specs.Step.{Reply, Stepped, still_open, completed, refused}
use Rattle.session.specs.Feed.{Fed, first_status}

-- a word's answer in six numbers: 0s where the command is open, else 1, its header and its parameters, 0 past the last
abbrev pub reply_told : Reply → Told
reply_told still_open = gives (0 ∷ 0 ∷ 0 ∷ 0 ∷ 0 ∷ 0 ∷ [])
reply_told (completed command) =
    gives
    (1 ∷ header_of (line_of command) ∷ get_or (fields_of command) 0 0 ∷ get_or (fields_of command) 1 0 ∷ get_or (fields_of command) 2 0 ∷
    get_or (fields_of command) 3 0 ∷ [])
reply_told (refused number) = refuses number

pub record WordCrosses (t : Stepped) (r : ℕ) (own tallies shared command command' : List ℕ) : Type 0 where
  pub answer : Crosses (reply_told t.reply) r command command'
  pub held : Held t.session own tallies shared

-- a piece: the first refusal or 0, and in any case the words taken and the number of commands completed
pub record FeedCrosses (f : Fed) (r : ℕ) (own tallies shared fed : List ℕ) : Type 0 where
  pub status : r ≡ first_status f.refusal
  pub room : fed ≡ f.taken ∷ length f.commands ∷ []
  pub held : Held f.session own tallies shared
