-- What the answers to a word and to a piece tell, case by case; and what the beginning of a session leaves. Assumes nothing.
use Rattle.refusal.specs.Number.{number_of}
use Rattle.refusal.specs.declared.Refusal.{Refusal}
use Rattle.std.specs.Prelude.{◌≡◌, true, false, Option, None, Some, Result, Ok, Err, List, ℕ, length}
use Rattle.command.specs.declared.commands.Command.{Command}
use Rattle.session.specs.Step.{Reply, still_open, completed, refused}
use Rattle.session.specs.Feed.{First, nothing, first}
use Rattle.session.specs.Feed as piece
use Rattle.refusal.specs.Crossing.{status_of}
use Rattle.state.specs.State.{new_session}
use Rattle.state.specs.Start.{is_edition, edition_told}
use Rattle.state.specs.Asked.{Held}
use Rattle.session.specs.declared.stream.Fed.{Fed}

abbrev pub reply_of : Result (Option Command) Refusal → Reply
reply_of (Ok None) = still_open
reply_of (Ok (Some command)) = completed command
reply_of (Err why) = refused (number_of why)

-- the same of a command's last word, which leaves none open
abbrev pub last_reply_of : Result Command Refusal → Reply
last_reply_of (Ok command) = completed command
last_reply_of (Err why) = refused (number_of why)

abbrev pub first_of : Option Refusal → First
first_of None = nothing
first_of (Some why) = first (number_of why)

-- the answer to a piece, and cells that hold the session after it
pub record PieceLeft (f : piece.Fed) (r : Fed) (own tallies shared : List ℕ) : Type 0 where
  pub taken : r.taken.0 ≡ f.taken
  pub commands : r.commands ≡ length f.commands
  pub refusal : first_of r.refusal ≡ f.refusal
  pub held : Held f.session own tallies shared

-- cells that are as they were
pub record Untouched (own tallies shared own' tallies' shared' : List ℕ) : Type 0 where
  pub own_cells : own' ≡ own
  pub tally_cells_lem : tallies' ≡ tallies
  pub shared_cells_lem : shared' ≡ shared

-- "A session's edition (1 or 2, else 3 before all else) is fixed at its birth": a new session of the edition, or a refusal that
-- touches nothing
pub record Begins (edition r : ℕ) (own tallies shared own' tallies' shared' : List ℕ) : Type 0 where
  pub status : r ≡ status_of (edition_told edition)
  pub held : is_edition edition ≡ true → Held (new_session edition) own' tallies' shared'
  pub untouched : is_edition edition ≡ false → Untouched own tallies shared own' tallies' shared'

-- whether it began, as a status: 0, or the refusal's number
abbrev pub begun_status : {T : Type 0} → Result T Refusal → ℕ
begun_status (Ok done) = 0
begun_status (Err why) = number_of why
