-- "Statements may assume that a session .. handed in came from these entries": the sessions that the entries give out, and what the
-- statements on the writer and on reading again say of them. Assumes nothing.
use Rattle.std.specs.Prelude.{◌≡◌, true, List, [], ◌∷◌, ◌++◌, ℕ, ◌+◌, length, take}
use Rattle.refusal.specs.Told.{Told, gives, refuses}
use Rattle.rules.specs.Writer.{write_of, room_after}
use Rattle.command.specs.declared.commands.Command.{Command}
use Rattle.state.specs.State.{Session, new_session}
use Rattle.state.specs.Start.{is_edition}
use Rattle.session.specs.Step.{step_of}
use Rattle.session.specs.Feed.{Fed, feed_of}
use Rattle.session.specs.Again.{Idle, ReadAgain}
use Rattle.session.specs.Tallies.{runs_of, claims_of}

-- a new session of one of the editions, and a session that a word or a piece left of such a one, refused or not
pub data Reached : Session → Type 0 where
  begun : (edition : ℕ) → is_edition edition ≡ true → Reached (new_session edition)
  word : {s : Session} → Reached s → (w : ℕ) → Reached (step_of s w).session
  piece : {s : Session} → Reached s → (ws : List ℕ) → Reached (feed_of s ws).session

-- a command's words: a header, and at most four parameters
abbrev pub most_words : ℕ
most_words = 5

-- the words that the writer says that it put into the room
unfoldable pub words_put : Told → List ℕ → List ℕ
words_put (gives []) room = []
words_put (gives (n ∷ rest)) room = take n room
words_put (refuses n) room = []

-- a command's words by the writer's answer and the room at return
unfoldable pub by_writer : Command → List ℕ → List ℕ
by_writer c room = words_put (write_of c (length room)) (room_after (write_of c (length room)) c room)

-- the words of commands one after the other, each by the writer
unfoldable pub all_by_writer : List Command → List ℕ → List ℕ
all_by_writer [] room = []
all_by_writer (c ∷ cs) room = by_writer c room ++ all_by_writer cs room

-- commands `cs`, which `s` first met, read again by `u`: `t` is the session that they left first, `f` the answer to their words
pub record ReadInFull (s : Session) (cs : List Command) (t u : Session) (f : Fed) : Type 0 where
  -- the same commands, no refusal, and the same settings
  pub again : ReadAgain cs t f
  -- the tallies grow by the same runs, and by the same claims where the editions are the same
  pub runs : f.session.party.tally.runs ≡ u.party.tally.runs + runs_of cs
  pub runs_first : t.party.tally.runs ≡ s.party.tally.runs + runs_of cs
  pub claims :
      f.session.party.tally.claims ≡
      u.party.tally.claims + claims_of u.party.birth cs s.party.domain s.shared.mask s.shared.outputs
  pub claims_first :
      t.party.tally.claims ≡
      s.party.tally.claims + claims_of s.party.birth cs s.party.domain s.shared.mask s.shared.outputs
  -- and it ends between two commands
  pub idle : Idle f.session
