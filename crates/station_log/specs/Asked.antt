-- What the routines of a replay ask of the arrays that they are lent, and what these hold at return. Assumes nothing.
use Rattle.std.specs.Prelude.{◌≡◌, Bool, true, false, List, ◌++◌, ℕ, ◌+◌, ◌*◌, ◌≤◌, ◌<◌, length, take, drop, get_or}
use Rattle.refusal.specs.Crossing.{status_of}
use Rattle.state.specs.Start.{is_edition, edition_told}
use Rattle.state.specs.Asked.{Given}
use Rattle.state.specs.Cells.{Sized}
use Rattle.session.specs.Feed.{first_status}
use Rattle.session.specs.Answers.{first_of}
use Rattle.session.specs.Answers as session
use Rattle.replay.specs.Step.{Reply, taken, Stepped, number_from}
use Rattle.replay.specs.State.{new_replay, marks_length}
use Rattle.replay.specs.Places.{log_length, stopped_by_place, count_place}
use Rattle.replay.specs.Own.{Answered}
use Rattle.station_log.specs.Bytes.{byte_step}
use Rattle.station_log.specs.Feed as piece
use Rattle.station_log.specs.Feed.{after_words, word_records}
use Rattle.replay.specs.Cells.{replay_in, ReplayHeld, ReplayGiven}
use Rattle.station_log.specs.declared.stream.Fed.{Fed}

-- a piece's answer, and arrays that hold the replay after it
pub record PieceLeft (f : piece.Fed) (r : Fed) (log marks own tallies shared : List ℕ) : Type 0 where
  pub taken : r.taken.0 ≡ f.taken
  pub refusal : first_of r.refusal ≡ f.refusal
  pub held : ReplayHeld f.replay log marks own tallies shared

-- arrays that are as they were
pub record Untouched (log marks own tallies shared log' marks' own' tallies' shared' : List ℕ) : Type 0 where
  pub log_cells_lem : log' ≡ log
  pub mark_cells : marks' ≡ marks
  pub session_cells : session.Untouched own tallies shared own' tallies' shared'

-- "A session's edition (1 or 2, else 3 before all else) is fixed at its birth, also for replay": a new replay of the edition, or a
-- refusal that touches nothing
pub record Begins (edition r : ℕ) (log marks own tallies shared log' marks' own' tallies' shared' : List ℕ) : Type 0 where
  pub status : r ≡ status_of (edition_told edition)
  pub held : is_edition edition ≡ true → ReplayHeld (new_replay edition) log' marks' own' tallies' shared'
  pub untouched : is_edition edition ≡ false → Untouched log marks own tallies shared log' marks' own' tallies' shared'

-- arrays of the right lengths
pub record ReplaySized (log marks own tallies shared : List ℕ) : Type 0 where
  pub log_length_lem : length log ≡ log_length
  pub marks_length_lem : length marks ≡ marks_length
  pub session_sized : Sized own tallies shared

-- a byte by itself, as a piece of one byte: the number of its refusal or 0, and arrays that hold the replay after it
pub record ByteLeft (f : piece.Fed) (number : ℕ) (log marks own tallies shared : List ℕ) : Type 0 where
  pub status : number ≡ first_status f.refusal
  pub held : ReplayHeld f.replay log marks own tallies shared

-- a step, told whole by its reply and the arrays after it
pub record Became (t : Stepped) (r : Reply) (log marks own tallies shared : List ℕ) : Type 0 where
  pub sized : ReplaySized log marks own tallies shared
  pub view : t ≡ record { reply = r; replay = replay_in log marks own tallies shared }

-- a byte of an open record
pub record OpenAsked (log marks own tallies shared : List ℕ) (byte : ℕ) : Type 0 where
  pub given : ReplayGiven log marks own tallies shared
  pub begun : 0 < get_or log count_place 0
  pub bounded : byte < 256

pub record WordsAsked (log own tallies shared : List ℕ) : Type 0 where
  pub log_length_lem : length log ≡ log_length
  pub session_given : Given own tallies shared

-- words of records were fed to the session
pub record WordsLeft (ws log own tallies shared log1 own1 tallies1 shared1 : List ℕ) : Type 0 where
  pub log_length_lem : length log1 ≡ log_length
  pub session_sized : Sized own1 tallies1 shared1
  pub view :
      (marks : List ℕ) → replay_in log1 marks own1 tallies1 shared1 ≡ after_words (replay_in log marks own tallies shared) ws

-- each is a word of 32 bits
abbrev pub Words32 : List ℕ → Type 0
Words32 ws = (k : ℕ) → k < length ws → get_or ws k 0 < 4294967296

-- each is a byte
abbrev pub Bytes8 : List ℕ → Type 0
Bytes8 bs = (k : ℕ) → k < length bs → get_or bs k 0 < 256

-- how many words are fed to the session in one piece at most
abbrev pub batch : ℕ
batch = 1024

-- bytes begin with `n` records of words, and these words are the first of a list
pub record Gathered (bs : List ℕ) (n : ℕ) (words : List ℕ) : Type 0 where
  pub fit : 5 * n ≤ length bs
  pub room : n ≤ length words
  pub bounded : (k : ℕ) → k < n → get_or words k 0 < 4294967296
  pub records : bs ≡ word_records (take n words) ++ drop (5 * n) bs

-- the word of the record at a place
abbrev pub word_at : List ℕ → ℕ → ℕ
word_at bytes i =
    number_from (get_or bytes (i + 1) 0) (get_or bytes (i + 2) 0) (get_or bytes (i + 3) 0) (get_or bytes (i + 4) 0)

-- a running replay without an open record
pub record Idle (log : List ℕ) : Type 0 where
  pub running : get_or log stopped_by_place 0 ≡ 0
  pub unopened : get_or log count_place 0 ≡ 0

-- bytes begin with records of words, and these were read; or nothing was changed
pub data RecordsLeft (bs log own tallies shared : List ℕ) : ℕ → List ℕ → List ℕ → List ℕ → List ℕ → Type 0 where
  unread : RecordsLeft bs log own tallies shared 0 log own tallies shared
  read :
      (ws log1 own1 tallies1 shared1 : List ℕ) → Idle log → Words32 ws → 5 * length ws ≤ length bs →
      bs ≡ word_records ws ++ drop (5 * length ws) bs → WordsLeft ws log own tallies shared log1 own1 tallies1 shared1 →
      RecordsLeft bs log own tallies shared (length ws) log1 own1 tallies1 shared1

-- a byte that only adds to a record was taken; or nothing was changed
pub data Grew (b : ℕ) (log : List ℕ) : Bool → List ℕ → Type 0 where
  grown : (log1 : List ℕ) → Answered (λ r. byte_step r b) taken log log1 → Grew b log true log1
  ungrown : Grew b log false log
