-- What the routines of a record ask of the arrays that they are lent, and what they leave: a change of a replay's own ten numbers, the
-- same by a byte that is answered, and a midnight. Assumes nothing.
use Rattle.std.specs.Prelude.{◌≡◌, List, ℕ, ◌<◌, length, get_or, Result, Ok, Err}
use Rattle.state.specs.State.{Session}
use Rattle.replay.specs.State.{Replay, no_record, marks_length}
use Rattle.replay.specs.Places.{log_length, count_place}
use Rattle.replay.specs.Step.{Reply, taken, refused, Stepped, noted}
use Rattle.replay.specs.Cells.{viewed, replay_in}
use Rattle.refusal.specs.Number.{number_of}
use Rattle.refusal.specs.declared.Refusal.{Refusal}

-- the ten numbers were changed, and nothing else
pub record Changed (f : Replay → Replay) (log log1 : List ℕ) : Type 0 where
  pub log_length_lem : length log1 ≡ log_length
  pub view : (marks : List ℕ) (s : Session) → viewed log1 marks s ≡ f (viewed log marks s)

-- the same by a byte that is answered
pub record Answered (f : Replay → Stepped) (r : Reply) (log log1 : List ℕ) : Type 0 where
  pub log_length_lem : length log1 ≡ log_length
  pub view : (marks : List ℕ) (s : Session) → f (viewed log marks s) ≡ record { reply = r; replay = viewed log1 marks s }

-- a record of which the kind and at most two bytes more stand, as many as is said
pub record AddAsked (log : List ℕ) (count : ℕ) : Type 0 where
  pub log_length_lem : length log ≡ log_length
  pub stands : get_or log count_place 0 ≡ count
  pub begun : 0 < count
  pub room : count < 4

-- a refused word is noted
abbrev pub noting : ℕ → Replay → Replay
noting n r =
    record {
      session = r.session;
      opened = r.opened;
      stopped_by = r.stopped_by;
      refused = noted n r.midnights r.refused;
      midnights = r.midnights;
      last_day = r.last_day;
      marks = r.marks;
    }

-- another number of midnights, and the day of the last
abbrev pub day_begun : ℕ → ℕ → Replay → Replay
day_begun midnights day r =
    record {
      session = r.session;
      opened = no_record;
      stopped_by = r.stopped_by;
      refused = r.refused;
      midnights = midnights;
      last_day = day;
      marks = r.marks;
    }

-- what a byte is answered: it is taken, or the refusal, 18 or 19
abbrev pub reply_of : Result (Unit {0}) Refusal → Reply
reply_of (Ok _) = taken
reply_of (Err why) = refused (number_of why)

-- four bytes
pub record NumberAsked (low second third high : ℕ) : Type 0 where
  pub low_byte : low < 256
  pub second_byte : second < 256
  pub third_byte : third < 256
  pub high_byte : high < 256

pub record MidnightAsked (log marks tallies : List ℕ) : Type 0 where
  pub log_length_lem : length log ≡ log_length
  pub marks_length_lem : length marks ≡ marks_length
  pub tallies_length_lem : length tallies ≡ 2

-- a midnight was read
pub record MidnightLeft (f : Replay → Stepped) (r : Reply) (log marks tallies log1 marks1 : List ℕ) : Type 0 where
  pub log_length_lem : length log1 ≡ log_length
  pub marks_length_lem : length marks1 ≡ marks_length
  pub view :
      (own shared : List ℕ) →
      f (replay_in log marks own tallies shared) ≡ record { reply = r; replay = replay_in log1 marks1 own tallies shared }
