-- Document 02, request 1: the replay of a station's log, as the request speaks of it. A replay that has read nothing is all
-- zeros beside a new session, whose edition it has. Assumes nothing.
use Rattle.std.specs.Prelude.{List, ℕ, ◌*◌, replicate}
use Rattle.state.specs.State.{Session, new_session}

-- the open record: how many of its bytes stand (0: none is open), the kind, and the first bytes of its number, "low byte
-- first"; 0 for those that haven't come
pub record OpenRecord : Type 0 where
  pub count : ℕ
  pub kind : ℕ
  pub low : ℕ
  pub second : ℕ
  pub third : ℕ

-- the first refused word: its number, and how many midnights came before it; 0 and 0 where no word was refused
pub record WordRefused : Type 0 where
  pub number : ℕ
  pub midnights : ℕ

-- a replay: its one session; the open record; the number that stopped it, 0 while it goes on; the first refused word; how
-- many midnights came, and the day of the last; and the session's tallies at each midnight: number 2k of the marks is the
-- runs at the midnight k, counted from 0, and number 2k + 1 the claims
pub record Replay : Type 0 where
  pub session : Session
  pub opened : OpenRecord
  pub stopped_by : ℕ
  pub refused : WordRefused
  pub midnights : ℕ
  pub last_day : ℕ
  pub marks : List ℕ

abbrev pub no_record : OpenRecord
no_record = record { count = 0; kind = 0; low = 0; second = 0; third = 0 }

-- "at most 400 come in all"
abbrev pub most_midnights : ℕ
most_midnights = 400

-- two marks for each midnight: runs and claims
abbrev pub marks_length : ℕ
marks_length = 2 * most_midnights

abbrev pub new_replay : ℕ → Replay
new_replay edition =
    record {
      session = new_session edition;
      opened = no_record;
      stopped_by = 0;
      refused = record { number = 0; midnights = 0 };
      midnights = 0;
      last_day = 0;
      marks = replicate marks_length 0;
    }
