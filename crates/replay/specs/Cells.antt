-- Where a replay lies in the arrays that a caller lends: ten numbers of its own, the marks of 400 midnights, and its session's
-- three arrays. Assumes nothing.
use Rattle.std.specs.Prelude.{◌≡◌, true, List, [], ◌∷◌, ℕ, ◌+◌, ◌*◌, ◌≤◌, ◌<◌, length, get_or}
use Rattle.state.specs.State.{Session}
use Rattle.state.specs.Cells.{session_of, Sized}
use Rattle.state.specs.Asked.{Held}
use Rattle.state.specs.Valid as sessions
use Rattle.replay.specs.State.{OpenRecord, Replay, no_record, most_midnights, marks_length}
use Rattle.replay.specs.Places.{log_length, stopped_by_place, refused_place, refused_after_place, midnights_place, last_day_place, count_place}
use Rattle.replay.specs.Places.{kind_place, low_place, second_place, third_place}
use Rattle.replay.specs.Step.{StopNumber, is_kind}
use Rattle.replay.specs.Report.{began_with, ended_with}

abbrev pub open_of : List ℕ → OpenRecord
open_of l =
    record {
      count = get_or l count_place 0;
      kind = get_or l kind_place 0;
      low = get_or l low_place 0;
      second = get_or l second_place 0;
      third = get_or l third_place 0;
    }

-- the replay of ten numbers, marks and a session
unfoldable pub viewed : List ℕ → List ℕ → Session → Replay
viewed l marks s =
    record {
      session = s;
      opened = open_of l;
      stopped_by = get_or l stopped_by_place 0;
      refused = record { number = get_or l refused_place 0; midnights = get_or l refused_after_place 0 };
      midnights = get_or l midnights_place 0;
      last_day = get_or l last_day_place 0;
      marks = marks;
    }

abbrev pub replay_in : List ℕ → List ℕ → List ℕ → List ℕ → List ℕ → Replay
replay_in l marks own tallies shared = viewed l marks (session_of own tallies shared)

-- the ten numbers of a replay
unfoldable pub log_cells : Replay → List ℕ
log_cells r =
    r.stopped_by ∷ r.refused.number ∷ r.refused.midnights ∷ r.midnights ∷ r.last_day ∷ r.opened.count ∷
    r.opened.kind ∷ r.opened.low ∷ r.opened.second ∷ r.opened.third ∷ []

-- arrays that hold a replay whole
pub record ReplayHeld (r : Replay) (log marks own tallies shared : List ℕ) : Type 0 where
  pub log_cells_lem : log ≡ log_cells r
  pub mark_cells : marks ≡ r.marks
  pub session_cells : Held r.session own tallies shared

-- the tallies only grow from one end of a part to the other
pub record Grows (marks : List ℕ) (midnights runs claims k : ℕ) : Type 0 where
  pub runs_grow : (began_with marks k).runs ≤ (ended_with marks midnights (record { runs = runs; claims = claims }) k).runs
  pub claims_grow : (began_with marks k).claims ≤ (ended_with marks midnights (record { runs = runs; claims = claims }) k).claims

-- what holds of every replay that the entries give out
pub record ReplayValid (r : Replay) : Type 0 where
  pub session : sessions.Valid r.session
  pub stops : (r.stopped_by ≡ 0 → ⊥) → StopNumber r.stopped_by
  pub dropped : (r.stopped_by ≡ 0 → ⊥) → r.opened ≡ no_record
  pub count_most : r.opened.count ≤ 4
  pub closed : r.opened.count ≡ 0 → r.opened ≡ no_record
  -- "another kind byte is 18", so an open record has one of the two
  pub kind_known : 0 < r.opened.count → is_kind r.opened.kind ≡ true
  pub low_byte : r.opened.low < 256
  pub second_byte : r.opened.second < 256
  pub third_byte : r.opened.third < 256
  -- 0 for the bytes that haven't come
  pub low_rest : r.opened.count ≤ 1 → r.opened.low ≡ 0
  pub second_rest : r.opened.count ≤ 2 → r.opened.second ≡ 0
  pub third_rest : r.opened.count ≤ 3 → r.opened.third ≡ 0
  -- the first refused word came after no more midnights than have come; 0 and 0 where there is none
  pub refused_midnights : r.refused.midnights ≤ r.midnights
  pub unrefused : r.refused.number ≡ 0 → r.refused.midnights ≡ 0
  pub midnights_most : r.midnights ≤ most_midnights
  pub days_number : r.midnights ≤ r.last_day + 1
  pub no_day : r.midnights ≡ 0 → r.last_day ≡ 0
  pub marks_length_lem : length r.marks ≡ marks_length
  -- 0 for the midnights that haven't come
  pub marks_rest : (k : ℕ) → 2 * r.midnights ≤ k → get_or r.marks k 0 ≡ 0
  pub growing : (k : ℕ) → k ≤ r.midnights → Grows r.marks r.midnights r.session.party.tally.runs r.session.party.tally.claims k

-- "A replay state handed in is trusted as a session is": arrays of the right lengths that hold a valid replay
pub record ReplayGiven (log marks own tallies shared : List ℕ) : Type 0 where
  pub log_length_lem : length log ≡ log_length
  pub marks_length_lem : length marks ≡ marks_length
  pub session_sized : Sized own tallies shared
  pub valid : ReplayValid (replay_in log marks own tallies shared)
