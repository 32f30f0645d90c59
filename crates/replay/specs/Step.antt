-- Document 02, request 1: what a replay answers to a byte, and the replay after it. "a log of records: one byte of kind, then 4
-- bytes, low byte first. Kind 1 is a command word, kind 2 midnight, the number of the day that begins." Assumes nothing.
use Rattle.std.specs.Prelude.{Bool, true, List, ℕ, ◌+◌, ◌*◌, eqb, ltb, set}
use Rattle.laws.specs.Choice.{◌and◌, pick}
use Rattle.laws.specs.Masks.{◌or◌}
use Rattle.state.specs.State.{Session, Tally}
use Rattle.session.specs.Step.{still_open, completed, refused as denied, step_of}
use Rattle.session.specs.Step as stream
use Rattle.replay.specs.State.{OpenRecord, WordRefused, Replay, no_record, most_midnights}

-- a byte is taken, or refused with a number
pub data Reply : Type 0 where
  taken : Reply
  refused : ℕ → Reply

pub record Stepped : Type 0 where
  pub reply : Reply
  pub replay : Replay

-- the replay with another open record
abbrev pub opening : OpenRecord → Replay → Replay
opening o r =
    record {
      session = r.session;
      opened = o;
      stopped_by = r.stopped_by;
      refused = r.refused;
      midnights = r.midnights;
      last_day = r.last_day;
      marks = r.marks;
    }

-- the numbers that stop a replay
pub data StopNumber : ℕ → Type 0 where
  by_kind : StopNumber 18
  by_day : StopNumber 19

-- "Both stop the replay and drop the open record. What came before stands"
abbrev pub stopped : ℕ → Replay → Replay
stopped n r =
    record {
      session = r.session;
      opened = no_record;
      stopped_by = n;
      refused = r.refused;
      midnights = r.midnights;
      last_day = r.last_day;
      marks = r.marks;
    }

abbrev pub stopping : Replay → ℕ → Stepped
stopping r n = record { reply = refused n; replay = stopped n r }

abbrev pub taking : Replay → Stepped
taking r = record { reply = taken; replay = r }

-- a record's first byte: "another kind byte is 18"
abbrev pub is_kind : ℕ → Bool
is_kind b = eqb b 1 or eqb b 2

abbrev pub of_kind : ℕ → OpenRecord
of_kind b = record { count = 1; kind = b; low = 0; second = 0; third = 0 }

unfoldable pub kind_step : Replay → ℕ → Stepped
kind_step r b = pick (is_kind b) (taking (opening (of_kind b) r)) (stopping r 18)

-- the open record with its next byte
abbrev pub with_byte : OpenRecord → ℕ → OpenRecord
with_byte o b =
    record {
      count = o.count + 1;
      kind = o.kind;
      low = pick (eqb o.count 1) b o.low;
      second = pick (eqb o.count 2) b o.second;
      third = pick (eqb o.count 3) b o.third;
    }

-- the number of four bytes, "low byte first"
unfoldable pub number_from : ℕ → ℕ → ℕ → ℕ → ℕ
number_from low second third high = low + 256 * second + 65536 * third + 16777216 * high

-- "the first such number is reported": a number that stands isn't replaced
abbrev pub noted : ℕ → ℕ → WordRefused → WordRefused
noted n midnights f = pick (eqb f.number 0) (record { number = n; midnights = midnights }) f

abbrev pub noted_reply : stream.Reply → ℕ → WordRefused → WordRefused
noted_reply still_open midnights f = f
noted_reply (completed c) midnights f = f
noted_reply (denied n) midnights f = noted n midnights f

-- the replay with its session and first refused word after some words
abbrev pub with_words : Session → WordRefused → Replay → Replay
with_words s f r =
    record {
      session = s;
      opened = no_record;
      stopped_by = r.stopped_by;
      refused = f;
      midnights = r.midnights;
      last_day = r.last_day;
      marks = r.marks;
    }

-- "Replay feeds the words to one session, across all midnights"; "A refused word's bytes are taken"
unfoldable pub after_word : Replay → ℕ → Replay
after_word r w =
    with_words (step_of r.session w).session (noted_reply (step_of r.session w).reply r.midnights r.refused) r

-- "The first midnight may name any day; each later one is one more than the last, and at most 400 come in all"
unfoldable pub may_begin : ℕ → ℕ → ℕ → Bool
may_begin midnights last_day day = ltb midnights most_midnights and pick (eqb midnights 0) true (eqb day (last_day + 1))

-- the marks with those of the midnight k
abbrev pub marked : List ℕ → ℕ → Tally → List ℕ
marked marks k t = set (set marks (2 * k) t.runs) (2 * k + 1) t.claims

unfoldable pub after_midnight : Replay → ℕ → Replay
after_midnight r day =
    record {
      session = r.session;
      opened = no_record;
      stopped_by = r.stopped_by;
      refused = r.refused;
      midnights = r.midnights + 1;
      last_day = day;
      marks = marked r.marks r.midnights r.session.party.tally;
    }

-- "else refusal 19 at its last byte"
unfoldable pub midnight_step : Replay → ℕ → Stepped
midnight_step r day = pick (may_begin r.midnights r.last_day day) (taking (after_midnight r day)) (stopping r 19)
