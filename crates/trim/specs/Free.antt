-- A replay with room for any number of midnights: document 02's, "at most 400 come in all" left out. It is what a replay that is trimmed
-- from time to time is held against over the years. Assumes nothing.
use Rattle.std.specs.Prelude.{◌≡◌, Bool, true, List, [], ◌∷◌, ◌++◌, ℕ, ◌+◌, ◌-◌, ◌*◌, ◌≤◌, ◌<◌, eqb, ltb, length}
use Rattle.laws.specs.Choice.{◌and◌, pick}
use Rattle.session.specs.Feed.{nothing, first}
use Rattle.replay.specs.State.{Replay, no_record, new_replay, most_midnights, marks_length}
use Rattle.replay.specs.Step.{refused, Stepped, opening, stopping, taking, kind_step, with_byte, number_from, after_word}
use Rattle.replay.specs.Report.{mark_at, part_at, day_at, first_day}
use Rattle.station_log.specs.Feed.{Fed, ended, proceed, replay_of}
use Rattle.score.specs.Lease.{Lease}
use Rattle.score.specs.Score.{score_of}
use Rattle.trim.specs.Trim.{cut_before, trimmed}
use Rattle.trim.specs.Laws.{NotFull}

-- one that has read nothing
abbrev pub new_free : ℕ → Replay
new_free edition =
    record {
      session = (new_replay edition).session;
      opened = no_record;
      stopped_by = 0;
      refused = record { number = 0; midnights = 0 };
      midnights = 0;
      last_day = 0;
      marks = [];
    }

-- the marks are as many as the midnights
abbrev pub roomy_after : Replay → ℕ → Replay
roomy_after r day =
    record {
      session = r.session;
      opened = no_record;
      stopped_by = r.stopped_by;
      refused = r.refused;
      midnights = r.midnights + 1;
      last_day = day;
      marks = r.marks ++ (r.session.party.tally.runs ∷ r.session.party.tally.claims ∷ []);
    }

-- "The first midnight may name any day; each later one is one more than the last", where `room`, asked how many have come, says yes
unfoldable pub roomy_midnight : (ℕ → Bool) → Replay → ℕ → Stepped
roomy_midnight room r day =
    pick (room r.midnights and pick (eqb r.midnights 0) true (eqb day (r.last_day + 1))) (taking (roomy_after r day)) (stopping r 19)

-- all else is as it was
unfoldable pub roomy_record : (ℕ → Bool) → ℕ → Replay → ℕ → Stepped
roomy_record room kind r number = pick (eqb kind 1) (taking (after_word r number)) (roomy_midnight room r number)

unfoldable pub roomy_open : (ℕ → Bool) → Replay → ℕ → Stepped
roomy_open room r b =
    let o = r.opened in
    pick (ltb o.count 4) (taking (opening (with_byte o b) r))
    (roomy_record room o.kind r (number_from o.low o.second o.third b))

unfoldable pub roomy_byte : (ℕ → Bool) → Replay → ℕ → Stepped
roomy_byte room r b =
    pick (eqb r.stopped_by 0) (pick (eqb r.opened.count 0) (kind_step r b) (roomy_open room r b))
    (record { reply = refused r.stopped_by; replay = r })

unfoldable pub roomy_of : (ℕ → Bool) → Replay → List ℕ → Fed
roomy_of room r [] = ended nothing r
roomy_of room r (b ∷ bs) = proceed (roomy_byte room r b).reply (roomy_byte room r b).replay (roomy_of room (roomy_byte room r b).replay bs)

-- room for so many midnights in all, and for any number
abbrev pub fewer_than : ℕ → ℕ → Bool
fewer_than most midnights = ltb midnights most

abbrev pub any_number : ℕ → Bool
any_number midnights = true

-- "at most 400 come in all" left out
abbrev pub free_of : Replay → List ℕ → Fed
free_of = roomy_of any_number

-- `q`, with room for 400 midnights, is the free replay `r` without its first `cut` midnights
pub record Follows (cut : ℕ) (r q : Replay) : Type 0 where
  pub session : r.session ≡ q.session
  pub opened : r.opened ≡ q.opened
  pub stopped_by : r.stopped_by ≡ q.stopped_by
  pub refused : cut_before cut r.refused ≡ q.refused
  pub midnights : r.midnights ≡ cut + q.midnights
  pub some : 0 < cut → 0 < q.midnights
  pub most : q.midnights ≤ most_midnights
  pub last_day_lem : r.last_day ≡ q.last_day
  pub days_number : q.midnights ≤ q.last_day + 1
  pub long_room : length r.marks ≡ 2 * r.midnights
  pub room : length q.marks ≡ marks_length
  pub marks : (k : ℕ) → k < q.midnights → mark_at r.marks (cut + k) ≡ mark_at q.marks k

pub data Behind (r q : Replay) : Type 0 where
  by : (cut : ℕ) → Follows cut r q → Behind r q

-- answers to a piece: the same; or the one with room for 400 is full
pub data Keeps (cut : ℕ) (f g : Fed) : Type 0 where
  same : f.taken ≡ g.taken → f.refusal ≡ g.refusal → Follows cut f.replay g.replay → Keeps cut f g
  full : g.refusal ≡ first 19 → g.replay.midnights ≡ most_midnights → g.taken < f.taken → Keeps cut f g

-- pieces and trims in any order: all the bytes, and the replay that they leave. A piece may be refused, only not for want of room
pub data Years (q0 : Replay) : List ℕ → Replay → Type 0 where
  begun : Years q0 [] q0
  fed : (bytes : List ℕ) (q : Replay) → Years q0 bytes q → (p : List ℕ) → NotFull (replay_of q p) →
      Years q0 (bytes ++ p) (replay_of q p).replay
  trim : (bytes : List ℕ) (q : Replay) → Years q0 bytes q → Years q0 bytes (trimmed q)

-- what the replay `q`, which has the last midnights of the free replay `r`, has in common with it
pub record AsFree (r q : Replay) : Type 0 where
  pub session : q.session ≡ r.session
  pub opened : q.opened ≡ r.opened
  pub stopped_by : q.stopped_by ≡ r.stopped_by
  pub refused : q.refused ≡ cut_before (r.midnights - q.midnights) r.refused
  pub last_day_lem : q.last_day ≡ r.last_day
  pub fewer : q.midnights ≤ r.midnights
  pub parts : (k : ℕ) → 0 < k → k ≤ q.midnights → part_at q k ≡ part_at r (r.midnights - q.midnights + k)
  pub days : (k : ℕ) → 0 < k → k ≤ q.midnights → day_at q k ≡ day_at r (r.midnights - q.midnights + k)
  -- part 0 has all that ended before its first midnight
  pub before : 0 < q.midnights → part_at q 0 ≡ mark_at r.marks (r.midnights - q.midnights)
  pub scores : 0 < q.midnights → (l : Lease) → first_day q.midnights q.last_day ≤ l.first_day → score_of l q ≡ score_of l r
