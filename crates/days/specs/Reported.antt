-- What the reports of a replay tell, over the numbers of its arrays. Assumes nothing.
use Rattle.std.specs.Prelude.{List, [], ℕ, ◌-◌}
use Rattle.state.specs.State.{Tally, new_session}
use Rattle.state.specs.Cells.{party_of}
use Rattle.replay.specs.State.{Replay}
use Rattle.replay.specs.Report.{first_day}
use Rattle.replay.specs.Cells.{viewed}
use Rattle.days.specs.declared.report.Counts.{Counts}
use Rattle.days.specs.declared.report.Standing.{Standing}

abbrev pub tally_of : Counts → Tally
tally_of c = record { runs = c.runs; claims = c.claims }

-- the tallies of now
abbrev pub now_in : List ℕ → Tally
now_in tallies = (party_of [] tallies).tally

-- the midnights among a replay's own numbers
abbrev pub midnights_in : List ℕ → ℕ
midnights_in log = (viewed log [] (new_session 1)).midnights

abbrev pub standing_of : Replay → Standing
standing_of r =
    record {
      stopped_by = r.stopped_by;
      refused = r.refused.number;
      refused_after = r.refused.midnights;
      midnights = r.midnights;
      first_day = first_day r.midnights r.last_day;
      last_day = r.last_day;
      unfinished = r.opened.count;
    }
