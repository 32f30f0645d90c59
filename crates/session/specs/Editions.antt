-- What the statements on request 10, "Lease rule, second edition", speak of: sessions and answers with the claimed totals set aside.
-- Assumes nothing.
use Rattle.std.specs.Prelude.{◌≡◌}
use Rattle.state.specs.State.{Gauge, Session}
use Rattle.state.specs.Effects.{with_gauge}
use Rattle.session.specs.Feed.{Fed}

-- a gauge with what a pair is credited set aside
abbrev pub uncredited : Gauge → Gauge
uncredited g = record { some = g.some; columns = g.columns; rows = g.rows; apart = g.apart; credit = 0 }

-- a session with its edition, its claimed elements and what a pair is credited set aside
abbrev pub unclaimed : Session → Session
unclaimed s =
    record {
      party =
          record {
            stopped = s.party.stopped;
            taken = s.party.taken;
            opened = s.party.opened;
            domain = s.party.domain;
            instructions = s.party.instructions;
            birth = record { mine = s.party.birth.mine; edition = 0 };
            readiness = with_gauge (uncredited s.party.readiness.gauge) s.party.readiness;
            tally = record { runs = s.party.tally.runs; claims = 0 };
          };
      shared = s.shared;
    }

-- two answers to a piece are the same, and so is all else of what they leave of the session: runs, settings, readiness, the open
-- command, the stop and the words taken
pub record SameButClaims (f g : Fed) : Type 0 where
  pub taken : f.taken ≡ g.taken
  pub commands : f.commands ≡ g.commands
  pub refusal : f.refusal ≡ g.refusal
  pub session : unclaimed f.session ≡ unclaimed g.session
