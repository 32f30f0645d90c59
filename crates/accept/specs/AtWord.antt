-- A session between two commands, and a session at another word of its stream. Assumes nothing.
use Rattle.std.specs.Prelude.{◌≡◌, ℕ}
use Rattle.state.specs.State.{Open, Session, none}

-- a running session without an open command
pub record Idle (s : Session) : Type 0 where
  pub unstopped : s.party.stopped ≡ 0
  pub unopened : s.party.opened ≡ none

-- a session that has taken `n` words and has the open command `o`, all else the same
abbrev pub at_word : Session → ℕ → Open → Session
at_word s n o =
    record {
      party =
          record {
            stopped = s.party.stopped;
            taken = n;
            opened = o;
            domain = s.party.domain;
            instructions = s.party.instructions;
            birth = s.party.birth;
            readiness = s.party.readiness;
            tally = s.party.tally;
          };
      shared = s.shared;
    }
