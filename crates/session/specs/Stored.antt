-- What the statements on request 6, "Keep readiness instead of asking again", speak of. Assumes nothing.
use Rattle.std.specs.Prelude.{◌≡◌, [], ℕ, eqb}
use Rattle.laws.specs.Choice.{pick}
use Rattle.refusal.specs.Told.{Told, gives, refuses}
use Rattle.state.specs.State.{Session, new_readiness}
use Rattle.state.specs.Effects.{with_readiness}
use Rattle.session.specs.Feed.{Fed}

-- a stored number as the answer that a start gets of the settings: 0 lets it pass
unfoldable pub told_by : ℕ → Told
told_by number = pick (eqb number 0) (gives []) (refuses number)

-- the session with another readiness kept: that of a new session, whatever its settings
abbrev pub forgotten : Session → Session
forgotten s = record { party = with_readiness new_readiness s.party; shared = s.shared }

-- the same answers, and sessions after them that differ in nothing but what is kept of readiness
pub record SameAnswers (f g : Fed) : Type 0 where
  pub taken : f.taken ≡ g.taken
  pub commands : f.commands ≡ g.commands
  pub refusal : f.refusal ≡ g.refusal
  pub session : forgotten f.session ≡ forgotten g.session
