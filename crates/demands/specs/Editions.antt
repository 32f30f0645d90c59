-- Request 10: 64 bits for a session's tallies. Assumes nothing.
use Rattle.std.specs.Prelude.{ℕ, ◌*◌, ◌^◌, ◌<◌, ◌≤◌}
use Rattle.state.specs.State.{Session}
use Rattle.state.specs.Start.{most_claim}
use Rattle.state.specs.Effects.{limit}

-- a session takes at most 1,000,000,000 words, each of which claims at most 268,435,456 elements
pub record FitTallies (s : Session) : Type 0 where
  pub claims_most : s.party.tally.claims ≤ limit * most_claim
  pub claims_fit : limit * most_claim < 2 ^ 64
  pub runs_fit : s.party.tally.runs < 2 ^ 64
