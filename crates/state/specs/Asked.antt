-- What a session's routines ask of the cells that they are lent, and what these hold at return. Assumes nothing.
use Rattle.std.specs.Prelude.{◌≡◌, List, ℕ, ◌+◌, ◌<◌, ◌^◌}
use Rattle.state.specs.Start.{most_claim}
use Rattle.state.specs.State.{Party, Session}
use Rattle.state.specs.Valid.{DomainValid, Valid}
use Rattle.state.specs.Readiness.{readiness_for}
use Rattle.state.specs.Cells.{Sized, party_of, shared_of, session_of, party_cells, tally_cells, shared_cells}

-- cells that hold a session whole
pub record Held (s : Session) (own tallies shared : List ℕ) : Type 0 where
  pub own_cells : own ≡ party_cells s.party
  pub tally_cells_lem : tallies ≡ tally_cells s.party
  pub shared_cells_lem : shared ≡ shared_cells s.shared

pub record HeldOwn (p : Party) (own tallies : List ℕ) : Type 0 where
  pub own_cells : own ≡ party_cells p
  pub tally_cells_lem : tallies ≡ tally_cells p

-- "Statements may assume that a session .. handed in came from these entries": cells of the right lengths that hold a valid
-- session
pub record Given (own tallies shared : List ℕ) : Type 0 where
  pub sized : Sized own tallies shared
  pub valid : Valid (session_of own tallies shared)

-- room for one more start in the tallies, a domain with its ends in order, and what is kept of readiness is what the settings give
pub record OwnAsked (own tallies shared : List ℕ) : Type 0 where
  pub sized : Sized own tallies shared
  pub domain : DomainValid (party_of own tallies).domain
  pub kept : (party_of own tallies).readiness ≡ readiness_for (party_of own tallies) (shared_of shared)
  pub runs : (party_of own tallies).tally.runs + 1 < 2 ^ 64
  pub claims : (party_of own tallies).tally.claims + most_claim < 2 ^ 64
