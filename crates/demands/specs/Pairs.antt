-- Two parties' arrays as a host has them: each party's own cells and its tallies, and the shared ones; and what the calls over them answer and
-- leave. Assumes nothing.
use Rattle.std.specs.Prelude.{Bool, true, false, List, ℕ}
use Rattle.state.specs.State.{Session}
use Rattle.state.specs.Cells.{session_of}
use Rattle.lessees.specs.Pair.{Pair}
use Rattle.lessees.specs.Rooms.{pair_of, PairGiven, PairBegins, PairFeeds}

pub record PairArrays : Type 0 where
  pub own0 : List ℕ
  pub tallies0 : List ℕ
  pub own1 : List ℕ
  pub tallies1 : List ℕ
  pub shared : List ℕ

abbrev pub PairGivenAt : PairArrays → Type 0
PairGivenAt a = PairGiven a.own0 a.tallies0 a.own1 a.tallies1 a.shared

-- what one call of egretfold_pair_feed answers and leaves
abbrev pub PairFedAt : List ℕ → List ℕ → ℕ → PairArrays → List ℕ → PairArrays → List ℕ → Type 0
PairFedAt words parties r a fed a' fed' =
    PairFeeds words parties r a.own0 a.tallies0 a.own1 a.tallies1 a.shared fed a'.own0 a'.tallies0 a'.own1
    a'.tallies1 a'.shared fed'

abbrev pub PairBegunAt : ℕ → ℕ → ℕ → ℕ → PairArrays → PairArrays → Type 0
PairBegunAt inputs outputs edition r a a' =
    PairBegins inputs outputs edition r a.own0 a.tallies0 a.own1 a.tallies1 a.shared a'.own0 a'.tallies0 a'.own1
    a'.tallies1 a'.shared

-- the pair that they hold
abbrev pub pair_at : PairArrays → Pair
pair_at a = pair_of a.own0 a.tallies0 a.own1 a.tallies1 a.shared

-- a party's own cells and its tallies
abbrev pub own_at : Bool → PairArrays → List ℕ
own_at false a = a.own0
own_at true a = a.own1

abbrev pub tallies_at : Bool → PairArrays → List ℕ
tallies_at false a = a.tallies0
tallies_at true a = a.tallies1

-- the session that they hold with the shared cells
abbrev pub session_at : Bool → PairArrays → Session
session_at p a = session_of (own_at p a) (tallies_at p a) a.shared

-- the arrays after a call with one party's own and the shared ones
abbrev pub with_party : Bool → List ℕ → List ℕ → List ℕ → PairArrays → PairArrays
with_party false own tallies shared a =
    record { own0 = own; tallies0 = tallies; own1 = a.own1; tallies1 = a.tallies1; shared = shared }
with_party true own tallies shared a =
    record { own0 = a.own0; tallies0 = a.tallies0; own1 = own; tallies1 = tallies; shared = shared }
