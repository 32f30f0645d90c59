-- Document 01: what a refused word leaves, and the numbers that a session refuses with. Assumes nothing.
use Rattle.std.specs.Prelude.{◌≡◌, ℕ, ◌≤◌}
use Rattle.state.specs.State.{Session}
use Rattle.state.specs.Effects.{stop}

-- "In a session, refusals 2 to 9 and 17 also drop the open command and stop the session for good."; "Like 2 to 9, 20 drops the open
-- command and stops."
pub data StopNumber : ℕ → Type 0 where
  low : {n : ℕ} → 2 ≤ n → n ≤ 9 → StopNumber n
  full : StopNumber 17
  foreign : StopNumber 20

-- the session after a word that was refused with a number: "settings, tallies .. stay the same"
pub data RefusedTo (s : Session) : ℕ → Session → Type 0 where
  -- 1: nothing at all has changed
  unchanged : s.party.stopped ≡ 1 → RefusedTo s 1 s
  -- any other: the open command is dropped and the session is stopped; all else stands
  stopping : {n : ℕ} → StopNumber n → RefusedTo s n (record { party = stop s.party; shared = s.shared })
