-- What the tests of many numbers ask of their callers. Assumes nothing.
use Rattle.std.specs.Prelude.{ℕ, ◌+◌, ◌*◌, ◌≤◌}

-- `n` numbers that follow each other from the place `at` of memory on, and places for their bytes from `line` of the room on
pub record StretchAsked (at line n memory room : ℕ) : Type 0 where
  pub few : n ≤ 4096
  pub numbers : at + 2 * n ≤ memory
  pub bytes : line + n ≤ room
