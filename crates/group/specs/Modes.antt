-- Request 7, "Partial flow control": the two modes of a group, chosen when it begins and never changed. Source document 004, page 38:
-- "Partial flow control mode should be used unless the program requires branch statements nested more than 6 deep or the program requires
-- loops or subroutines". Document 01's group and request 4's are full mode. Assumes nothing.
use Rattle.std.specs.Prelude.{Bool, ℕ, eqb, leb}
use Rattle.laws.specs.Choice.{pick}
use Rattle.group.specs.Proc.{counter_limit}

pub data Mode : Type 0 where
  Full : Mode
  Partial : Mode

-- "inactive counters run 0 to 5 (from 5, increment gets 14)": six nested branches, of which the first that a processor left may be counted up
-- five times
abbrev pub partial_limit : ℕ
partial_limit = 5

-- the limit of a mode's counters
abbrev pub limit_of : Mode → ℕ
limit_of Full = counter_limit
limit_of Partial = partial_limit

-- the modes by number, as a group's begin takes them and its cells keep them: 0 full, 1 partial
abbrev pub mode_number : Mode → ℕ
mode_number Full = 0
mode_number Partial = 1

unfoldable pub mode_of : ℕ → Mode
mode_of n = pick (eqb n 1) Partial Full

-- another number is no mode
unfoldable pub is_mode : ℕ → Bool
is_mode n = leb n 1
