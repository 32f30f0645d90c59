-- What a group of checks comes to: those that agreed and those that differed, each modulo 2^64. Assumes nothing.
use Rattle.std.specs.Prelude.{◌+◌, ◌%◌, ◌^◌, Bool, true, false}
use Rattle.worked.specs.declared.tally.Tally.{Tally}

-- before the first check
abbrev pub unchecked : Tally
unchecked = record { agreed = 0; differed = 0 }

-- one check more
unfoldable pub counted : Tally → Bool → Tally
counted t true = record { agreed = (t.agreed + 1) % 2 ^ 64; differed = t.differed }
counted t false = record { agreed = t.agreed; differed = (t.differed + 1) % 2 ^ 64 }

-- two groups together
abbrev pub together : Tally → Tally → Tally
together t u = record { agreed = (t.agreed + u.agreed) % 2 ^ 64; differed = (t.differed + u.differed) % 2 ^ 64 }
