-- A session as document 01 speaks of it: a party's own part, and the settings that are shared. A flag is 1 or 0; what isn't set
-- is all zeros. Assumes nothing.
use Rattle.std.specs.Prelude.{List, [], ◌∷◌, ℕ}
use Rattle.owners.specs.Owners.{everything}

-- a buffer as it was set: base, format word and height
pub record Buffer : Type 0 where
  pub is_set : ℕ
  pub base : ℕ
  pub format : ℕ
  pub height : ℕ

-- the open command: its line of the table (21: none is open), how many parameters were taken, and these; 0 for the others
pub record Open : Type 0 where
  pub line : ℕ
  pub count : ℕ
  pub p0 : ℕ
  pub p1 : ℕ
  pub p2 : ℕ
  pub p3 : ℕ

-- the domain, from (i0, j0) to (i1, j1)
pub record Domain : Type 0 where
  pub is_set : ℕ
  pub i0 : ℕ
  pub j0 : ℕ
  pub i1 : ℕ
  pub j1 : ℕ

-- the tallies: starts that passed, and the elements that they claimed
pub record Tally : Type 0 where
  pub runs : ℕ
  pub claims : ℕ

-- what is fixed when a session begins: the numbers that a party owns, a bit each (0 to 15 inputs, 16 to 19 outputs, 20 what belongs
-- to party 0), and the edition of the lease rule
pub record Birth : Type 0 where
  pub mine : ℕ
  pub edition : ℕ

-- an output's row step and span
pub record Window : Type 0 where
  pub step : ℕ
  pub span : ℕ

-- what the outputs ask of a domain and give for a pair: whether one is set; the least row step and height of those that count;
-- whether no two of these share a byte; and the elements that a pair claims
pub record Gauge : Type 0 where
  pub some : ℕ
  pub columns : ℕ
  pub rows : ℕ
  pub apart : ℕ
  pub credit : ℕ

-- what the settings alone give a start, kept: the number 0, 7, 8 or 9, and what it is reckoned from
pub record Readiness : Type 0 where
  pub number : ℕ
  pub gauge : Gauge
  pub window0 : Window
  pub window1 : Window
  pub window2 : Window
  pub window3 : Window

-- a party's own part
pub record Party : Type 0 where
  pub stopped : ℕ
  pub taken : ℕ
  pub opened : Open
  pub domain : Domain
  pub instructions : Buffer
  pub birth : Birth
  pub readiness : Readiness
  pub tally : Tally

-- what is shared: masks, the test, the constants' formats, the conditional output, and outputs and inputs by number
pub record Shared : Type 0 where
  pub mask : ℕ
  pub conditional_mask_set : ℕ
  pub conditional_mask : ℕ
  pub test_set : ℕ
  pub test : ℕ
  pub floats : Buffer
  pub integers : Buffer
  pub booleans : Buffer
  pub conditional : Buffer
  pub outputs : List Buffer
  pub inputs : List Buffer

pub record Session : Type 0 where
  pub party : Party
  pub shared : Shared

-- nothing set
abbrev pub unset : Buffer
unset = record { is_set = 0; base = 0; format = 0; height = 0 }

-- a command of a line, none of its parameters taken; 21 stands for no command
abbrev pub at_line : ℕ → Open
at_line line = record { line = line; count = 0; p0 = 0; p1 = 0; p2 = 0; p3 = 0 }

abbrev pub none : Open
none = at_line 21

-- "A session's edition .. is fixed at its birth", and so is what a party owns
abbrev pub born : ℕ → ℕ → Birth
born mine edition = record { mine = mine; edition = edition }

abbrev pub no_window : Window
no_window = record { step = 0; span = 0 }

-- the most columns and the most rows that a window has: "E from 1 to 4,096, height H from 1 to 4,096"
abbrev pub most_extent : ℕ
most_extent = 4096

-- where nothing is set, a start gets 7, and no output asks anything of a domain
abbrev pub new_readiness : Readiness
new_readiness =
    record {
      number = 7;
      gauge = record { some = 0; columns = most_extent; rows = most_extent; apart = 1; credit = 0 };
      window0 = no_window;
      window1 = no_window;
      window2 = no_window;
      window3 = no_window;
    }

-- "A new session has nothing set and mask 65535.": a party that owns so much
abbrev pub new_party_of : ℕ → ℕ → Party
new_party_of mine edition =
    record {
      stopped = 0;
      taken = 0;
      opened = none;
      domain = record { is_set = 0; i0 = 0; j0 = 0; i1 = 0; j1 = 0 };
      instructions = unset;
      birth = born mine edition;
      readiness = new_readiness;
      tally = record { runs = 0; claims = 0 };
    }

-- the one party of a session, which owns every number
abbrev pub new_party : ℕ → Party
new_party edition = new_party_of everything edition

abbrev pub new_shared : Shared
new_shared =
    record {
      mask = 65535;
      conditional_mask_set = 0;
      conditional_mask = 0;
      test_set = 0;
      test = 0;
      floats = unset;
      integers = unset;
      booleans = unset;
      conditional = unset;
      outputs = unset ∷ unset ∷ unset ∷ unset ∷ [];
      inputs = unset ∷ unset ∷ unset ∷ unset ∷ unset ∷ unset ∷ unset ∷ unset ∷ unset ∷ unset ∷ unset ∷ unset ∷ unset ∷ unset ∷ unset ∷ unset ∷ [];
    }

abbrev pub new_session : ℕ → Session
new_session edition = record { party = new_party edition; shared = new_shared }
