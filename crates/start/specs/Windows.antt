-- An output as a start sees it, and what a start asks of one output, of two and of all four, said of what it sees. Assumes nothing.
use Rattle.std.specs.Prelude.{Bool, true, List, ℕ, ◌+◌, eqb, leb}
use Rattle.laws.specs.Choice.{◌and◌, pick}
use Rattle.laws.specs.Below.{sum, count}
use Rattle.laws.specs.Masks.{on, digit}
use Rattle.start.specs.declared.ready.Output.{Output}
use Rattle.state.specs.State.{Buffer, Window, most_extent}
use Rattle.state.specs.Start.{output, is_set, unmasked, channels_unmasked}
use Rattle.state.specs.Readiness.{lesser}

-- an output counts, by its flag and format and the mask's bits from the output's own on: these are a mask in which it is output 0
unfoldable pub counts_by : ℕ → ℕ → ℕ → Bool
counts_by bits flag format = eqb flag 1 and unmasked bits 0 format

-- a buffer that is shown as not set where it is another party's: nothing else of it is then looked at
abbrev pub muted : Bool → Buffer → Buffer
muted owned b = record { is_set = pick owned b.is_set 0; base = b.base; format = b.format; height = b.height }

-- how many of four bits are ones
unfoldable pub ones_in : ℕ → ℕ
ones_in four = count 4 (λ c. on c four)

-- an output's unmasked channels, by the same; none where it isn't set
unfoldable pub channels_by : ℕ → ℕ → ℕ → ℕ
channels_by bits flag format = pick (eqb flag 1) (channels_unmasked bits 0 format) 0

-- the unmasked channels of all set outputs
unfoldable pub channels_in : ℕ → List Buffer → ℕ
channels_in mask outputs = sum 4 (λ n. pick (is_set outputs n) (channels_unmasked mask n (output outputs n).format) 0)

-- a buffer with the window that is kept of it
abbrev pub output_by : ℕ → Buffer → Window → Output
output_by bits b w =
    record {
      set = eqb b.is_set 1;
      counts = counts_by bits b.is_set b.format;
      base = b.base;
      step = w.step;
      height = b.height;
      span = w.span;
    }

-- two spans share no byte
unfoldable pub spans_apart : ℕ → ℕ → ℕ → ℕ → Bool
spans_apart base span other other_span = pick (leb (base + span) other) true (leb (other + other_span) base)

-- one of two outputs doesn't count, or their spans share no byte
unfoldable pub keeps_apart : Output → Output → Bool
keeps_apart a b = pick (a.counts and b.counts) (spans_apart a.base a.span b.base b.span) true

-- what an output leaves a domain of an extent that its window has: all where it doesn't count
unfoldable pub extent_left : Bool → ℕ → ℕ
extent_left counts extent = pick counts extent most_extent

module _ (a b c d : Output) where
  -- some of four outputs is set
  unfoldable pub some_set : Bool
  some_set = pick (pick (pick a.set true b.set) true c.set) true d.set

  -- no two of four outputs that count share a byte
  unfoldable pub each_apart : Bool
  each_apart =
      (keeps_apart b a and (keeps_apart c a and keeps_apart c b)) and ((keeps_apart d a and keeps_apart d b) and keeps_apart d c)

  -- the columns and the rows that the four leave a domain
  unfoldable pub columns_by : ℕ
  columns_by =
      lesser (extent_left a.counts a.step)
      (lesser (extent_left b.counts b.step)
      (lesser (extent_left c.counts c.step) (lesser (extent_left d.counts d.step) most_extent)))

  unfoldable pub rows_by : ℕ
  rows_by =
      lesser (extent_left a.counts a.height)
      (lesser (extent_left b.counts b.height)
      (lesser (extent_left c.counts c.height) (lesser (extent_left d.counts d.height) most_extent)))

  -- how many of the four count
  unfoldable pub count_by : ℕ
  count_by = digit a.counts + (digit b.counts + (digit c.counts + (digit d.counts + 0)))

  -- what a pair is credited by an edition, of four outputs with so many unmasked channels in all
  unfoldable pub credit_by : ℕ → ℕ → ℕ
  credit_by edition channels = pick (eqb edition 2) channels count_by

-- the first of 7, 8 and 9 by what holds of a start, 0 where none is given
unfoldable pub first_of : Bool → Bool → Bool → ℕ
first_of complete covered disjoint = pick complete (pick covered (pick disjoint 0 9) 8) 7
