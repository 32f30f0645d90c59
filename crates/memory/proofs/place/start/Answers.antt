-- `memory::place::start` meets its contract: a law for each return. Assumes nothing.
use mathlib.Core.Path.{sym}
use Rattle.memory.proofs.Places.{too_long, too_high_lem, below_first, past_end, starts}
use Rattle.memory.proofs.place.start.Goals as goal

pub returns-then-length-gt-MOST_BYTES : goal.returns-then-length-gt-MOST_BYTES
returns-then-length-gt-MOST_BYTES c = sym (too_long _ _ _ _ c.if-length-gt-MOST_BYTES.true)

pub returns-then-end-gt-ADDRESSED : goal.returns-then-end-gt-ADDRESSED
returns-then-end-gt-ADDRESSED c = sym (too_high_lem _ _ _ _ c.if-end-gt-ADDRESSED.true)

pub returns-then-at-low : goal.returns-then-at-low
returns-then-at-low c = sym (below_first _ _ _ _ c.if-at-low.true)

pub returns-then-end-at : goal.returns-then-end-at
returns-then-end-at c = sym (past_end _ _ _ _ c.if-end-at.true)

pub returns : goal.returns
returns c =
    sym (starts _ _ _ _ (record { long = c.if-length-gt-MOST_BYTES.false; high = c.if-end-gt-ADDRESSED.false; low = c.if-at-low.false; whole = c.if-end-at.false }))
