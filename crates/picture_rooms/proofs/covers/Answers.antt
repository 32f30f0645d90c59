-- `picture_rooms::covers` meets its contract, test by test. Assumes nothing.
use mathlib.Core.Path.{sym}
use native.Mathlib.Omega.{arith}
use Rattle.picture_rooms.proofs.Judging.{too_high_lem, too_low, the_rest}
use Rattle.picture_rooms.proofs.covers.Goals as goal

-- memory is longer than all addresses
pub returns-then-length-gt-ADDRESSED : goal.returns-then-length-gt-ADDRESSED
returns-then-length-gt-ADDRESSED c = sym (too_high_lem _ _ _ _ (omega (arith, c.if-length-gt-ADDRESSED.true)))

-- memory ends above 2^32
pub returns-then-end-gt-ADDRESSED : goal.returns-then-end-gt-ADDRESSED
returns-then-end-gt-ADDRESSED c = sym (too_high_lem _ _ _ _ (omega (arith, c.if-end-gt-ADDRESSED.true)))

-- memory begins above the base
pub returns-then-base-first : goal.returns-then-base-first
returns-then-base-first c = sym (too_low _ _ _ _ c.if-base-first.true)

pub returns : goal.returns
returns c = the_rest _ _ _ _ (omega (arith, c.if-end-gt-ADDRESSED.false)) (omega (arith, c.if-base-first.false))
