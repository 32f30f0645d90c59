-- `survey::held::all_held` meets its contract: memory that isn't fit, memory that covers the window, and row by row. Assumes nothing.
use native.Mathlib.Omega.{arith}
use Rattle.survey.proofs.Holds.{too_long, too_high_lem, covered}
use Rattle.survey.proofs.held.all_held.Goals as goal

pub returns-then-length-gt-MOST_BYTES : goal.returns-then-length-gt-MOST_BYTES
returns-then-length-gt-MOST_BYTES c =
    too_long _ _ _ _ _ _ _ _ c.requires.1 _ c.requires.2 c.if-length-gt-MOST_BYTES.true

pub returns-then-end-gt-ADDRESSED : goal.returns-then-end-gt-ADDRESSED
returns-then-end-gt-ADDRESSED c =
    too_high_lem _ _ _ _ _ _ _ _ c.requires.1 _ c.requires.2 c.if-end-gt-ADDRESSED.true

-- the window is covered
pub returns-then-base-span : goal.returns-then-base-span
returns-then-base-span c =
    covered _ _ _ _ _ _ _ _ c.requires.1 _ c.requires.2 _ c.requires.0.within (omega (arith, c.if-length-gt-MOST_BYTES.false)) (omega (arith, c.if-end-gt-ADDRESSED.false))
    c.if-first-base.true c.if-base-span.true

pub rows_held-requires : goal.rows_held-requires
rows_held-requires c =
    let asked = c.requires.0 in (
      record {
        stride_is = asked.stride_is;
        inside = asked.inside;
        last = asked.last;
        fits = λ i j hi hj. omega (arith, asked.within i j hi hj, asked.fits);
        long = omega (arith, c.if-length-gt-MOST_BYTES.false);
        end = omega (arith, c.if-end-gt-ADDRESSED.false);
      },
      c.requires.1,
    )
