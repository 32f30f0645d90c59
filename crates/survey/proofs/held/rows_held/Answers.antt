-- `survey::held::rows_held` meets its contract: the numbers of the rows before row j are held. Assumes nothing.
use mathlib.Core.Path.{◌≡◌, ap}
use mathlib.Core.Bool.{true}
use Prim.Native.Nat.{ℕ, ◌*◌}
use native.Mathlib.Omega.{arith}
use Rattle.survey.proofs.Holds.{all_so_far, row_unheld, rows_so_far}
use Rattle.survey.proofs.held.rows_held.Goals as goal

pub loop-j-init : goal.loop-j-init
loop-j-init c = (omega arith, λ k h. absurd (omega (arith, h)))

pub overflow_add-y : goal.overflow_add-y
overflow_add-y c =
    omega (arith, c.requires.0.last, c.loop-j-test.true)

pub row_held-requires : goal.row_held-requires
row_held-requires c =
    let asked = c.requires.0 in
    record {
      stride_is = asked.stride_is;
      columns = asked.inside;
      row = omega (arith, asked.last, c.loop-j-test.true);
      fits = λ i h. asked.fits i c.loop-j.j h c.loop-j-test.true;
      long = asked.long;
      end = asked.end;
    }

-- a row that isn't held
pub returns-then-not-row_held : goal.returns-then-not-row_held
returns-then-not-row_held c =
    row_unheld _ _ _ _ _ _ _ _ c.requires.1 _ _ c.loop-j-test.true _ c.row_held.ensures c.if-not-row_held.true

pub overflow_add-j : goal.overflow_add-j
overflow_add-j c = omega (arith, c.loop-j-test.true)

pub loop-j-smaller : goal.loop-j-smaller
loop-j-smaller c = omega (arith, c.loop-j-test.true)

pub loop-j-preserved : goal.loop-j-preserved
loop-j-preserved c = (
  omega (arith, c.loop-j-test.true),
  rows_so_far _ _ _ _ _ _ _ _ c.requires.1 _ _ c.row_held.ensures c.if-not-row_held.false c.loop-j.invariant.1,
)

-- all rows
pub returns : goal.returns
returns c =
    let args = c.args in
    let inv = c.loop-j.invariant in
    let last : args.rows ≡ c.loop-j.j = omega (arith, inv.0, c.loop-j-test.false) in
    let all : args.rows * args.columns ≡ c.loop-j.j * args.columns = ap (λ (n : ℕ). n * args.columns) last in
    all_so_far _ _ _ (omega (arith, all)) inv.1
