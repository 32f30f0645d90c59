-- `tables::size_line` meets its contract: before each turn, no line so far holds the size. Assumes nothing.
use mathlib.Core.Path.{◌≡◌, sym, subst}
use native.Mathlib.Numerals.{add-one}
use native.Mathlib.Omega.{arith}
use Rattle.tables.specs.Tables.{sizes}
use Rattle.tables.proofs.Search.{NotBefore, not_yet, not_here, found_at, nowhere}
use Rattle.tables.proofs.size_line.Goals as goal

pub loop-line-init : goal.loop-line-init
loop-line-init c = (omega arith, not_yet _ sizes)

-- the line holds the size
pub returns-then-line-size : goal.returns-then-line-size
returns-then-line-size c =
    sym (found_at _ sizes _ c.loop-line-test.true c.loop-line.invariant.1 c.if-line-size.true)

pub loop-line-smaller : goal.loop-line-smaller
loop-line-smaller c = omega arith

pub loop-line-preserved : goal.loop-line-preserved
loop-line-preserved c =
    let line = c.loop-line.line in (
      omega (arith, c.loop-line-test.true),
      subst (NotBefore _ sizes) (sym (add-one line)) (not_here _ sizes line c.loop-line.invariant.1 c.if-line-size.false),
    )

-- no line holds it
pub returns : goal.returns
returns c =
    let all : c.loop-line.line ≡ 5 = omega (arith, c.loop-line-test.false, c.loop-line.invariant.0) in
    sym (nowhere _ sizes (subst (NotBefore _ sizes) all c.loop-line.invariant.1))
