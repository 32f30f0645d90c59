-- `growing::tell` meets its contract: 64 and 0 where none owes. Assumes nothing.
use mathlib.Core.Path.{refl}
use Rattle.growing.proofs.Adding.{none_told, named_told}
use Rattle.growing.proofs.tell.Goals as goal

pub returns-then-sums-eq0 : goal.returns-then-sums-eq0
returns-then-sums-eq0 c =
    none_told c.args.sums.now c.if-sums-eq0.true refl

pub returns : goal.returns
returns c =
    named_told c.args.sums.now c.if-sums-eq0.false refl
