-- `superfine::line::four` meets its contract. Assumes nothing.
use mathlib.Core.Path.{refl}
use Rattle.superfine.specs.InLine.{in_line}
use Rattle.superfine.proofs.InLine.{reading_of_four}
use Rattle.superfine.proofs.line.four.Goals as goal

pub returns : goal.returns
unfolding in_line
returns c =
    let pre = c.requires in
    reading_of_four _ _ _ _ _ _ _ _ _ pre.0 pre.1 refl refl refl c.in_line-bytes.ensures
