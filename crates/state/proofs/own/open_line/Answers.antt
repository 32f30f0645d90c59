-- `state::own::open_line` meets its contract. Assumes nothing.
use mathlib.Core.Path.{◌∙◌}
use lib.ListN.{length-set}
use Rattle.state.proofs.Puts.{line_taken, line_cells}
use Rattle.state.proofs.own.open_line.Goals as goal

pub count_word-requires : goal.count_word-requires
count_word-requires c = rw (line_taken c.args.own.now c.told-own c.args.line) c.requires.0

pub returns : goal.returns
returns c = c.count_word.ensures ∙ line_cells c.args.own.now c.told-own c.args.line c.requires.1
