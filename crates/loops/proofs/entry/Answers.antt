-- `loops::entry` meets its contract: a LOOP's cell is its word with the mark, a REP's its count. Assumes nothing.
use mathlib.Core.Path.{sym, ap, ◌∙◌}
use mathlib.Core.Bool.{Bool}
use Rattle.loops.specs.Loops.{loop_cell, entry_of}
use Rattle.loops.proofs.Stack.{entry_loop, entry_rep}
use Rattle.loops.proofs.entry.Goals as goal

-- a LOOP
pub returns-then-looping : goal.returns-then-looping
returns-then-looping c =
    let word = c.args.word in
    entry_loop word c.requires ∙ sym (ap (λ (b : Bool). loop_cell (entry_of b word)) c.if-looping.true)

-- a REP
pub returns : goal.returns
returns c =
    let word = c.args.word in
    entry_rep word ∙ sym (ap (λ (b : Bool). loop_cell (entry_of b word)) c.if-looping.false)
