-- `loops::word_at` meets its contract: the word at the number, or none. Assumes nothing.
use Rattle.loops.proofs.Stack.{word_there, word_none}
use Rattle.loops.proofs.word_at.Goals as goal

-- the list has the word
pub returns-then-at-words : goal.returns-then-at-words
returns-then-at-words c =
    word_there c.args.number c.args.words.now c.if-at-words.true

-- it has none
pub returns : goal.returns
returns c =
    word_none c.args.number c.args.words.now c.if-at-words.false
