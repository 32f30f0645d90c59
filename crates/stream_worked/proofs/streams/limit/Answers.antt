-- `stream_worked::streams::limit` is safe and ends; what it hands on came from the entries. Assumes nothing.
use Rattle.session.proofs.Handed.{first_given, word_given, piece_given}
use Rattle.stream_worked.proofs.streams.limit.Goals as goal

pub loop-k-init : goal.loop-k-init
loop-k-init c = first_given c.begin.ensures

pub feed-fed-requires : goal.feed-fed-requires
feed-fed-requires c = c.loop-k.invariant

pub loop-k-preserved : goal.loop-k-preserved
loop-k-preserved c =
    piece_given _ c.loop-k.invariant c.feed-fed.ensures.held

pub word-requires : goal.word-requires
word-requires c =
    c.loop-k.invariant

pub word-requires-2 : goal.word-requires-2
word-requires-2 c =
    word_given _ _ c.loop-k.invariant c.word.ensures
