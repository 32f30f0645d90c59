-- `stream_worked::streams::in_two` is safe and ends; what it hands on came from the entries. Assumes nothing.
use Rattle.std.proofs.Common.{sym, length-take-le}
use Rattle.session.proofs.Handed.{first_given, piece_given}
use Rattle.stream_worked.proofs.streams.in_two.Goals as goal

pub slice_bounds-feed-end : goal.slice_bounds-feed-end
slice_bounds-feed-end c =
    sym (length-take-le c.args.cut c.args.words.now c.if-cut-words.false)

pub feed-a-requires : goal.feed-a-requires
feed-a-requires c = first_given c.begin.ensures

pub feed-b-requires : goal.feed-b-requires
feed-b-requires c =
    piece_given _ (first_given c.begin.ensures) c.feed-a.ensures.held

pub word-requires : goal.word-requires
word-requires c =
    piece_given _ (piece_given _ (first_given c.begin.ensures) c.feed-a.ensures.held) c.feed-b.ensures.held
