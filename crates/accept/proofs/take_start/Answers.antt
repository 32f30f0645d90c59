-- `accept::take_start` meets its contract. Assumes nothing.
use Rattle.accept.proofs.WholeCommands.{start_asked, start_denied, start_unready, start_tried}
use Rattle.start.proofs.claims.count_start.Reads as count_start_reads
use Rattle.state.proofs.own.count_words.Reads as count_words_reads
use Rattle.accept.proofs.take_start.Goals as goal

pub returns-then-reserved-ne0 : goal.returns-then-reserved-ne0
returns-then-reserved-ne0 c rest = start_denied _ c.if-reserved-ne0.true rest

pub returns-then-own-ne0 : goal.returns-then-own-ne0
returns-then-own-ne0 c rest =
    start_unready c.args.own.now c.args.tallies.now c.args.shared.now _ c.requires.1 c.if-own-ne0.true

pub count_start-requires : goal.count_start-requires
count_start-requires c =
    start_asked _ _ _ c.count_words.ensures c.args.tallies.now c.args.shared.now c.requires.1

pub returns : goal.returns
returns c =
    start_tried _ _ _ c.count_words.ensures c.args.tallies.now c.args.shared.now c.requires.1 _
    c.if-reserved-ne0.false c.if-own-ne0.false _ c.count_start.ensures
