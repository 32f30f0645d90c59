-- `log::stream::open_byte` meets its contract. Assumes nothing.
use Rattle.station_log.proofs.Steps.{byte_added, word_read, midnight_read, number_asked, words_asked}
use Rattle.station_log.proofs.stream.open_byte.Goals as goal

pub returns-then-count-lt4 : goal.returns-then-count-lt4
returns-then-count-lt4 c =
    let args = c.args in
    byte_added args.log.now args.marks.now args.own.now args.tallies.now args.shared.now _ c.requires _
    c.if-count-lt4.true c.add.ensures

pub number-value-requires : goal.number-value-requires
number-value-requires c = number_asked _ _ _ _ _ _ c.requires

pub take_word-requires : goal.take_word-requires
take_word-requires c =
    words_asked _ _ _ _ _ _ c.requires

pub returns-then-log-eq1 : goal.returns-then-log-eq1
returns-then-log-eq1 c =
    let args = c.args in
    word_read args.log.now args.marks.now args.own.now args.tallies.now args.shared.now _ c.requires _ _ _ _ _
    c.if-count-lt4.false c.if-log-eq1.true c.number-value.ensures c.take_word.ensures

pub returns : goal.returns
returns c =
    let args = c.args in
    midnight_read args.log.now args.marks.now args.own.now args.tallies.now args.shared.now _ c.requires _ _ _ _
    c.if-count-lt4.false c.if-log-eq1.false c.number-value.ensures c.midnight.ensures
