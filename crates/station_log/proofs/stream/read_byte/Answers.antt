-- `log::stream::read_byte` meets its contract. Assumes nothing.
use Rattle.station_log.proofs.Steps.{again, begins, goes_on, cause, is_number}
use Rattle.station_log.proofs.stream.read_byte.Goals as goal

pub with_number-requires : goal.with_number-requires
with_number-requires c =
    let args = c.args in
    is_number
    (cause args.log.now args.marks.now args.own.now args.tallies.now args.shared.now args.byte c.requires.0
    c.if-by-ne0.true)

pub returns-then-by-ne0 : goal.returns-then-by-ne0
returns-then-by-ne0 c =
    let args = c.args in
    again args.log.now args.marks.now args.own.now args.tallies.now args.shared.now _ c.requires.0 _
    c.with_number.ensures c.if-by-ne0.true

pub returns-then-log-eq0 : goal.returns-then-log-eq0
returns-then-log-eq0 c =
    let args = c.args in
    begins args.log.now args.marks.now args.own.now args.tallies.now args.shared.now _ c.requires.0 _ _
    c.if-by-ne0.false c.if-log-eq0.true c.kind_byte.ensures

pub returns : goal.returns
returns c =
    let args = c.args in
    goes_on args.log.now args.marks.now args.own.now args.tallies.now args.shared.now _ c.requires.0 _ _ _ _ _ _
    c.if-by-ne0.false c.if-log-eq0.false c.open_byte.ensures
