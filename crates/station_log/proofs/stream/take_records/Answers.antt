-- `log::stream::take_records` meets its contract. Assumes nothing.
use lib.Seq.{length-take-le}
use mathlib.Core.Path.{sym, ◌∙◌}
use native.Mathlib.Omega.{arith}
use Rattle.station_log.specs.Asked.{unread}
use Rattle.station_log.proofs.Feeding.{records_left, none_left}
use Rattle.station_log.proofs.stream.take_records.Goals as goal

pub returns-then-bytes-at-lt-RECORD : goal.returns-then-bytes-at-lt-RECORD
returns-then-bytes-at-lt-RECORD c = record { read = unread; room = c.requires.1.1 }

pub returns-then-log-ne0 : goal.returns-then-log-ne0
returns-then-log-ne0 c = record { read = unread; room = c.requires.1.1 }

pub slice_bounds-take_words-end : goal.slice_bounds-take_words-end
slice_bounds-take_words-end c =
    omega (arith, c.gather-n.ensures.gathered.room)

pub slice_bounds-take_words-end-then-n-gt0 : goal.slice_bounds-take_words-end-then-n-gt0
slice_bounds-take_words-end-then-n-gt0 c =
    sym (length-take-le _ _ c.gather-n.ensures.gathered.room)

pub shape_of-words-then-n-gt0 : goal.shape_of-words-then-n-gt0
shape_of-words-then-n-gt0 c =
    c.gather-n.ensures.room ∙ sym c.requires.1.1

pub returns-then-n-gt0 : goal.returns-then-n-gt0
returns-then-n-gt0 c =
    let gathered = c.gather-n.ensures in record { read = records_left _ _ _ _ _ _ _ _ _ _ _ (record { running = c.if-log-ne0.false; unopened = c.if-log-ne0-2.false }) gathered.gathered c.take_words.ensures; room = gathered.room }

pub shape_of-words-else-n-gt0 : goal.shape_of-words-else-n-gt0
shape_of-words-else-n-gt0 c =
    c.gather-n.ensures.room ∙ sym c.requires.1.1

pub returns-else-n-gt0 : goal.returns-else-n-gt0
returns-else-n-gt0 c = record { read = none_left _ _ _ _ _ _ c.if-n-gt0.false; room = c.gather-n.ensures.room }
