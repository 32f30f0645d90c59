-- `line_writer::place` meets its contract at each return. Assumes nothing.
use native.Mathlib.Omega.{arith}
use Rattle.line_writer.proofs.Trying.{unfit, short, stored, counted}
use Rattle.line_writer.proofs.place.Goals as goal

-- the command isn't accepted
pub returns-then-not-fits : goal.returns-then-not-fits
returns-then-not-fits c command same words = unfit command _ _ same c.if-not-fits.true

-- the room is too short
pub returns-then-room-count : goal.returns-then-room-count
returns-then-room-count c command same words =
    let a = c.args in
    short command _ _ same c.if-not-fits.false _ words
    (let n = counted a.count a.header a.places.0 a.places.1 a.places.2 a.places.3 c.requires.1 in omega arith)

-- the words are stored
pub returns : goal.returns
returns c command same words =
    let a = c.args in
    stored command _ _ same c.if-not-fits.false _ words _ _ (counted a.count a.header a.places.0 a.places.1 a.places.2 a.places.3 c.requires.1)
    (omega arith) c.put.ensures
