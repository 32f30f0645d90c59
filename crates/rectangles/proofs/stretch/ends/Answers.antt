-- `rectangles::stretch::ends` meets its contract: the second move may go over bytes of the first. Assumes nothing.
use native.Mathlib.Omega.{arith}
use Rattle.rectangles.proofs.Stretches.{begun, stretch_end, stretch_done}
use Rattle.rectangles.proofs.stretch.ends.Goals as goal

pub turn-requires-2 : goal.turn-requires-2
turn-requires-2 c =
    let source = c.args.from.now in
    let target = c.args.to.now in
    let first = begun _ _ _ _ source target c.requires.stretch _ _ c.requires.fit
    c.to-1.given c.turn.ensures in
    stretch_end _ _ _ _ source target c.requires.stretch _ _ first _ c.requires.few c.requires.fit

pub returns : goal.returns
returns c =
    let source = c.args.from.now in
    let target = c.args.to.now in
    let first = begun _ _ _ _ source target c.requires.stretch _ _ c.requires.fit
    c.to-1.given c.turn.ensures in
    stretch_done _ _ _ _ source target c.requires.stretch _ _ first _ _ c.requires.fit
    (omega (arith, c.requires.meet)) c.turn-2.ensures
