-- `session::stream::complete` meets its contract. Assumes nothing.
use mathlib.Core.Path.{refl}
use Rattle.session.proofs.LastWords.{last_asked, last_done, refusal_asked, last_refused}
use Rattle.session.proofs.stream.complete.Goals as goal

pub take_last-requires : goal.take_last-requires
take_last-requires c =
    let args = c.args in
    last_asked args.own.now args.tallies.now args.shared.now c.requires

-- it is taken, and closed
pub returns-then-take_last-gt0 : goal.returns-then-take_last-gt0
returns-then-take_last-gt0 c =
    let args = c.args in
    last_done args.own.now args.tallies.now args.shared.now c.requires _ _ _ _
    c.take_last.ensures c.if-take_last-gt0.true _ refl _ c.close.ensures

pub refusal_of-why-requires : goal.refusal_of-why-requires
refusal_of-why-requires c =
    let args = c.args in
    refusal_asked args.own.now args.tallies.now args.shared.now c.requires _ _ _ _
    c.take_last.ensures c.if-take_last-gt0.false

-- it is refused, and the session stopped
pub returns : goal.returns
returns c =
    let args = c.args in
    last_refused args.own.now args.tallies.now args.shared.now c.requires _ _ _ _
    c.take_last.ensures c.if-take_last-gt0.false _ c.refusal_of-why.ensures _ c.stop.ensures
