-- `accept::take` meets its contract. Assumes nothing.
use mathlib.Core.Path.{sym, ap, ◌∙◌}
use Rattle.command.specs.Table.{told_line}
use Rattle.command.proofs.Headers.{accepted_listed}
use Rattle.accept.proofs.WholeCommands.{own_asked, no_header, piece_tried}
use Rattle.accept.proofs.take.Goals as goal

pub take_line-requires : goal.take_line-requires
take_line-requires c =
    ((accepted_listed _ _ (sym c.line_of.ensures ∙ ap told_line c.in-Some.is)).line, own_asked c.requires.0)

pub returns-in-None : goal.returns-in-None
returns-in-None c =
    let args = c.args in
    no_header args.own.now args.tallies.now args.shared.now args.words.now args.from.0 c.requires.1
    (sym c.line_of.ensures ∙ ap told_line c.in-None.is)

pub returns-in-Some : goal.returns-in-Some
returns-in-Some c =
    let args = c.args in
    piece_tried args.own.now args.tallies.now args.shared.now args.words.now args.from.0 c.requires.1 _
    (sym c.line_of.ensures ∙ ap told_line c.in-Some.is) _ _ _ _ _ c.take_line.ensures
