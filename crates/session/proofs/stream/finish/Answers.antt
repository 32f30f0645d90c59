-- `session::stream::finish` meets its contract: the command is the one that the cells held. Assumes nothing.
use mathlib.Core.Path.{subst, sym}
use mathlib.Core.List.{[]}
use Rattle.command.specs.declared.commands.Command.{Command}
use Rattle.state.specs.Cells.{party_of, session_of}
use Rattle.session.specs.Step.{completed, completing}
use Rattle.session.specs.Asked.{Left}
use Rattle.session.proofs.stream.finish.Goals as goal

pub build-requires : goal.build-requires
unfolding party_of
build-requires c = c.requires.line

pub returns : goal.returns
unfolding party_of
returns c =
    let args = c.args in
    let now = c.complete.new in
    subst
    (λ (x : Command). Left (completing (party_of args.own.now []).opened (session_of args.own.now args.tallies.now args.shared.now)) (completed x) now.own now.tallies now.shared)
    (sym c.build.ensures) c.in_ok-complete.ensures
