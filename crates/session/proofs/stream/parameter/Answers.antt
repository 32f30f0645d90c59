-- `session::stream::parameter` meets its contract. Assumes nothing.
use Rattle.std.specs.Prelude.{Ok}
use Rattle.session.proofs.Taking.{kind_asked, parameter_asked, not_taken, kind_passed}
use Rattle.session.proofs.stream.parameter.Goals as goal

pub is_taken-requires : goal.is_taken-requires
is_taken-requires c =
    let args = c.args in
    kind_asked args.own.now args.tallies.now args.shared.now args.word c.requires

pub placed-requires : goal.placed-requires
placed-requires c =
    let args = c.args in
    parameter_asked args.own.now args.tallies.now args.shared.now args.word c.requires _
    c.is_taken.ensures c.if-is_taken.true

pub returns-then-is_taken : goal.returns-then-is_taken
returns-then-is_taken c =
    let args = c.args in
    kind_passed args.own.now args.tallies.now args.shared.now args.word c.requires _
    c.is_taken.ensures c.if-is_taken.true (Ok c.placed.result) _ c.placed.ensures

pub fault_at-fault-requires : goal.fault_at-fault-requires
fault_at-fault-requires c =
    let args = c.args in
    kind_asked args.own.now args.tallies.now args.shared.now args.word c.requires

pub returns : goal.returns
returns c =
    let args = c.args in
    not_taken args.own.now args.tallies.now args.shared.now args.word c.requires _
    c.is_taken.ensures c.if-is_taken.false _ c.fault_at-fault.ensures _ c.stop.ensures
