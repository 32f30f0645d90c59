-- `session::stream::read` meets its contract. Assumes nothing.
use mathlib.Core.Path.{◌∙◌, sym, ap}
use Rattle.command.specs.Table.{told_line}
use Rattle.command.proofs.Headers.{accepted_listed}
use Rattle.session.proofs.Taking.{word_stopped, word_full, open_asked, word_parameter, line_asked, word_unknown, word_header, word_foreign}
use Rattle.session.proofs.stream.read.Goals as goal

pub returns-then-own-eq1 : goal.returns-then-own-eq1
returns-then-own-eq1 c =
    let args = c.args in
    word_stopped args.own.now args.tallies.now args.shared.now args.word c.requires c.if-own-eq1.true

pub returns-then-own-ge-WORD_LIMIT : goal.returns-then-own-ge-WORD_LIMIT
returns-then-own-ge-WORD_LIMIT c =
    let args = c.args in
    word_full args.own.now args.tallies.now args.shared.now args.word c.requires c.if-own-eq1.false c.if-own-ge-WORD_LIMIT.true _
    c.stop.ensures

pub parameter-requires : goal.parameter-requires
parameter-requires c =
    let args = c.args in
    open_asked args.own.now args.tallies.now args.shared.now args.word c.requires c.if-own-eq1.false c.if-own-ge-WORD_LIMIT.false
    c.if-own-ne-NO_LINE.true

pub returns-then-own-ne-NO_LINE : goal.returns-then-own-ne-NO_LINE
returns-then-own-ne-NO_LINE c =
    let args = c.args in
    word_parameter args.own.now args.tallies.now args.shared.now args.word c.requires c.if-own-eq1.false c.if-own-ge-WORD_LIMIT.false
    c.if-own-ne-NO_LINE.true _ _ c.parameter.ensures

pub may_open-requires : goal.may_open-requires
may_open-requires c =
    (accepted_listed _ _ (sym c.line_of.ensures ∙ ap told_line c.in-Some.is)).line

pub open_line-requires : goal.open_line-requires
open_line-requires c =
    let args = c.args in
    line_asked args.own.now args.tallies.now args.shared.now args.word c.requires c.if-own-eq1.false c.if-own-ge-WORD_LIMIT.false
    c.if-own-ne-NO_LINE.false

-- a header that the party may send
pub returns-then-may_open : goal.returns-then-may_open
returns-then-may_open c =
    let args = c.args in
    word_header args.own.now args.tallies.now args.shared.now args.word c.requires c.if-own-eq1.false c.if-own-ge-WORD_LIMIT.false
    c.if-own-ne-NO_LINE.false _ (sym c.line_of.ensures ∙ ap told_line c.in-Some.is)
    (sym c.may_open.ensures ∙ c.if-may_open.true) _ c.open_line.ensures

pub returns-in-None : goal.returns-in-None
returns-in-None c =
    let args = c.args in
    word_unknown args.own.now args.tallies.now args.shared.now args.word c.requires c.if-own-eq1.false c.if-own-ge-WORD_LIMIT.false
    c.if-own-ne-NO_LINE.false (sym c.line_of.ensures ∙ ap told_line c.in-None.is) _ c.stop-in-None.ensures

-- one that sets what is party 0's
pub returns-else-may_open : goal.returns-else-may_open
returns-else-may_open c =
    let args = c.args in
    word_foreign args.own.now args.tallies.now args.shared.now args.word c.requires c.if-own-eq1.false c.if-own-ge-WORD_LIMIT.false
    c.if-own-ne-NO_LINE.false _ (sym c.line_of.ensures ∙ ap told_line c.in-Some.is)
    (sym c.may_open.ensures ∙ c.if-may_open.false) _ c.stop-in-Some.ensures
