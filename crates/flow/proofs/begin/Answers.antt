-- `flow::begin` meets its contract: each return is the answer as far as the tests decide it. Assumes nothing.
use Rattle.flow.proofs.Beginning.{begin_small, begin_large, begin_no_mode, begin_ready}
use Rattle.flow.proofs.begin.Goals as goal

pub returns-then-size-lt1 : goal.returns-then-size-lt1
returns-then-size-lt1 c =
    begin_small c.args.size c.args.mode c.args.cells.now c.if-size-lt1.true

pub returns-then-size-gt-PROCESSORS : goal.returns-then-size-gt-PROCESSORS
returns-then-size-gt-PROCESSORS c =
    begin_large c.args.size c.args.mode c.args.cells.now c.if-size-gt-PROCESSORS.true

pub returns-then-mode-gt-PARTIAL : goal.returns-then-mode-gt-PARTIAL
returns-then-mode-gt-PARTIAL c =
    begin_no_mode c.args.size c.args.mode c.args.cells.now c.if-mode-gt-PARTIAL.true

pub returns : goal.returns
returns c =
    begin_ready c.args.size c.args.mode c.args.cells.now c.if-size-lt1.false c.if-size-gt-PROCESSORS.false c.if-mode-gt-PARTIAL.false
