-- `accept::take_instructions` meets its contract. Assumes nothing.
use Rattle.accept.proofs.WholeCommands.{instructions_tried, denied, fine, stored_judged}
use Rattle.command.specs.declared.commands.Stored.TheVariants.{Instructions}
use Rattle.rules.proofs.fits.window.Reads as window_reads
use Rattle.start.proofs.ready.settle.Reads as settle_reads
use Rattle.state.proofs.own.count_words.Reads as count_words_reads
use Rattle.state.proofs.own.set_instructions.Reads as set_instructions_reads
use Rattle.accept.proofs.take_instructions.Goals as goal

pub returns-then-window : goal.returns-then-window
returns-then-window c =
    instructions_tried _ _ _ c.count_words.ensures _ _
    (fine _ (stored_judged _ _ c.window.ensures Instructions) c.if-window.true) _ c.set_instructions.ensures _ c.settle.ensures

pub returns-else-window : goal.returns-else-window
returns-else-window c t h rest z = denied (stored_judged _ _ c.window.ensures Instructions) c.if-window.false
