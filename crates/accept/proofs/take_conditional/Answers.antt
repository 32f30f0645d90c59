-- `accept::take_conditional` meets its contract. Assumes nothing.
use Rattle.accept.proofs.WholeCommands.{conditional_tried, conditional_owner, unowned, denied, fine}
use Rattle.accept.proofs.take_conditional.Reads as reads
use Rattle.accept.proofs.take_conditional.Lts as lts
use Rattle.owners.proofs.is_on.Reads as is_on_reads
use Rattle.rules.proofs.fits.window.Reads as window_reads
use Rattle.state.proofs.own.count_words.Reads as count_words_reads
use Rattle.state.proofs.settings.put.Reads as put_reads
use Rattle.accept.proofs.take_conditional.Goals as goal

pub returns-then-is_on : goal.returns-then-is_on
returns-then-is_on c =
    conditional_tried _ _ _ c.count_words.ensures _ _ _ _ _ (fine _ c.window.ensures c.if-window.true)
    (conditional_owner c.args.own.now _ _ _ c.is_on.ensures c.if-is_on.true) c.put.ensures

pub returns-else-is_on : goal.returns-else-is_on
returns-else-is_on c = λ t rest z. unowned (conditional_owner c.args.own.now _ _ _ c.is_on.ensures c.if-is_on.false)

pub returns-else-window : goal.returns-else-window
returns-else-window c = λ t rest z. denied c.window.ensures c.if-window.false
