-- `accept::take_constants` meets its contract. Assumes nothing.
use mathlib.Core.Path.{sym, ◌∙◌}
use Rattle.accept.proofs.WholeCommands.{constants_tried, constants_unowned, unowned, denied, fine, stored_judged}
use Rattle.accept.proofs.take_constants.Reads as reads
use Rattle.accept.proofs.take_constants.Lts as lts
use Rattle.owners.proofs.is_on.Reads as is_on_reads
use Rattle.rules.proofs.fits.window.Reads as window_reads
use Rattle.state.proofs.own.count_words.Reads as count_words_reads
use Rattle.state.proofs.settings.put.Reads as put_reads
use Rattle.accept.proofs.take_constants.Goals as goal

pub returns-then-is_on : goal.returns-then-is_on
returns-then-is_on c =
    constants_tried _ _ _ c.count_words.ensures _ _ _ _ _
    (λ what. fine _ (stored_judged _ _ c.window.ensures what) c.if-window.true) (sym c.is_on.ensures ∙ c.if-is_on.true)
    c.put.ensures

pub returns-else-is_on : goal.returns-else-is_on
returns-else-is_on c = λ what a t rest z. unowned (constants_unowned c.args.own.now what _ _ _ a c.is_on.ensures c.if-is_on.false)

pub returns-else-window : goal.returns-else-window
returns-else-window c = λ what a t rest z. denied (stored_judged _ _ c.window.ensures what) c.if-window.false
