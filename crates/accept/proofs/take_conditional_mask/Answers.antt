-- `accept::take_conditional_mask` meets its contract. Assumes nothing.
use mathlib.Core.Path.{refl}
use Rattle.accept.proofs.WholeCommands.{conditional_mask_tried, conditional_mask_below, conditional_mask_past, conditional_mask_owner, unowned}
use Rattle.accept.proofs.take_conditional_mask.Reads as reads
use Rattle.accept.proofs.take_conditional_mask.Lts as lts
use Rattle.owners.proofs.is_on.Reads as is_on_reads
use Rattle.state.proofs.own.count_words.Reads as count_words_reads
use Rattle.accept.proofs.take_conditional_mask.Goals as goal

pub returns-then-is_on : goal.returns-then-is_on
returns-then-is_on c =
    conditional_mask_tried _ _ _ c.count_words.ensures _ _ _ (conditional_mask_below c.if-mask-lt2.true)
    (conditional_mask_owner c.args.own.now _ c.is_on.ensures c.if-is_on.true) refl

pub returns-else-is_on : goal.returns-else-is_on
returns-else-is_on c = λ t rest z. unowned (conditional_mask_owner c.args.own.now _ c.is_on.ensures c.if-is_on.false)

pub returns-else-mask-lt2 : goal.returns-else-mask-lt2
returns-else-mask-lt2 c = λ t rest z. conditional_mask_past c.if-mask-lt2.false
