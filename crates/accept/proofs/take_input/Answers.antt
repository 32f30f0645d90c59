-- `accept::take_input` meets its contract. Assumes nothing.
use native.Mathlib.Omega.{arith}
use Rattle.accept.proofs.WholeCommands.{input_most, input_place, input_tried, input_owner, unowned, denied, fine}
use Rattle.accept.proofs.take_input.Reads as reads
use Rattle.accept.proofs.take_input.Lts as lts
use Rattle.owners.proofs.is_on.Reads as is_on_reads
use Rattle.rules.proofs.fits.input.Reads as input_reads
use Rattle.state.proofs.own.count_words.Reads as count_words_reads
use Rattle.state.proofs.settings.put.Reads as put_reads
use Rattle.accept.proofs.take_input.Goals as goal

pub is_on-requires : goal.is_on-requires
is_on-requires c =
    omega (arith, input_most _ _ _ _ (fine _ c.input.ensures c.if-input.true))

pub put-requires : goal.put-requires
put-requires c =
    input_place _ _ _ _ (fine _ c.input.ensures c.if-input.true)

pub returns-then-is_on : goal.returns-then-is_on
returns-then-is_on c =
    input_tried _ _ _ c.count_words.ensures _ _ _ _ _ _ (fine _ c.input.ensures c.if-input.true)
    (input_owner c.args.own.now _ _ _ _ c.is_on.ensures c.if-is_on.true) c.put.ensures

pub returns-else-is_on : goal.returns-else-is_on
returns-else-is_on c = λ t rest z. unowned (input_owner c.args.own.now _ _ _ _ c.is_on.ensures c.if-is_on.false)

pub returns-else-input : goal.returns-else-input
returns-else-input c = λ t rest z. denied c.input.ensures c.if-input.false
