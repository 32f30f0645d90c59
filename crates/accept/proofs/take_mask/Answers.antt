-- `accept::take_mask` meets its contract. Assumes nothing.
use lib.ListN.{set}
use Prim.Native.Nat.{ℕ}
use mathlib.Core.Path.{refl, ap}
use Rattle.accept.proofs.Outputs.{mask_asked}
use Rattle.accept.proofs.WholeCommands.{mask_tried, mask_below, mask_past}
use Rattle.accept.proofs.take_mask.Reads as reads
use Rattle.accept.proofs.take_mask.Lts as lts
use Rattle.owners.proofs.blended.Reads as blended_reads
use Rattle.start.proofs.ready.renew.Reads as renew_reads
use Rattle.state.proofs.own.count_words.Reads as count_words_reads
use Rattle.accept.proofs.take_mask.Goals as goal

pub renew-requires : goal.renew-requires
renew-requires c =
    mask_asked _ _ _ _ _ c.count_words.ensures c.requires.1 _ refl

pub returns-then-mask-lt65536 : goal.returns-then-mask-lt65536
returns-then-mask-lt65536 c =
    mask_tried _ _ _ c.count_words.ensures _ _ _ (mask_below c.if-mask-lt65536.true)
    (ap (λ (n : ℕ). set c.args.shared.now 0 n) c.blended-own_bits.ensures) _ c.renew.ensures

pub returns-else-mask-lt65536 : goal.returns-else-mask-lt65536
returns-else-mask-lt65536 c = λ t rest z. mask_past c.if-mask-lt65536.false
