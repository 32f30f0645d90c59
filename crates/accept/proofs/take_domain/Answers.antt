-- `accept::take_domain` meets its contract. Assumes nothing.
use Rattle.accept.proofs.WholeCommands.{domain_tried, denied, fine}
use Rattle.rules.proofs.fits.domain.Reads as domain_reads
use Rattle.start.proofs.ready.settle.Reads as settle_reads
use Rattle.state.proofs.own.count_words.Reads as count_words_reads
use Rattle.state.proofs.own.set_domain.Reads as set_domain_reads
use Rattle.accept.proofs.take_domain.Goals as goal

pub returns-then-domain : goal.returns-then-domain
returns-then-domain c =
    domain_tried _ _ _ c.count_words.ensures _ _ _ _ (fine _ c.domain.ensures c.if-domain.true) _ c.set_domain.ensures _ c.settle.ensures

pub returns-else-domain : goal.returns-else-domain
returns-else-domain c t h rest z = denied c.domain.ensures c.if-domain.false
