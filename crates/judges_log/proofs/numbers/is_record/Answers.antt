-- `judges_log::numbers::is_record` meets its contract: none is open, or its kind is one and its bytes are. Assumes nothing.
use mathlib.Core.Path.{refl, sym, ◌∙◌}
use borrow.Author.Tests.{eq-eqb, ne_eqb}
use Rattle.laws.proofs.Choice.{pick_yes, pick_no}
use Rattle.judges_log.specs.Judged.{bytes_by, record_by}
use Rattle.judges.proofs.Joined.{joined}
use Rattle.judges_log.proofs.numbers.is_record.Reads as reads
use Rattle.judges_log.proofs.numbers.is_record.Lts as lts
use Rattle.judges.proofs.tests.both.Reads as both_reads
use Rattle.judges_log.proofs.numbers.is_byte.Reads as is_byte_reads
use Rattle.replay.proofs.bytes.is_kind.Reads as is_kind_reads
use Rattle.judges_log.proofs.numbers.is_record.Goals as goal

pub returns-then-count-eq0 : goal.returns-then-count-eq0
unfolding record_by bytes_by
returns-then-count-eq0 c =
    joined c.both-then-count-eq0.ensures refl
    (joined c.both-rest.ensures c.is_byte.ensures
    (joined c.both.ensures c.is_byte-2.ensures c.is_byte-3.ensures))
    ∙ sym (pick_yes _ _ (eq-eqb _ _ c.if-count-eq0.true))

pub returns : goal.returns
unfolding record_by bytes_by
returns c =
    joined c.both-3.ensures refl
    (joined c.both-2.ensures c.is_kind.ensures
    (joined c.both-rest.ensures c.is_byte.ensures
    (joined c.both.ensures c.is_byte-2.ensures c.is_byte-3.ensures)))
    ∙ sym (pick_no _ _ (ne_eqb _ _ c.if-count-eq0.false))
