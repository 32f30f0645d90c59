-- `fleet::parts::next_part` meets its contract. Assumes nothing.
use Rattle.fleet.proofs.Adding.{owes_nothing, first_part, smaller_part, kept_part}
use Rattle.fleet.proofs.parts.is_smaller.Reads as is_smaller_reads
use Rattle.fleet.proofs.parts.next_part.Goals as goal
use Rattle.fleet.proofs.parts.next_part.Goals.{then-part-eq0-via-then-part-eq0, then-part-eq0-via-else-part-eq0+then-is_smaller}

pub returns-then-owed-eq0 : goal.returns-then-owed-eq0
returns-then-owed-eq0 c = owes_nothing _ _ _ _ c.if-owed-eq0.true

pub returns-then-part-eq0 : goal.returns-then-part-eq0
returns-then-part-eq0 c =
    elim c.then-part-eq0.branch [
      | then-part-eq0-via-then-part-eq0 w ↦ first_part _ _ _ _ c.if-owed-eq0.false w.if-part-eq0.true
      | then-part-eq0-via-else-part-eq0+then-is_smaller w ↦
          smaller_part _ _ _ _ c.if-owed-eq0.false w.if-part-eq0.false w.is_smaller.ensures w.if-is_smaller.true
    ]

pub returns : goal.returns
returns c = kept_part _ _ _ _ c.if-owed-eq0.false c.if-part-eq0.false c.is_smaller.ensures c.if-is_smaller.false
