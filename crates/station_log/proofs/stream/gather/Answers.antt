-- `log::stream::gather` meets its contract. Assumes nothing.
use Prim.Native.Nat.{◌+◌, ◌*◌}
use mathlib.Core.Path.{sym, ◌∙◌}
use native.Mathlib.Omega.{arith}
use lib.ListN.{length-set}
use Rattle.station_log.proofs.Records.{gathered_as, gathered_more, gathered_none}
use Rattle.station_log.proofs.stream.gather.Goals as goal

pub overflow_sub-bytes : goal.overflow_sub-bytes
overflow_sub-bytes c = omega (arith, c.requires.0)

pub loop-n-init : goal.loop-n-init
loop-n-init c = (gathered_none _ _, c.requires.1)

pub shape_of-words-then-bytes-i-ne-WORD_KIND : goal.shape_of-words-then-bytes-i-ne-WORD_KIND
shape_of-words-then-bytes-i-ne-WORD_KIND c = c.loop-n.invariant.1 ∙ sym c.requires.1

pub returns-then-bytes-i-ne-WORD_KIND : goal.returns-then-bytes-i-ne-WORD_KIND
returns-then-bytes-i-ne-WORD_KIND c =
    record { gathered = c.loop-n.invariant.0; room = c.loop-n.invariant.1 }

pub loop-n-preserved : goal.loop-n-preserved
loop-n-preserved c =
    let args = c.args in
    let held = c.records_in-most.ensures in
    let loop = c.loop-n in
    let less = c.loop-n-test.true in
    let i = args.at + 5 * loop.n in
    let known = c.type_inv.bytes in (
      gathered_more args.bytes.now loop.words args.at loop.n loop.invariant.0 _ (omega (arith, less, held.1, loop.invariant.1))
          (omega (arith, less, held.0, c.requires.0)) c.if-bytes-i-ne-WORD_KIND.false (omega (arith, known (i + 1))) (omega (arith, known (i + 2)))
          (omega (arith, known (i + 3))) (omega (arith, known (i + 4))) c.word_at.ensures,
      simp length-set loop.invariant.1,
    )

pub shape_of-words : goal.shape_of-words
shape_of-words c = c.loop-n.invariant.1 ∙ sym c.requires.1

pub returns : goal.returns
returns c =
    record {
      gathered = gathered_as _ _ _ _ (omega (arith, c.loop-n-test.false, c.loop-n.auto.n-end)) c.loop-n.invariant.0;
      room = c.loop-n.invariant.1;
    }
