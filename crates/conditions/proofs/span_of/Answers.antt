-- `conditions::span_of` meets its contract: near values, and those above every number. Assumes nothing.
use Rattle.std.proofs.Common.{true, false}
use Rattle.conditions.proofs.Spans.{span_whole, always_4, always_5, always_6, always_7, never_above}
use Rattle.conditions.proofs.span_of.Goals as goal

pub returns-in-4 : goal.returns-in-4
returns-in-4 c = span_whole _ _ _ _ _ false c.whole.ensures (always_4 _ _ c.if-v-le-NUMBER_MOST.false c.in-4.is)

pub returns-in-5 : goal.returns-in-5
returns-in-5 c = span_whole _ _ _ _ _ false c.whole-in-5.ensures (always_5 _ _ c.if-v-le-NUMBER_MOST.false c.in-5.is)

pub returns-in-6 : goal.returns-in-6
returns-in-6 c = span_whole _ _ _ _ _ false c.whole-in-6.ensures (always_6 _ _ c.if-v-le-NUMBER_MOST.false c.in-6.is)

pub returns-in-7 : goal.returns-in-7
returns-in-7 c = span_whole _ _ _ _ _ false c.whole-in-7.ensures (λ b hb. always_7 _ _ b c.in-7.is)

pub returns-in_default : goal.returns-in_default
returns-in_default c =
    let others = c.in_default.in_default-own.rest in
    span_whole _ _ _ _ _ true c.whole-in_default.ensures
    (never_above _ _ c.if-v-le-NUMBER_MOST.false others.0.0.0.1 others.0.0.1 others.0.1 others.1)
