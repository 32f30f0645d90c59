-- `conditions::span_near` meets its contract: a span for each condition. Assumes nothing.
use Rattle.conditions.proofs.Spans.{span_1, span_2, span_3, span_4, span_5, span_6, span_whole, by_condition, always_7, never_left}
use Rattle.conditions.proofs.span_near.Goals as goal

pub returns-in-1 : goal.returns-in-1
returns-in-1 c = by_condition _ 1 _ _ _ _ c.in-1.is (span_1 _ c.ranges.v.fits)

pub returns-in-2 : goal.returns-in-2
returns-in-2 c = by_condition _ 2 _ _ _ _ c.in-2.is (span_2 _ c.ranges.v.fits)

pub returns-in-3 : goal.returns-in-3
returns-in-3 c = by_condition _ 3 _ _ _ _ c.in-3.is (span_3 _ c.ranges.v.fits)

pub returns-in-4 : goal.returns-in-4
returns-in-4 c = by_condition _ 4 _ _ _ _ c.in-4.is (span_4 _ c.ranges.v.fits)

pub returns-in-5 : goal.returns-in-5
returns-in-5 c = by_condition _ 5 _ _ _ _ c.in-5.is (span_5 _ c.ranges.v.fits)

pub returns-in-6 : goal.returns-in-6
returns-in-6 c = by_condition _ 6 _ _ _ _ c.in-6.is (span_6 _ c.ranges.v.fits)

-- always
pub returns-in-7 : goal.returns-in-7
returns-in-7 c = span_whole _ _ _ _ _ _ c.whole.ensures (λ b hb. always_7 _ _ b c.in-7.is)

-- never
pub returns-in_default : goal.returns-in_default
returns-in_default c =
    let others = c.in_default.in_default-own.rest in
    span_whole _ _ _ _ _ _ c.whole-in_default.ensures
    (λ b hb. never_left _ _ b others.0.0.0.0.0.0.1 others.0.0.0.0.0.1 others.0.0.0.0.1 others.0.0.0.1 others.0.0.1 others.0.1 others.1)
