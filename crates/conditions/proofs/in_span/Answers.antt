-- `conditions::in_span` meets its contract: one comparison. Assumes nothing.
use Rattle.conditions.proofs.Spans.{one_test}
use Rattle.std.proofs.Common.{arith}
use Rattle.conditions.proofs.in_span.Goals as goal

pub returns : goal.returns
returns c =
    let args = c.args in
    let fits = c.ranges in
    one_test args.low args.top args.outside args.b _ fits.b.fits fits.low.fits (omega (arith, c.wrapping_sub_u16.type_inv)) c.wrapping_sub_u16.ensures.value
