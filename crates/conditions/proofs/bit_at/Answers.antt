-- `conditions::bit_at` meets its contract: the byte of what stands at the place. Assumes nothing.
use Rattle.std.proofs.Common.{ℕ, ◌≤◌, sym, subst}
use Rattle.conditions.proofs.Written.{bit_is, bit_few}
use Rattle.conditions.proofs.bit_at.Goals as goal

pub returns : goal.returns
returns c =
    let args = c.args in
    let is = bit_is _ _ _ args.memory.now _ _ _ c.word_at.ensures c.in_span.ensures in
    record { value = is; most = subst (λ (n : ℕ). n ≤ 1) (sym is) (bit_few args.low args.top args.outside args.memory.now args.at) }
