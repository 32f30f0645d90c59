-- `score::day::claimed_on` meets its contract. Assumes nothing.
use mathlib.Core.Path.{sym, ◌∙◌}
use native.Mathlib.Omega.{arith}
use Rattle.score.proofs.Dates.{not_after, not_before, claimed_part, claimed_none}
use Rattle.score.proofs.day.claimed_on.Goals as goal

pub overflow_sub-last : goal.overflow_sub-last
overflow_sub-last c = not_after _ _ _ (sym c.has_midnight.ensures ∙ c.if-has_midnight.true)

pub overflow_sub-midnights : goal.overflow_sub-midnights
overflow_sub-midnights c = omega (arith, not_before _ _ _ (sym c.has_midnight.ensures ∙ c.if-has_midnight.true))

pub returns-then-has_midnight : goal.returns-then-has_midnight
returns-then-has_midnight c =
    let has-midnight-told = sym c.has_midnight.ensures ∙ c.if-has_midnight.true in
    claimed_part _ _ _ _ has-midnight-told _ (omega (arith, not_after _ _ _ has-midnight-told, not_before _ _ _ has-midnight-told)) _
    c.part.ensures

pub returns-else-has_midnight : goal.returns-else-has_midnight
returns-else-has_midnight c = claimed_none _ _ _ _ (sym c.has_midnight.ensures ∙ c.if-has_midnight.false)
