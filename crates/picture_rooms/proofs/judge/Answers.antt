-- `picture_rooms::judge` meets its contract: a law for each return. Assumes nothing.
use mathlib.Core.Path.{sym, ap, ◌∙◌}
use native.Mathlib.Omega.{arith}
use Rattle.layout.specs.Layout.{told_judged}
use Rattle.refusal.specs.Crossing.{status_of}
use Rattle.picture_rooms.specs.Rooms.{if_lent}
use Rattle.picture_rooms.proofs.Judging.{refused_so, taken_so, pairs_few, bytes_few, returns_10, returns_length, returns_uncovered, returns_fine}
use Rattle.picture_rooms.proofs.judge.Goals as goal

-- a pair is outside
pub returns-then-not-within : goal.returns-then-not-within
returns-then-not-within c =
    let taken = taken_so _ _ _ (sym c.judge.ensures ∙ ap told_judged c.in-Accepted.is) in
    returns_10 _ _ _ _ _ _ _ _ _ _ taken (sym c.within.ensures ∙ c.if-not-within.true)

pub overflow_mul-bytes : goal.overflow_mul-bytes
overflow_mul-bytes c =
    let taken = taken_so _ _ _ (sym c.judge.ensures ∙ ap told_judged c.in-Accepted.is) in
    omega (arith, pairs_few _ taken.accepted _ _ _ _ _ taken.step_is (sym c.within.ensures ∙ c.if-not-within.false))

pub overflow_mul-bytes-in-Accepted : goal.overflow_mul-bytes-in-Accepted
overflow_mul-bytes-in-Accepted c =
    let taken = taken_so _ _ _ (sym c.judge.ensures ∙ ap told_judged c.in-Accepted.is) in
    omega (arith, bytes_few _ taken.accepted _ _ _ _ _ taken.step_is (sym c.within.ensures ∙ c.if-not-within.false))

-- the room is of another length
pub returns-then-room-bytes : goal.returns-then-room-bytes
returns-then-room-bytes c =
    let taken = taken_so _ _ _ (sym c.judge.ensures ∙ ap told_judged c.in-Accepted.is) in
    returns_length _ _ _ _ _ _ _ _ _ _ taken (sym c.within.ensures ∙ c.if-not-within.false) (λ e. c.if-room-bytes.true e)

-- memory doesn't cover the span
pub returns-then-not-covers : goal.returns-then-not-covers
returns-then-not-covers c =
    let taken = taken_so _ _ _ (sym c.judge.ensures ∙ ap told_judged c.in-Accepted.is) in
    returns_uncovered _ _ _ _ _ _ _ _ _ _ taken (sym c.within.ensures ∙ c.if-not-within.false)
    (sym c.covers.ensures ∙ c.if-not-covers.true)

-- the layout is refused
pub returns-in-Refused : goal.returns-in-Refused
unfolding if_lent
returns-in-Refused c =
    c.from.ensures ∙
    sym (ap status_of (refused_so _ _ _ (sym c.judge.ensures ∙ ap told_judged c.in-Refused.is)))

pub returns-else-not-covers : goal.returns-else-not-covers
returns-else-not-covers c =
    let taken = taken_so _ _ _ (sym c.judge.ensures ∙ ap told_judged c.in-Accepted.is) in
    returns_fine _ _ _ _ _ _ _ _ _ _ taken (sym c.within.ensures ∙ c.if-not-within.false) c.if-room-bytes.false
    (sym c.covers.ensures ∙ c.if-not-covers.false)
