-- `address_rooms::judge` meets its contract: each answer crosses as it is told. Assumes nothing.
use mathlib.Core.Path.{sym, ap, ◌∙◌}
use Rattle.layout.specs.Layout.{told_judged}
use Rattle.refusal.proofs.Crossings.{crosses_gives, crosses_refuses}
use Rattle.address_rooms.proofs.judge.Goals as goal

pub returns-in-Refused : goal.returns-in-Refused
returns-in-Refused c =
    crosses_refuses _ _ _ _ c.from.ensures
    (sym c.judge.ensures ∙ ap told_judged c.in-Refused.is)

pub returns-in-Accepted : goal.returns-in-Accepted
returns-in-Accepted c = crosses_gives _ _ _ (sym c.judge.ensures ∙ ap told_judged c.in-Accepted.is)
