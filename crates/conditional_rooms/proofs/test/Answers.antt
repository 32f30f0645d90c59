-- `conditional_rooms::test` meets its contract: each answer crosses as it is told. Assumes nothing.
use mathlib.Core.Path.{sym, ap, ◌∙◌}
use mathlib.Core.List.{[], ◌∷◌}
use Prim.Native.Nat.{ℕ}
use Rattle.refusal.specs.Told.{gives}
use Rattle.refusal.proofs.Crossings.{crosses_gives, crosses_refuses}
use Rattle.conditional.specs.Conditional.{told_tested}
use Rattle.conditional_rooms.proofs.test.Goals as goal

-- refused
pub returns-in-Refused : goal.returns-in-Refused
returns-in-Refused c =
    crosses_refuses _ _ _ _ c.from.ensures (sym c.test.ensures ∙ ap told_tested c.in-Refused.is)

-- tested
pub returns-in-Result : goal.returns-in-Result
returns-in-Result c =
    crosses_gives _ _ _
    (sym c.test.ensures ∙ ap told_tested c.in-Result.is ∙ ap (λ (n : ℕ). gives (n ∷ [])) (sym c.flag_of.ensures))
