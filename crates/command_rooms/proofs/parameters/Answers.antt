-- `command_rooms::parameters` meets its contract: each answer crosses as it is told. Assumes nothing.
use mathlib.Core.Path.{sym, ap, ◌∙◌}
use mathlib.Core.List.{[], ◌∷◌}
use Prim.Native.Nat.{ℕ}
use Rattle.refusal.specs.Told.{gives}
use Rattle.command.specs.Table.{told_line}
use Rattle.refusal.proofs.Crossings.{crosses_gives, crosses_refuses}
use Rattle.command.proofs.Headers.{accepted_listed}
use Rattle.command.proofs.Known.{on_line_lem, off_line}
use Rattle.command_rooms.proofs.parameters.Goals as goal

pub count-requires : goal.count-requires
count-requires c =
    (accepted_listed _ _ (sym c.line_of.ensures ∙ ap told_line c.in-Some.is)).line

pub returns-in-None : goal.returns-in-None
returns-in-None c =
    crosses_refuses _ _ _ _ c.from.ensures
    (off_line _ _ _ (sym c.line_of.ensures ∙ ap told_line c.in-None.is))

pub returns-in-Some : goal.returns-in-Some
returns-in-Some c =
    crosses_gives _ _ _
    (on_line_lem _ _ _ _ (sym c.line_of.ensures ∙ ap told_line c.in-Some.is) ∙
    ap (λ (n : ℕ). gives (n ∷ [])) (sym c.count.ensures))
