-- `address::locate` meets its contract: status and room as the answer that they tell. Assumes nothing.
use Rattle.std.proofs.Common.{sym, refl, ap, ◌∙◌}
use borrow.Author.Tests.{eqb-false}
use Rattle.refusal.specs.Told.{refuses}
use Rattle.address.proofs.Answers.{pair_told, refusal_told, twelve_left}
use Rattle.address.proofs.locate.Goals as goal

pub returns-in-0 : goal.returns-in-0
returns-in-0 c =
    pair_told c.args.layout _ _ _ _ c.locate-status.ensures c.in-0.is

pub returns-in-3 : goal.returns-in-3
returns-in-3 c =
    ap refuses (sym c.in-3.is) ∙
    refusal_told c.args.layout _ _ _ _ c.locate-status.ensures
    (λ z. eqb-false 0 3 refl (sym z ∙ c.in-3.is))

pub returns-in-6 : goal.returns-in-6
returns-in-6 c =
    ap refuses (sym c.in-6.is) ∙
    refusal_told c.args.layout _ _ _ _ c.locate-status.ensures
    (λ z. eqb-false 0 6 refl (sym z ∙ c.in-6.is))

pub returns-in_default : goal.returns-in_default
returns-in_default c =
    let rest = c.in_default.in_default-own.rest in
    twelve_left c.args.layout _ _ _ _ c.locate-status.ensures rest.0.0.1 rest.0.1 rest.1
