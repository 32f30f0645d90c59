-- `judges::party::is_domain` meets its contract: ends in order and in range, and 0 where it isn't set. Assumes nothing.
use mathlib.Core.Path.{refl, ap, ◌∙◌}
use mathlib.Core.Bool.{Bool, true}
use Rattle.state.specs.Lawful.{lawful, lawful_domain}
use Rattle.judges.specs.Judged.{domain_by}
use Rattle.judges.proofs.Joined.{both_is, together}
use Rattle.judges.proofs.party.is_domain.Goals as goal

pub returns : goal.returns
unfolding domain_by lawful_domain
returns c =
    together
    (together refl
    (together refl (both_is _ _)))
    (c.is_lawful.ensures ∙
    ap (λ (z : Bool). lawful c.args.flag z true)
    (together refl
    (together refl (both_is _ _))))
