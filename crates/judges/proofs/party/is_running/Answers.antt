-- `judges::party::is_running` meets its contract: an open command that the party can have sent. Assumes nothing.
use mathlib.Core.Path.{refl, sym, ◌∙◌}
use Rattle.laws.proofs.Choice.{and_yes, and_no_left}
use Rattle.state.specs.Cells.{party_of}
use Rattle.judges.specs.Judged.{running_by}
use Rattle.judges.proofs.Joined.{together}
use Rattle.judges.proofs.Valid.{first_allowed}
use Rattle.judges.proofs.party.is_running.Goals as goal

pub is_open-open-requires : goal.is_open-open-requires
unfolding party_of
is_open-open-requires c =
    c.requires

pub is_owned-requires : goal.is_owned-requires
unfolding party_of
is_owned-requires c =
    (c.requires, first_allowed _ (sym c.is_open-open.ensures ∙ c.if-open.true))

pub returns-then-open : goal.returns-then-open
unfolding running_by party_of
returns-then-open c =
    together refl
    (together refl c.is_owned.ensures)
    ∙ sym (and_yes _ (sym c.is_open-open.ensures ∙ c.if-open.true))

pub returns-else-open : goal.returns-else-open
unfolding running_by party_of
returns-else-open c = sym (and_no_left _ (sym c.is_open-open.ensures ∙ c.if-open.false))
