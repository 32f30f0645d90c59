-- `session::stream::refusal_of` meets its contract: each arm by its line. Assumes nothing.
use mathlib.Core.Path.{◌∙◌}
use Rattle.session.proofs.LastWords.{refusal_domain, refusal_stored, refusal_window, start_number}
use Rattle.session.proofs.stream.refusal_of.Goals as goal

pub with_number-requires : goal.with_number-requires
with_number-requires c =
    start_number c.args.own.now _ c.requires c.in-1.is

-- a domain
pub returns-in-0 : goal.returns-in-0
returns-in-0 c = refusal_domain _ _ c.in-0.is

-- a start
pub returns-in-1 : goal.returns-in-1
returns-in-1 c =
    c.with_number.ensures ∙ refusal_stored c.args.own.now _ c.in-1.is

-- a command that describes a window
pub returns-in_default : goal.returns-in_default
returns-in_default c = refusal_window _ _ c.in_default.in_default-own.rest.0.1 c.in_default.in_default-own.rest.1
