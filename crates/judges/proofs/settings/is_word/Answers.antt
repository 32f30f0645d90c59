-- `judges::settings::is_word` meets its contract: 0, or a word that its kind allows. Assumes nothing.
use mathlib.Core.Path.{ap, ◌∙◌}
use lib.Dec.{eqb}
use Rattle.state.specs.Lawful.{lawful, lawful_word}
use Rattle.judges.proofs.settings.is_word.Goals as goal

pub returns : goal.returns
unfolding lawful_word
returns c =
    c.is_lawful.ensures ∙
    ap (lawful c.args.flag (eqb c.args.word 0)) c.is_allowed.ensures
