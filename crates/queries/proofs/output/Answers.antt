-- `queries::output` meets its contract: it reads the cell that the view reads. Assumes nothing.
use mathlib.Core.Path.{◌∙◌, ap}
use Rattle.queries.specs.Queries.{setting_of}
use Rattle.queries.proofs.Seen.{output_seen, output_past}
use Rattle.queries.proofs.output.Goals as goal

pub returns-then-number-lt4 : goal.returns-then-number-lt4
returns-then-number-lt4 c = c.setting_at.ensures ∙ ap setting_of (output_seen c.args.shared.now c.args.number c.if-number-lt4.true)

pub returns-else-number-lt4 : goal.returns-else-number-lt4
returns-else-number-lt4 c = c.not_set.ensures ∙ ap setting_of (output_past c.args.shared.now c.args.number c.if-number-lt4.false)
