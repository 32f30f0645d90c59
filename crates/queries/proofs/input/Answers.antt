-- `queries::input` meets its contract: it reads the cell that the view reads. Assumes nothing.
use mathlib.Core.Path.{◌∙◌, ap}
use Rattle.queries.specs.Queries.{setting_of}
use Rattle.queries.proofs.Seen.{input_seen, input_past}
use Rattle.queries.proofs.input.Goals as goal

pub returns-then-number-lt16 : goal.returns-then-number-lt16
returns-then-number-lt16 c = c.setting_at.ensures ∙ ap setting_of (input_seen c.args.shared.now c.args.number c.if-number-lt16.true)

pub returns-else-number-lt16 : goal.returns-else-number-lt16
returns-else-number-lt16 c = c.not_set.ensures ∙ ap setting_of (input_past c.args.shared.now c.args.number c.if-number-lt16.false)
