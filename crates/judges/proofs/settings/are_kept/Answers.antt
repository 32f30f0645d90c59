-- `judges::settings::are_kept` meets its contract: masks, constants, outputs and inputs. Assumes nothing.
use mathlib.Core.Path.{◌∙◌}
use Rattle.command.specs.declared.kinds.Kind.TheVariants.{Format, InputFormat}
use Rattle.state.specs.Lawful.{lawful_buffer}
use Rattle.judges.specs.Judged.{settings_by}
use Rattle.judges.proofs.Joined.{together}
use Rattle.judges.proofs.Buffers.{outputs_listed, inputs_listed}
use Rattle.judges.proofs.settings.are_kept.Goals as goal

pub returns : goal.returns
unfolding settings_by
returns c =
    together c.are_masks-masks.ensures
    (together c.are_common-common.ensures
    (together
    (c.are_buffers-outputs.ensures ∙ outputs_listed (lawful_buffer Format) _)
    (c.are_buffers-inputs.ensures ∙ inputs_listed (lawful_buffer InputFormat) _)))
