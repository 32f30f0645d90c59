-- `judges::settings::are_buffers` meets its contract: one by one. Assumes nothing.
use mathlib.Core.Path.{◌∙◌}
use native.Mathlib.Omega.{arith}
use Rattle.judges.proofs.Joined.{together, one_more, none_yet, all_tested}
use Rattle.judges.proofs.settings.are_buffers.Goals as goal

pub loop-k-init : goal.loop-k-init
loop-k-init c = (omega arith, none_yet _)

pub is_buffer_at-good-requires : goal.is_buffer_at-good-requires
is_buffer_at-good-requires c = omega arith

pub loop-k-preserved : goal.loop-k-preserved
loop-k-preserved c =
    (omega arith, together c.loop-k.invariant.1 c.is_buffer_at-good.ensures ∙ one_more _ _)

pub returns : goal.returns
returns c = all_tested _ c.loop-k.invariant.1 (omega arith)
