-- `command::commands::no_effect_line` meets its contract: each arm by the definition at that variant. Assumes nothing.
use mathlib.Core.Path.{sym, ap}
use Rattle.command.specs.Commands.{no_effect_line}
use Rattle.command.proofs.commands.no_effect_line.Goals as goal

pub returns-in-Wait : goal.returns-in-Wait
unfolding no_effect_line
returns-in-Wait c = sym (ap no_effect_line c.in-Wait.is)

pub returns-in-InvalidateInstructions : goal.returns-in-InvalidateInstructions
unfolding no_effect_line
returns-in-InvalidateInstructions c = sym (ap no_effect_line c.in-InvalidateInstructions.is)

pub returns-in-InvalidateFloats : goal.returns-in-InvalidateFloats
unfolding no_effect_line
returns-in-InvalidateFloats c = sym (ap no_effect_line c.in-InvalidateFloats.is)

pub returns-in-InvalidateIntegers : goal.returns-in-InvalidateIntegers
unfolding no_effect_line
returns-in-InvalidateIntegers c = sym (ap no_effect_line c.in-InvalidateIntegers.is)

pub returns-in-InvalidateBooleans : goal.returns-in-InvalidateBooleans
unfolding no_effect_line
returns-in-InvalidateBooleans c = sym (ap no_effect_line c.in-InvalidateBooleans.is)

pub returns-in-InvalidateConditional : goal.returns-in-InvalidateConditional
unfolding no_effect_line
returns-in-InvalidateConditional c = sym (ap no_effect_line c.in-InvalidateConditional.is)

pub returns-in-InvalidateInputs : goal.returns-in-InvalidateInputs
unfolding no_effect_line
returns-in-InvalidateInputs c = sym (ap no_effect_line c.in-InvalidateInputs.is)

pub returns-in-FlushOutputs : goal.returns-in-FlushOutputs
unfolding no_effect_line
returns-in-FlushOutputs c = sym (ap no_effect_line c.in-FlushOutputs.is)

pub returns-in-FlushConditional : goal.returns-in-FlushConditional
unfolding no_effect_line
returns-in-FlushConditional c = sym (ap no_effect_line c.in-FlushConditional.is)
