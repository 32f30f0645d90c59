-- `owners::fault_at` meets its contract. Assumes nothing.
use mathlib.Core.Path.{◌∙◌}
use Rattle.owners.proofs.Places.{input_fault, output_fault, other_fault}
use Rattle.owners.proofs.fault_at.Goals as goal

pub returns-in-16 : goal.returns-in-16
returns-in-16 c = λ mine e. c.number_fault.ensures ∙ input_fault _ _ _ c.requires.0 c.requires.1 c.in-16.is

pub returns-in-20 : goal.returns-in-20
returns-in-20 c = λ mine e. c.number_fault-in-20.ensures ∙ output_fault _ _ _ c.requires.0 c.requires.1 c.in-20.is

pub returns-in_default : goal.returns-in_default
returns-in_default c = λ mine e. other_fault _ _ _ c.requires.0 c.requires.1 c.in_default.in_default-own.rest mine e
