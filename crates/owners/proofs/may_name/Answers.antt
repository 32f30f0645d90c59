-- `owners::may_name` meets its contract. Assumes nothing.
use native.Mathlib.Omega.{arith}
use mathlib.Core.Path.{◌∙◌}
use Rattle.owners.proofs.Places.{input_bound, output_bound, input_named, output_named, others_named}
use Rattle.owners.proofs.may_name.Goals as goal

pub is_on-requires : goal.is_on-requires
is_on-requires c = omega (arith, input_bound _ _ _ c.requires.0.0 c.requires.0.1 c.in-16.is c.requires.1)

pub overflow_add-word : goal.overflow_add-word
overflow_add-word c = omega (arith, output_bound _ _ _ c.requires.0.0 c.requires.0.1 c.in-20.is c.requires.1)

pub is_on-requires-in-20 : goal.is_on-requires-in-20
is_on-requires-in-20 c = omega (arith, output_bound _ _ _ c.requires.0.0 c.requires.0.1 c.in-20.is c.requires.1)

pub returns-in-16 : goal.returns-in-16
returns-in-16 c = c.is_on.ensures ∙ input_named _ _ _ c.requires.0.0 c.requires.0.1 _ c.in-16.is

pub returns-in-20 : goal.returns-in-20
returns-in-20 c = c.is_on-in-20.ensures ∙ output_named _ _ _ c.requires.0.0 c.requires.0.1 _ c.in-20.is

pub returns-in_default : goal.returns-in_default
returns-in_default c = others_named _ _ _ c.requires.0.0 c.requires.0.1 _ c.in_default.in_default-own.rest
