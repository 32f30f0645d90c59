-- `setting_rooms::at_line` meets its contract: the format of each line that sets one. Assumes nothing.
use mathlib.Core.Path.{sym, ap, ◌∙◌}
use borrow.Author.Tests.{lt-ltb, le-ltb}
use Rattle.laws.proofs.Choice.{pick_yes, pick_no}
use Rattle.refusal.specs.Told.{gives}
use Rattle.queries.specs.declared.Setting.{Setting}
use Rattle.setting_rooms.specs.Rooms.{format_numbers}
use Rattle.setting_rooms.proofs.Formats.{booleans_line, conditional_line, floats_line, inputs_line, instructions_line, integers_line}
use Rattle.setting_rooms.proofs.Formats.{other_line, outputs_line}
use Rattle.setting_rooms.proofs.at_line.Goals as goal

pub returns-in-3 : goal.returns-in-3
returns-in-3 c = ap (λ (s : Setting). gives (format_numbers s)) c.instructions.ensures ∙ instructions_line _ _ _ _ c.in-3.is

pub returns-then-number-lt-INPUTS : goal.returns-then-number-lt-INPUTS
returns-then-number-lt-INPUTS c =
    ap (λ (s : Setting). gives (format_numbers s)) c.input.ensures ∙ sym (pick_yes _ _ (lt-ltb _ _ c.if-number-lt-INPUTS.true)) ∙ inputs_line _ _ _ _
    c.in-4.is

pub returns-else-number-lt-INPUTS : goal.returns-else-number-lt-INPUTS
returns-else-number-lt-INPUTS c = sym (pick_no _ _ (le-ltb _ _ c.if-number-lt-INPUTS.false)) ∙ inputs_line _ _ _ _ c.in-4.is

pub returns-then-number-lt-OUTPUTS : goal.returns-then-number-lt-OUTPUTS
returns-then-number-lt-OUTPUTS c =
    ap (λ (s : Setting). gives (format_numbers s)) c.output.ensures ∙ sym (pick_yes _ _ (lt-ltb _ _ c.if-number-lt-OUTPUTS.true)) ∙ outputs_line _ _ _
    _ c.in-5.is

pub returns-else-number-lt-OUTPUTS : goal.returns-else-number-lt-OUTPUTS
returns-else-number-lt-OUTPUTS c = sym (pick_no _ _ (le-ltb _ _ c.if-number-lt-OUTPUTS.false)) ∙ outputs_line _ _ _ _ c.in-5.is

pub returns-in-6 : goal.returns-in-6
returns-in-6 c = ap (λ (s : Setting). gives (format_numbers s)) c.conditional.ensures ∙ conditional_line _ _ _ _ c.in-6.is

pub returns-in-7 : goal.returns-in-7
returns-in-7 c = ap (λ (s : Setting). gives (format_numbers s)) c.floats.ensures ∙ floats_line _ _ _ _ c.in-7.is

pub returns-in-8 : goal.returns-in-8
returns-in-8 c = ap (λ (s : Setting). gives (format_numbers s)) c.integers.ensures ∙ integers_line _ _ _ _ c.in-8.is

pub returns-in-9 : goal.returns-in-9
returns-in-9 c = ap (λ (s : Setting). gives (format_numbers s)) c.booleans.ensures ∙ booleans_line _ _ _ _ c.in-9.is

pub returns-in_default : goal.returns-in_default
returns-in_default c =
    other_line _ _ _ _ c.in_default.in_default-own.rest.0.0.0.0.0.0.1 c.in_default.in_default-own.rest.0.0.0.0.0.1 c.in_default.in_default-own.rest.0.0.0.0.1
    c.in_default.in_default-own.rest.0.0.0.1 c.in_default.in_default-own.rest.0.0.1 c.in_default.in_default-own.rest.0.1 c.in_default.in_default-own.rest.1
