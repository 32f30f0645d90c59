-- `line_writer::write` meets its contract: each arm by the command of its line. Assumes nothing.
use mathlib.Core.Path.{◌∙◌}
use Rattle.command.specs.Commands.{stored_line, line_of, fields_of, words_of, command_of}
use Rattle.command.specs.declared.commands.Stored.TheVariants.{Instructions, Floats, Integers, Booleans}
use Rattle.rules.proofs.Fitting.{store_decided, mask_decided, conditional_mask_decided, test_decided}
use Rattle.line_writer.proofs.Trying.{at_line_lem, headed, plain}
use Rattle.line_writer.proofs.write.Goals as goal

pub returns-in-0 : goal.returns-in-0
unfolding command_of words_of fields_of line_of
returns-in-0 c =
    at_line_lem _ _ _ _ _ _ _ _ _ _ c.in-0.is c.requires.1
    (λ w. c.place.ensures _ c.domain.ensures (headed _ w))

pub returns-in-3 : goal.returns-in-3
unfolding command_of words_of fields_of line_of stored_line
returns-in-3 c =
    at_line_lem _ _ _ _ _ _ _ _ _ _ c.in-3.is c.requires.1
    (λ w. c.place-in-3.ensures _ (c.window.ensures ∙ store_decided _ _ Instructions) (headed _ w))

pub returns-in-4 : goal.returns-in-4
unfolding command_of words_of fields_of line_of
returns-in-4 c =
    at_line_lem _ _ _ _ _ _ _ _ _ _ c.in-4.is c.requires.1
    (λ w. c.place-in-4.ensures _ c.input.ensures (headed _ w))

pub returns-in-5 : goal.returns-in-5
unfolding command_of words_of fields_of line_of
returns-in-5 c =
    at_line_lem _ _ _ _ _ _ _ _ _ _ c.in-5.is c.requires.1
    (λ w. c.place-in-5.ensures _ c.output.ensures (headed _ w))

pub returns-in-6 : goal.returns-in-6
unfolding command_of words_of fields_of line_of
returns-in-6 c =
    at_line_lem _ _ _ _ _ _ _ _ _ _ c.in-6.is c.requires.1
    (λ w. c.place-in-6.ensures _ c.window-in-6.ensures (headed _ w))

pub returns-in-7 : goal.returns-in-7
unfolding command_of words_of fields_of line_of stored_line
returns-in-7 c =
    at_line_lem _ _ _ _ _ _ _ _ _ _ c.in-7.is c.requires.1
    (λ w. c.place-in-7.ensures _ (c.window-in-7.ensures ∙ store_decided _ _ Floats) (headed _ w))

pub returns-in-8 : goal.returns-in-8
unfolding command_of words_of fields_of line_of stored_line
returns-in-8 c =
    at_line_lem _ _ _ _ _ _ _ _ _ _ c.in-8.is c.requires.1
    (λ w. c.place-in-8.ensures _ (c.window-in-8.ensures ∙ store_decided _ _ Integers) (headed _ w))

pub returns-in-9 : goal.returns-in-9
unfolding command_of words_of fields_of line_of stored_line
returns-in-9 c =
    at_line_lem _ _ _ _ _ _ _ _ _ _ c.in-9.is c.requires.1
    (λ w. c.place-in-9.ensures _ (c.window-in-9.ensures ∙ store_decided _ _ Booleans) (headed _ w))

pub returns-in-18 : goal.returns-in-18
unfolding command_of words_of fields_of line_of
returns-in-18 c =
    at_line_lem _ _ _ _ _ _ _ _ _ _ c.in-18.is c.requires.1
    (λ w. c.place-in-18.ensures _ (mask_decided _) (headed _ w))

pub returns-in-19 : goal.returns-in-19
unfolding command_of words_of fields_of line_of
returns-in-19 c =
    at_line_lem _ _ _ _ _ _ _ _ _ _ c.in-19.is c.requires.1
    (λ w. c.place-in-19.ensures _ (conditional_mask_decided _) (headed _ w))

pub returns-in-20 : goal.returns-in-20
unfolding command_of words_of fields_of line_of
returns-in-20 c =
    at_line_lem _ _ _ _ _ _ _ _ _ _ c.in-20.is c.requires.1
    (λ w. c.place-in-20.ensures _ (test_decided _) (headed _ w))

pub returns-in_default : goal.returns-in_default
returns-in_default c =
    let p = plain _ _ _ _ c.args.line c.requires.0 c.in_default.in_default-own.rest in
    c.place-in_default.ensures _ p.fits (headed _ c.requires.1 ∙ p.words)
