-- `accept::take_line` meets its contract: each arm by the command of its line. Assumes nothing.
use mathlib.Core.Path.{refl}
use native.Mathlib.Omega.{arith}
use Rattle.command.specs.Commands.{stored_line, command_of, words_of, fields_of}
use Rattle.command.specs.declared.commands.Stored.TheVariants.{Floats, Integers, Booleans}
use Rattle.accept.specs.Whole.{every_word}
use Rattle.accept.proofs.WholeCommands.{room_for, room_renew, room_constants, room_start, at_line_lem, effectless_at_lem, effectless_at, effectless_line}
use Rattle.accept.proofs.take_line.Goals as goal

pub take_domain-requires : goal.take_domain-requires
take_domain-requires c = room_for c.requires.1 _ (omega arith)

pub take_start-requires : goal.take_start-requires
take_start-requires c = room_start c.requires.1 _ (omega arith)

pub take_instructions-requires : goal.take_instructions-requires
take_instructions-requires c = room_for c.requires.1 _ (omega arith)

pub take_input-requires : goal.take_input-requires
take_input-requires c = room_for c.requires.1 _ (omega arith)

pub take_output-requires : goal.take_output-requires
take_output-requires c = room_renew c.requires.1 _ (omega arith)

pub take_conditional-requires : goal.take_conditional-requires
take_conditional-requires c = room_for c.requires.1 _ (omega arith)

pub take_constants-requires : goal.take_constants-requires
take_constants-requires c = room_constants c.requires.1 _ _ (omega arith) (omega arith)

pub take_constants-requires-in-8 : goal.take_constants-requires-in-8
take_constants-requires-in-8 c = room_constants c.requires.1 _ _ (omega arith) (omega arith)

pub take_constants-requires-in-9 : goal.take_constants-requires-in-9
take_constants-requires-in-9 c = room_constants c.requires.1 _ _ (omega arith) (omega arith)

pub take_mask-requires : goal.take_mask-requires
take_mask-requires c = room_renew c.requires.1 _ (omega arith)

pub take_conditional_mask-requires : goal.take_conditional_mask-requires
take_conditional_mask-requires c = room_for c.requires.1 _ (omega arith)

pub take_test-requires : goal.take_test-requires
take_test-requires c = room_for c.requires.1 _ (omega arith)

pub take_effectless-requires : goal.take_effectless-requires
take_effectless-requires c = room_for c.requires.1 _ (omega arith)

pub returns-in-0 : goal.returns-in-0
unfolding command_of words_of fields_of
returns-in-0 c rest =
    at_line_lem every_word _ _ _ _ _ _ _ _ _ _ _ _ _ _ c.in-0.is (c.take_domain.ensures _ _ _ c.requires.1.1)

pub returns-in-1 : goal.returns-in-1
unfolding command_of words_of fields_of
returns-in-1 c rest = at_line_lem every_word _ _ _ _ _ _ _ _ _ _ _ _ _ _ c.in-1.is (c.take_start.ensures _)

pub returns-in-3 : goal.returns-in-3
unfolding command_of words_of fields_of
returns-in-3 c rest =
    at_line_lem every_word _ _ _ _ _ _ _ _ _ _ _ _ _ _ c.in-3.is (c.take_instructions.ensures _ _ _ c.requires.1.1)

pub returns-in-4 : goal.returns-in-4
unfolding command_of words_of fields_of
returns-in-4 c rest =
    at_line_lem every_word _ _ _ _ _ _ _ _ _ _ _ _ _ _ c.in-4.is (c.take_input.ensures _ _ c.requires.1.1)

pub returns-in-5 : goal.returns-in-5
unfolding command_of words_of fields_of
returns-in-5 c rest =
    at_line_lem every_word _ _ _ _ _ _ _ _ _ _ _ _ _ _ c.in-5.is (c.take_output.ensures _ _ c.requires.1.1)

pub returns-in-6 : goal.returns-in-6
unfolding command_of words_of fields_of
returns-in-6 c rest =
    at_line_lem every_word _ _ _ _ _ _ _ _ _ _ _ _ _ _ c.in-6.is (c.take_conditional.ensures _ _ c.requires.1.1)

pub returns-in-7 : goal.returns-in-7
unfolding command_of words_of fields_of stored_line
returns-in-7 c rest =
    at_line_lem every_word _ _ _ _ _ _ _ _ _ _ _ _ _ _ c.in-7.is (c.take_constants.ensures Floats refl _ _ c.requires.1.1)

pub returns-in-8 : goal.returns-in-8
unfolding command_of words_of fields_of stored_line
returns-in-8 c rest =
    at_line_lem every_word _ _ _ _ _ _ _ _ _ _ _ _ _ _ c.in-8.is
    (c.take_constants-in-8.ensures Integers refl _ _ c.requires.1.1)

pub returns-in-9 : goal.returns-in-9
unfolding command_of words_of fields_of stored_line
returns-in-9 c rest =
    at_line_lem every_word _ _ _ _ _ _ _ _ _ _ _ _ _ _ c.in-9.is
    (c.take_constants-in-9.ensures Booleans refl _ _ c.requires.1.1)

pub returns-in-18 : goal.returns-in-18
unfolding command_of words_of fields_of
returns-in-18 c rest =
    at_line_lem every_word _ _ _ _ _ _ _ _ _ _ _ _ _ _ c.in-18.is (c.take_mask.ensures _ _ c.requires.1.1)

pub returns-in-19 : goal.returns-in-19
unfolding command_of words_of fields_of
returns-in-19 c rest =
    at_line_lem every_word _ _ _ _ _ _ _ _ _ _ _ _ _ _ c.in-19.is (c.take_conditional_mask.ensures _ _ c.requires.1.1)

pub returns-in-20 : goal.returns-in-20
unfolding command_of words_of fields_of
returns-in-20 c rest =
    at_line_lem every_word _ _ _ _ _ _ _ _ _ _ _ _ _ _ c.in-20.is (c.take_test.ensures _ _ c.requires.1.1)

pub returns-in_default : goal.returns-in_default
unfolding words_of fields_of
returns-in_default c rest =
    let what = effectless_at c.args.line in
    effectless_at_lem every_word _ _ _ _ _ _ _ _ _ _ _ _ _ what (effectless_line _ c.requires.0 c.in_default.in_default-own.rest)
    (c.take_effectless.ensures what _ _ _ c.requires.1.1)
