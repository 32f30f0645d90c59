-- `address::translate` meets its contract: its number, told as an answer. Assumes nothing.
use Rattle.std.proofs.Common.{sym, ap, ◌∙◌}
use Rattle.address.specs.Address.{told_number}
use Rattle.address.proofs.Answers.{told_address, told_refused, refused_outside}
use Rattle.address.proofs.translate.Goals as goal

pub returns-then-number-lt-REFUSED : goal.returns-then-number-lt-REFUSED
returns-then-number-lt-REFUSED c = sym (told_address _ c.if-number-lt-REFUSED.true) ∙ c.translate_numbers-number.ensures

pub returns-in-9223372036854775811 : goal.returns-in-9223372036854775811
returns-in-9223372036854775811 c = sym (told_refused 3) ∙ ap told_number (sym c.in-9223372036854775811.is) ∙ c.translate_numbers-number.ensures

pub returns-in-9223372036854775814 : goal.returns-in-9223372036854775814
returns-in-9223372036854775814 c = sym (told_refused 6) ∙ ap told_number (sym c.in-9223372036854775814.is) ∙ c.translate_numbers-number.ensures

pub returns-in_default : goal.returns-in_default
returns-in_default c = refused_outside _ _ _ _ c.translate_numbers-number.ensures c.if-number-lt-REFUSED.false c.in_default.in_default-own.rest.0.1 c.in_default.in_default-own.rest.1
