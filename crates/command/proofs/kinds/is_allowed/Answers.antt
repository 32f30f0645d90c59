-- `command::kinds::is_allowed` meets its contract: each arm by the definition at that kind. Assumes nothing.
use mathlib.Core.Path.{sym, ap, ◌∙◌}
use Rattle.command.specs.Kinds.{allowed}
use Rattle.command.specs.declared.kinds.Kind.{Kind}
use Rattle.command.proofs.kinds.is_allowed.Goals as goal

pub returns-in-Reserved : goal.returns-in-Reserved
unfolding allowed
returns-in-Reserved c = sym (ap (λ (k : Kind). allowed k c.args.word) c.in-Reserved.is)

pub returns-in-InputNumber : goal.returns-in-InputNumber
unfolding allowed
returns-in-InputNumber c = sym (ap (λ (k : Kind). allowed k c.args.word) c.in-InputNumber.is)

pub returns-in-OutputNumber : goal.returns-in-OutputNumber
unfolding allowed
returns-in-OutputNumber c = sym (ap (λ (k : Kind). allowed k c.args.word) c.in-OutputNumber.is)

pub returns-in-Base : goal.returns-in-Base
unfolding allowed
returns-in-Base c = sym (ap (λ (k : Kind). allowed k c.args.word) c.in-Base.is)

pub returns-in-Format : goal.returns-in-Format
unfolding allowed
returns-in-Format c = c.format_allowed.ensures ∙ sym (ap (λ (k : Kind). allowed k c.args.word) c.in-Format.is)

pub returns-in-InputFormat : goal.returns-in-InputFormat
unfolding allowed
returns-in-InputFormat c = c.input_format_allowed.ensures ∙ sym (ap (λ (k : Kind). allowed k c.args.word) c.in-InputFormat.is)

pub returns-in-Height : goal.returns-in-Height
unfolding allowed
returns-in-Height c = sym (ap (λ (k : Kind). allowed k c.args.word) c.in-Height.is)

pub returns-in-Coordinate : goal.returns-in-Coordinate
unfolding allowed
returns-in-Coordinate c = sym (ap (λ (k : Kind). allowed k c.args.word) c.in-Coordinate.is)

pub returns-in-MaskBits : goal.returns-in-MaskBits
unfolding allowed
returns-in-MaskBits c = sym (ap (λ (k : Kind). allowed k c.args.word) c.in-MaskBits.is)

pub returns-in-ConditionalMaskBit : goal.returns-in-ConditionalMaskBit
unfolding allowed
returns-in-ConditionalMaskBit c = sym (ap (λ (k : Kind). allowed k c.args.word) c.in-ConditionalMaskBit.is)

pub returns-in-TestBits : goal.returns-in-TestBits
unfolding allowed
returns-in-TestBits c = sym (ap (λ (k : Kind). allowed k c.args.word) c.in-TestBits.is)
