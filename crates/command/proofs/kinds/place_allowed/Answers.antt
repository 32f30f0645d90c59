-- `command::kinds::place_allowed` meets its contract: each arm by the kind at that place of the table. Assumes nothing.
use mathlib.Core.Path.{refl, sym, ap, ◌∙◌}
use Prim.Native.Nat.{◌+◌, ◌*◌}
use native.Mathlib.Omega.{arith}
use Rattle.command.specs.Kinds.{allowed, kind_of}
use Rattle.command.specs.declared.kinds.Kind.{Kind}
use Rattle.command.proofs.Words.{kind_at, allowed_at_place, reserved_elsewhere}
use Rattle.command.proofs.kinds.place_allowed.Goals as goal

pub returns-in-0 : goal.returns-in-0
unfolding kind_at kind_of allowed
returns-in-0 c = allowed_at_place _ _ _ _ c.requires.1 c.in-0.is

pub returns-in-1 : goal.returns-in-1
unfolding kind_at kind_of allowed
returns-in-1 c = allowed_at_place _ _ _ _ c.requires.1 c.in-1.is

pub returns-in-2 : goal.returns-in-2
unfolding kind_at kind_of allowed
returns-in-2 c = allowed_at_place _ _ _ _ c.requires.1 c.in-2.is

pub returns-in-3 : goal.returns-in-3
unfolding kind_at kind_of allowed
returns-in-3 c = allowed_at_place _ _ _ _ c.requires.1 c.in-3.is

pub returns-in-12 : goal.returns-in-12
unfolding kind_at kind_of allowed
returns-in-12 c = allowed_at_place _ _ _ _ c.requires.1 c.in-12.is

pub returns-in-13 : goal.returns-in-13
unfolding kind_at kind_of allowed
returns-in-13 c = c.format_allowed.ensures ∙ allowed_at_place _ _ _ _ c.requires.1 c.in-13.is

pub returns-in-16 : goal.returns-in-16
unfolding kind_at kind_of allowed
returns-in-16 c = allowed_at_place _ _ _ _ c.requires.1 c.in-16.is

pub returns-in-17 : goal.returns-in-17
unfolding kind_at kind_of allowed
returns-in-17 c = allowed_at_place _ _ _ _ c.requires.1 c.in-17.is

pub returns-in-18 : goal.returns-in-18
unfolding kind_at kind_of allowed
returns-in-18 c = c.input_format_allowed.ensures ∙ allowed_at_place _ _ _ _ c.requires.1 c.in-18.is

pub returns-in-19 : goal.returns-in-19
unfolding kind_at kind_of allowed
returns-in-19 c = allowed_at_place _ _ _ _ c.requires.1 c.in-19.is

pub returns-in-20 : goal.returns-in-20
unfolding kind_at kind_of allowed
returns-in-20 c = allowed_at_place _ _ _ _ c.requires.1 c.in-20.is

pub returns-in-21 : goal.returns-in-21
unfolding kind_at kind_of allowed
returns-in-21 c = allowed_at_place _ _ _ _ c.requires.1 c.in-21.is

pub returns-in-22 : goal.returns-in-22
unfolding kind_at kind_of allowed
returns-in-22 c = c.format_allowed-in-22.ensures ∙ allowed_at_place _ _ _ _ c.requires.1 c.in-22.is

pub returns-in-23 : goal.returns-in-23
unfolding kind_at kind_of allowed
returns-in-23 c = allowed_at_place _ _ _ _ c.requires.1 c.in-23.is

pub returns-in-24 : goal.returns-in-24
unfolding kind_at kind_of allowed
returns-in-24 c = allowed_at_place _ _ _ _ c.requires.1 c.in-24.is

pub returns-in-25 : goal.returns-in-25
unfolding kind_at kind_of allowed
returns-in-25 c = c.format_allowed-in-25.ensures ∙ allowed_at_place _ _ _ _ c.requires.1 c.in-25.is

pub returns-in-26 : goal.returns-in-26
unfolding kind_at kind_of allowed
returns-in-26 c = allowed_at_place _ _ _ _ c.requires.1 c.in-26.is

pub returns-in-28 : goal.returns-in-28
unfolding kind_at kind_of allowed
returns-in-28 c = allowed_at_place _ _ _ _ c.requires.1 c.in-28.is

pub returns-in-29 : goal.returns-in-29
unfolding kind_at kind_of allowed
returns-in-29 c = c.format_allowed-in-29.ensures ∙ allowed_at_place _ _ _ _ c.requires.1 c.in-29.is

pub returns-in-32 : goal.returns-in-32
unfolding kind_at kind_of allowed
returns-in-32 c = allowed_at_place _ _ _ _ c.requires.1 c.in-32.is

pub returns-in-33 : goal.returns-in-33
unfolding kind_at kind_of allowed
returns-in-33 c = c.format_allowed-in-33.ensures ∙ allowed_at_place _ _ _ _ c.requires.1 c.in-33.is

pub returns-in-36 : goal.returns-in-36
unfolding kind_at kind_of allowed
returns-in-36 c = allowed_at_place _ _ _ _ c.requires.1 c.in-36.is

pub returns-in-37 : goal.returns-in-37
unfolding kind_at kind_of allowed
returns-in-37 c = c.format_allowed-in-37.ensures ∙ allowed_at_place _ _ _ _ c.requires.1 c.in-37.is

pub returns-in-72 : goal.returns-in-72
unfolding kind_at kind_of allowed
returns-in-72 c = allowed_at_place _ _ _ _ c.requires.1 c.in-72.is

pub returns-in-76 : goal.returns-in-76
unfolding kind_at kind_of allowed
returns-in-76 c = allowed_at_place _ _ _ _ c.requires.1 c.in-76.is

pub returns-in-80 : goal.returns-in-80
unfolding kind_at kind_of allowed
returns-in-80 c = allowed_at_place _ _ _ _ c.requires.1 c.in-80.is

pub returns-in_default : goal.returns-in_default
unfolding allowed
returns-in_default c =
    let l = c.args.line in
    let k = c.args.k in
    ap (λ (x : Kind). allowed x c.args.word) (sym (reserved_elsewhere (l * 4 + k) (omega arith) c.in_default.in_default-own.rest)) ∙
    allowed_at_place l k (l * 4 + k) _ c.requires.1 refl
