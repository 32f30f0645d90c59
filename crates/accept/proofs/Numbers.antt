-- The number of an input or an output, and the last pair of a domain, that a command's kinds allow are in range. Assumes nothing.
use Prim.Native.Nat.{ℕ, ◌<◌}
use native.Mathlib.Omega.{arith}
use borrow.Author.Tests.{leb-true, ltb-true}
use Rattle.command.specs.Table.{count_of}
use Rattle.command.specs.Kinds.{allowed, kind_of}
use Rattle.command.specs.Commands.{line_of, fields_of, EachAllowed}
use Rattle.command.specs.declared.commands.Command.{Command}
use Rattle.command.specs.declared.commands.Command.TheVariants as command
use Rattle.state.specs.State.{most_extent}
use Rattle.state.specs.Effects.{Numbered}

-- an input's and an output's number is in range where its kind allows it
pub numbered : (c : Command) → EachAllowed (line_of c) (fields_of c) → Numbered c
unfolding line_of fields_of count_of kind_of allowed
numbered (command.Domain i0 j0 i1 j1) a = tt
numbered command.Start a = tt
numbered (command.Effectless what) a = tt
numbered (command.Store what base format) a = tt
numbered (command.Input number base format height) a = omega (arith, leb-true number 15 (a 0 (omega arith)))
numbered (command.Output number base format height) a = omega (arith, leb-true number 3 (a 0 (omega arith)))
numbered (command.Conditional base format height) a = tt
numbered (command.OutputMask mask) a = tt
numbered (command.ConditionalMask mask) a = tt
numbered (command.Test test) a = tt

-- the last pair of a domain is in range where the kinds allow its words
pub last_pair : (i0 j0 i1 j1 : ℕ) → EachAllowed (line_of (command.Domain i0 j0 i1 j1)) (fields_of (command.Domain i0 j0 i1 j1)) →
    (i1 < most_extent) × (j1 < most_extent)
unfolding line_of fields_of count_of kind_of allowed
last_pair i0 j0 i1 j1 a = (ltb-true i1 4096 (a 2 (omega arith)), ltb-true j1 4096 (a 3 (omega arith)))
