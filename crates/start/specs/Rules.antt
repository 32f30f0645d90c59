-- Document 01: what a command asks of the settings that it meets. Assumes nothing.
use Rattle.std.specs.Prelude.{[]}
use Rattle.refusal.specs.Told.{Told, gives}
use Rattle.command.specs.declared.commands.Command.{Command}
use Rattle.command.specs.declared.commands.Command.TheVariants as command
use Rattle.state.specs.State.{Session}
use Rattle.state.specs.Seen.{seen_outputs}
use Rattle.state.specs.Start.{ready_of}

-- a start asks 7, 8 and 9 of the settings, and "looks only at one's own outputs"; no other command does
unfoldable pub start_rule_of : Command → Session → Told
start_rule_of (command.Domain i0 j0 i1 j1) s = gives []
start_rule_of command.Start s =
    ready_of s.party.domain s.party.instructions s.shared.mask
    (seen_outputs s.party.birth.mine s.shared.outputs)
start_rule_of (command.Effectless what) s = gives []
start_rule_of (command.Store what base format) s = gives []
start_rule_of (command.Input number base format height) s = gives []
start_rule_of (command.Output number base format height) s = gives []
start_rule_of (command.Conditional base format height) s = gives []
start_rule_of (command.OutputMask mask) s = gives []
start_rule_of (command.ConditionalMask mask) s = gives []
start_rule_of (command.Test test) s = gives []
