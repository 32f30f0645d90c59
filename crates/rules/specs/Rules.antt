-- Document 01's rules on a whole command, judged at its last parameter: 5 and 6. Assumes nothing.
use Rattle.std.specs.Prelude.{Bool, true, [], leb}
use Rattle.laws.specs.Choice.{◌and◌, pick}
use Rattle.refusal.specs.Told.{Told, gives, refuses, is_given}
use Rattle.command.specs.Format.{window_of}
use Rattle.command.specs.declared.commands.Command.{Command}
use Rattle.command.specs.declared.commands.Command.TheVariants.{
  Domain,
  Start,
  Effectless,
  Store,
  Input,
  Output,
  Conditional,
  OutputMask,
  ConditionalMask,
  Test,
}

-- no "i0 > i1 or j0 > j1"
unfoldable pub domain_kept : Command → Bool
domain_kept (Domain i0 j0 i1 j1) = leb i0 i1 and leb j0 j1
domain_kept Start = true
domain_kept (Effectless what) = true
domain_kept (Store what base format) = true
domain_kept (Input number base format height) = true
domain_kept (Output number base format height) = true
domain_kept (Conditional base format height) = true
domain_kept (OutputMask mask) = true
domain_kept (ConditionalMask mask) = true
domain_kept (Test test) = true

-- the window that the command describes, if it describes one, is accepted; "Instruction and constant formats have height 1"
unfoldable pub window_kept : Command → Bool
window_kept (Domain i0 j0 i1 j1) = true
window_kept Start = true
window_kept (Effectless what) = true
window_kept (Store what base format) = is_given (window_of base format 1)
window_kept (Input number base format height) = is_given (window_of base format height)
window_kept (Output number base format height) = is_given (window_of base format height)
window_kept (Conditional base format height) = is_given (window_of base format height)
window_kept (OutputMask mask) = true
window_kept (ConditionalMask mask) = true
window_kept (Test test) = true

-- "5: i0 > i1 or j0 > j1", "6: window rule broken", "5 to 9 with the last parameter"; 7 to 9 are matters of a session
unfoldable pub last_rule_of : Command → Told
last_rule_of command = pick (domain_kept command) (pick (window_kept command) (gives []) (refuses 6)) (refuses 5)
