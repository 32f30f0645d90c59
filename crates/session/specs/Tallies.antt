-- Document 01: runs and claimed elements, from the list of accepted commands alone. "A start that passes adds one to the runs, and
-- to the claimed elements the number of pairs in the domain times the number of set outputs", of which the silent ones claim
-- nothing; by edition 2 times their unmasked channels. Assumes nothing.
use Rattle.std.specs.Prelude.{List, [], ◌∷◌, ℕ, ◌+◌, set}
use Rattle.command.specs.declared.commands.Command.{Command}
use Rattle.command.specs.declared.commands.Command.TheVariants as command
use Rattle.owners.specs.Owners.{mask_by}
use Rattle.state.specs.State.{Buffer, Domain, Birth}
use Rattle.state.specs.Seen.{seen_outputs}
use Rattle.state.specs.Start.{claim_of}
use Rattle.state.specs.Effects.{buffer}

-- a start is a run, and no other command is
unfoldable pub run_of : Command → ℕ
run_of (command.Domain i0 j0 i1 j1) = 0
run_of command.Start = 1
run_of (command.Effectless what) = 0
run_of (command.Store what base format) = 0
run_of (command.Input number base format height) = 0
run_of (command.Output number base format height) = 0
run_of (command.Conditional base format height) = 0
run_of (command.OutputMask mask) = 0
run_of (command.ConditionalMask mask) = 0
run_of (command.Test test) = 0

-- what a command claims, by an edition and what is owned, where this domain, this mask and these outputs are set
unfoldable pub claim_by : Birth → Command → Domain → ℕ → List Buffer → ℕ
claim_by b (command.Domain i0 j0 i1 j1) d mask outputs = 0
claim_by b command.Start d mask outputs = claim_of b.edition d mask (seen_outputs b.mine outputs)
claim_by b (command.Effectless what) d mask outputs = 0
claim_by b (command.Store what base format) d mask outputs = 0
claim_by b (command.Input number base format height) d mask outputs = 0
claim_by b (command.Output number base format height) d mask outputs = 0
claim_by b (command.Conditional base format height) d mask outputs = 0
claim_by b (command.OutputMask new) d mask outputs = 0
claim_by b (command.ConditionalMask new) d mask outputs = 0
claim_by b (command.Test test) d mask outputs = 0

-- the domain, the mask and the outputs after a command
unfoldable pub domain_after : Command → Domain → Domain
domain_after (command.Domain i0 j0 i1 j1) d = record { is_set = 1; i0 = i0; j0 = j0; i1 = i1; j1 = j1 }
domain_after command.Start d = d
domain_after (command.Effectless what) d = d
domain_after (command.Store what base format) d = d
domain_after (command.Input number base format height) d = d
domain_after (command.Output number base format height) d = d
domain_after (command.Conditional base format height) d = d
domain_after (command.OutputMask mask) d = d
domain_after (command.ConditionalMask mask) d = d
domain_after (command.Test test) d = d

unfoldable pub mask_after : Birth → Command → ℕ → ℕ
mask_after b (command.Domain i0 j0 i1 j1) mask = mask
mask_after b command.Start mask = mask
mask_after b (command.Effectless what) mask = mask
mask_after b (command.Store what base format) mask = mask
mask_after b (command.Input number base format height) mask = mask
mask_after b (command.Output number base format height) mask = mask
mask_after b (command.Conditional base format height) mask = mask
mask_after b (command.OutputMask new) mask = mask_by b.mine new mask
mask_after b (command.ConditionalMask new) mask = mask
mask_after b (command.Test test) mask = mask

unfoldable pub outputs_after : Command → List Buffer → List Buffer
outputs_after (command.Domain i0 j0 i1 j1) outputs = outputs
outputs_after command.Start outputs = outputs
outputs_after (command.Effectless what) outputs = outputs
outputs_after (command.Store what base format) outputs = outputs
outputs_after (command.Input number base format height) outputs = outputs
outputs_after (command.Output number base format height) outputs = set outputs number (buffer base format height)
outputs_after (command.Conditional base format height) outputs = outputs
outputs_after (command.OutputMask mask) outputs = outputs
outputs_after (command.ConditionalMask mask) outputs = outputs
outputs_after (command.Test test) outputs = outputs

-- the number of starts among commands
unfoldable pub runs_of : List Command → ℕ
runs_of [] = 0
runs_of (c ∷ cs) = run_of c + runs_of cs

-- what commands claim, by an edition and what is owned, each start by the domain, the mask and the outputs that those before it left
unfoldable pub claims_of : Birth → List Command → Domain → ℕ → List Buffer → ℕ
claims_of b [] d mask outputs = 0
claims_of b (c ∷ cs) d mask outputs =
    claim_by b c d mask outputs + claims_of b cs (domain_after c d) (mask_after b c mask) (outputs_after c outputs)
