-- Document 01: what a word that is taken and a command that is accepted do to a session. Assumes nothing.
use Rattle.std.specs.Prelude.{List, ℕ, ◌+◌, ◌<◌, eqb, set}
use Rattle.laws.specs.Choice.{pick}
use Rattle.owners.specs.Owners.{mask_by}
use Rattle.command.specs.declared.commands.Stored.TheVariants as stored
use Rattle.command.specs.declared.commands.Command.{Command}
use Rattle.command.specs.declared.commands.Command.TheVariants as command
use Rattle.state.specs.State.{Buffer, Open, Domain, Tally, Window, Gauge, Readiness, Party, Shared, Session, none}
use Rattle.state.specs.Seen.{seen_outputs}
use Rattle.state.specs.Start.{claim_of}
use Rattle.state.specs.Readiness.{readiness_for}

-- "17: the session has taken 1,000,000,000 words"
abbrev pub limit : ℕ
limit = 1000000000

-- the party with another open command
abbrev pub opening : Open → Party → Party
opening o p =
    record {
      stopped = p.stopped;
      taken = p.taken;
      opened = o;
      domain = p.domain;
      instructions = p.instructions;
      birth = p.birth;
      readiness = p.readiness;
      tally = p.tally;
    }

-- one more word taken
abbrev pub took : Party → Party
took p =
    record {
      stopped = p.stopped;
      taken = p.taken + 1;
      opened = p.opened;
      domain = p.domain;
      instructions = p.instructions;
      birth = p.birth;
      readiness = p.readiness;
      tally = p.tally;
    }

-- so many words more taken
abbrev pub took_words : ℕ → Party → Party
took_words n p =
    record {
      stopped = p.stopped;
      taken = p.taken + n;
      opened = p.opened;
      domain = p.domain;
      instructions = p.instructions;
      birth = p.birth;
      readiness = p.readiness;
      tally = p.tally;
    }

-- "drop the open command and stop the session for good"
abbrev pub stop : Party → Party
stop p =
    record {
      stopped = 1;
      taken = p.taken;
      opened = none;
      domain = p.domain;
      instructions = p.instructions;
      birth = p.birth;
      readiness = p.readiness;
      tally = p.tally;
    }

-- the open command with its next parameter
abbrev pub with_parameter : Open → ℕ → Open
with_parameter o w =
    record {
      line = o.line;
      count = o.count + 1;
      p0 = pick (eqb o.count 0) w o.p0;
      p1 = pick (eqb o.count 1) w o.p1;
      p2 = pick (eqb o.count 2) w o.p2;
      p3 = pick (eqb o.count 3) w o.p3;
    }

-- a buffer that is set
abbrev pub buffer : ℕ → ℕ → ℕ → Buffer
buffer base format height = record { is_set = 1; base = base; format = format; height = height }

-- a domain that is set
abbrev pub domain_from : ℕ → ℕ → ℕ → ℕ → Domain
domain_from i0 j0 i1 j1 = record { is_set = 1; i0 = i0; j0 = j0; i1 = i1; j1 = j1 }

-- settings with one of them replaced
abbrev pub with_domain : Domain → Party → Party
with_domain d p =
    record {
      stopped = p.stopped;
      taken = p.taken;
      opened = p.opened;
      domain = d;
      instructions = p.instructions;
      birth = p.birth;
      readiness = p.readiness;
      tally = p.tally;
    }

abbrev pub with_instructions : Buffer → Party → Party
with_instructions b p =
    record {
      stopped = p.stopped;
      taken = p.taken;
      opened = p.opened;
      domain = p.domain;
      instructions = b;
      birth = p.birth;
      readiness = p.readiness;
      tally = p.tally;
    }

abbrev pub with_tally : Tally → Party → Party
with_tally t p =
    record {
      stopped = p.stopped;
      taken = p.taken;
      opened = p.opened;
      domain = p.domain;
      instructions = p.instructions;
      birth = p.birth;
      readiness = p.readiness;
      tally = t;
    }

-- the party with what is kept of readiness replaced
abbrev pub with_readiness : Readiness → Party → Party
with_readiness r p =
    record {
      stopped = p.stopped;
      taken = p.taken;
      opened = p.opened;
      domain = p.domain;
      instructions = p.instructions;
      birth = p.birth;
      readiness = r;
      tally = p.tally;
    }

-- "The stored number must always equal the one worked out from the settings": worked out anew, with what it is reckoned from
abbrev pub renewed : Shared → Party → Party
renewed h p = with_readiness (readiness_for p h) p

-- the number, and the gauge, of what is kept replaced
abbrev pub with_number : ℕ → Readiness → Readiness
with_number n r =
    record {
      number = n;
      gauge = r.gauge;
      window0 = r.window0;
      window1 = r.window1;
      window2 = r.window2;
      window3 = r.window3;
    }

abbrev pub with_gauge : Gauge → Readiness → Readiness
with_gauge g r =
    record {
      number = r.number;
      gauge = g;
      window0 = r.window0;
      window1 = r.window1;
      window2 = r.window2;
      window3 = r.window3;
    }

-- a gauge of these numbers
abbrev pub gauge_from : ℕ → ℕ → ℕ → ℕ → ℕ → Gauge
gauge_from some columns rows apart credit =
    record { some = some; columns = columns; rows = rows; apart = apart; credit = credit }

-- a window of this row step and span
abbrev pub window_from : ℕ → ℕ → Window
window_from step span = record { step = step; span = span }

-- one window of what is kept replaced
abbrev pub with_window : ℕ → Window → Readiness → Readiness
with_window n w r =
    record {
      number = r.number;
      gauge = r.gauge;
      window0 = pick (eqb n 0) w r.window0;
      window1 = pick (eqb n 1) w r.window1;
      window2 = pick (eqb n 2) w r.window2;
      window3 = pick (eqb n 3) w r.window3;
    }

abbrev pub with_shared :
    ℕ → ℕ → ℕ → ℕ → ℕ → Buffer → Buffer → Buffer → Buffer → List Buffer → List Buffer → Shared
with_shared m cs cm ts t f i b c o n =
    record {
      mask = m;
      conditional_mask_set = cs;
      conditional_mask = cm;
      test_set = ts;
      test = t;
      floats = f;
      integers = i;
      booleans = b;
      conditional = c;
      outputs = o;
      inputs = n;
    }

-- what a start claims: of one's own outputs
abbrev pub claim_for : Party → Shared → ℕ
claim_for p h = claim_of p.birth.edition p.domain h.mask (seen_outputs p.birth.mine h.outputs)

-- what a command without its session's open part does to the party's own settings; "A start that passes adds one to the runs,
-- and to the claimed elements the number of pairs in the domain times the number of set outputs." The silent ones claim nothing,
-- by the mask that stands at the start's last word.
unfoldable pub own_after : Command → Shared → Party → Party
own_after (command.Domain i0 j0 i1 j1) h p = with_domain (domain_from i0 j0 i1 j1) p
own_after command.Start h p =
    with_tally (record { runs = p.tally.runs + 1; claims = p.tally.claims + claim_for p h }) p
own_after (command.Effectless what) h p = p
own_after (command.Store stored.Instructions base format) h p = with_instructions (buffer base format 1) p
own_after (command.Store stored.Floats base format) h p = p
own_after (command.Store stored.Integers base format) h p = p
own_after (command.Store stored.Booleans base format) h p = p
own_after (command.Input number base format height) h p = p
own_after (command.Output number base format height) h p = p
own_after (command.Conditional base format height) h p = p
own_after (command.OutputMask mask) h p = p
own_after (command.ConditionalMask mask) h p = p
own_after (command.Test test) h p = p

-- and to the shared ones, where the party owns so much: "A set_out_mask changes only the bits of one's own outputs."
unfoldable pub shared_after : ℕ → Command → Shared → Shared
shared_after mine (command.Domain i0 j0 i1 j1) h = h
shared_after mine command.Start h = h
shared_after mine (command.Effectless what) h = h
shared_after mine (command.Store stored.Instructions base format) h = h
shared_after mine (command.Store stored.Floats base format) h =
    with_shared h.mask h.conditional_mask_set h.conditional_mask h.test_set h.test (buffer base format 1) h.integers
    h.booleans h.conditional h.outputs h.inputs
shared_after mine (command.Store stored.Integers base format) h =
    with_shared h.mask h.conditional_mask_set h.conditional_mask h.test_set h.test h.floats (buffer base format 1)
    h.booleans h.conditional h.outputs h.inputs
shared_after mine (command.Store stored.Booleans base format) h =
    with_shared h.mask h.conditional_mask_set h.conditional_mask h.test_set h.test h.floats h.integers
    (buffer base format 1) h.conditional h.outputs h.inputs
shared_after mine (command.Input number base format height) h =
    with_shared h.mask h.conditional_mask_set h.conditional_mask h.test_set h.test h.floats h.integers
    h.booleans h.conditional h.outputs (set h.inputs number (buffer base format height))
shared_after mine (command.Output number base format height) h =
    with_shared h.mask h.conditional_mask_set h.conditional_mask h.test_set h.test h.floats h.integers
    h.booleans h.conditional (set h.outputs number (buffer base format height)) h.inputs
shared_after mine (command.Conditional base format height) h =
    with_shared h.mask h.conditional_mask_set h.conditional_mask h.test_set h.test h.floats h.integers
    h.booleans (buffer base format height) h.outputs h.inputs
shared_after mine (command.OutputMask mask) h =
    with_shared (mask_by mine mask h.mask) h.conditional_mask_set h.conditional_mask h.test_set h.test h.floats h.integers h.booleans
    h.conditional h.outputs h.inputs
shared_after mine (command.ConditionalMask mask) h =
    with_shared h.mask 1 mask h.test_set h.test h.floats h.integers h.booleans h.conditional h.outputs
    h.inputs
shared_after mine (command.Test test) h =
    with_shared h.mask h.conditional_mask_set h.conditional_mask 1 test h.floats h.integers h.booleans
    h.conditional h.outputs h.inputs

-- an input's or output's number is below 16 or 4
abbrev pub Numbered : Command → Type 0
Numbered (command.Domain i0 j0 i1 j1) = Unit {0}
Numbered command.Start = Unit {0}
Numbered (command.Effectless what) = Unit {0}
Numbered (command.Store what base format) = Unit {0}
Numbered (command.Input number base format height) = number < 16
Numbered (command.Output number base format height) = number < 4
Numbered (command.Conditional base format height) = Unit {0}
Numbered (command.OutputMask mask) = Unit {0}
Numbered (command.ConditionalMask mask) = Unit {0}
Numbered (command.Test test) = Unit {0}

-- the session after a command that was accepted, its last word taken: what it sets, and what the settings then give a start
unfoldable pub after : Command → Session → Session
after c s =
    record {
      party = renewed (shared_after s.party.birth.mine c s.shared) (own_after c s.shared (opening none (took s.party)));
      shared = shared_after s.party.birth.mine c s.shared;
    }
