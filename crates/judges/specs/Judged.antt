-- What a session that comes back is judged by, as one test: every number by compares, the open command's parameters by their kinds, and
-- what is kept of readiness by working it out anew. That the test is the validity that the entries ask is proved. Assumes nothing.
use Rattle.std.specs.Prelude.{◌≡◌, Bool, true, List, [], ℕ, ◌*◌, eqb, leb, ltb, length, get_or}
use Rattle.laws.specs.Choice.{◌and◌, pick}
use Rattle.laws.specs.Below.{every}
use Rattle.command.specs.Table.{count_of}
use Rattle.command.specs.Kinds.{allowed, kind_of}
use Rattle.command.specs.declared.kinds.Kind.TheVariants.{Format, InputFormat, ConditionalMaskBit, TestBits}
use Rattle.owners.specs.Owners.{everything, may_open, may_name}
use Rattle.state.specs.State.{Open, Domain, Tally, Birth, Readiness, Party, Shared, Session, most_extent, unset}
use Rattle.state.specs.Seen.{seen_outputs}
use Rattle.state.specs.Start.{is_edition, most_claim, output}
use Rattle.state.specs.Effects.{limit, with_readiness, with_window}
use Rattle.state.specs.Readiness.{readiness_for, window_for}
use Rattle.state.specs.Lawful.{lawful_buffer, lawful_row, lawful_domain, lawful_word}
use Rattle.state.specs.Valid.{DomainValid}
use Rattle.state.specs.Cells.{party_of, readiness_cells, own_length, shared_length}

-- an answer that is yes just where a fact holds
pub record Judges (yes : Bool) (fact : Type 0) : Type 0 where
  pub sound : yes ≡ true → fact
  pub complete : fact → yes ≡ true

-- an open command of these numbers
abbrev pub open_from : ℕ → ℕ → ℕ → ℕ → ℕ → ℕ → Open
open_from line count p0 p1 p2 p3 = record { line = line; count = count; p0 = p0; p1 = p1; p2 = p2; p3 = p3 }

-- parameter `k` was taken and its kind allows it, or it hasn't come and is 0
unfoldable pub passed_at : ℕ → ℕ → ℕ → ℕ → Bool
passed_at line count k w = pick (ltb k count) (allowed (kind_of line k) w) (eqb w 0)

-- an open command of a line: no line has more than four parameters, so the fourth hasn't come
unfoldable pub open_by : Open → Bool
open_by o =
    ltb o.count (count_of o.line) and passed_at o.line o.count 0 o.p0 and passed_at o.line o.count 1 o.p1 and
    passed_at o.line o.count 2 o.p2 and eqb o.p3 0

-- no command is open: its parameters are 0
unfoldable pub closed_by : Open → Bool
closed_by o = eqb o.count 0 and eqb o.p0 0 and eqb o.p1 0 and eqb o.p2 0 and eqb o.p3 0

-- an open command sets nothing but what the party owns, as far as its words tell: its line, how many parameters came, and the first
unfoldable pub owned_by : ℕ → ℕ → ℕ → ℕ → Bool
owned_by mine line count p0 = pick (ltb 0 count) (may_open mine line and may_name mine (kind_of line 0) p0) (may_open mine line)

-- an open command of a party that isn't stopped: its words were taken and are the party's to send
unfoldable pub running_by : ℕ → ℕ → ℕ → Open → Bool
running_by stopped taken mine o =
    open_by o and eqb stopped 0 and ltb o.count taken and owned_by mine o.line o.count o.p0

-- no command is open, or one of a line that there is
unfoldable pub command_by : ℕ → ℕ → ℕ → Open → Bool
command_by stopped taken mine o =
    pick (eqb o.line 21) (closed_by o) (ltb o.line 21 and running_by stopped taken mine o)

unfoldable pub domain_by : Domain → Bool
domain_by d =
    (leb d.i0 d.i1 and ltb d.i1 most_extent and leb d.j0 d.j1 and ltb d.j1 most_extent) and lawful_domain d

unfoldable pub tally_by : Tally → ℕ → Bool
tally_by t taken = leb t.runs taken and leb t.claims (taken * most_claim)

unfoldable pub birth_by : Birth → Bool
birth_by b = leb b.mine everything and is_edition b.edition

-- a party's own numbers but those of readiness
unfoldable pub party_by : Party → Bool
party_by p =
    (leb p.stopped 1 and leb p.taken limit) and command_by p.stopped p.taken p.birth.mine p.opened and
    domain_by p.domain and lawful_row p.instructions and birth_by p.birth and tally_by p.tally p.taken

-- the settings: masks and the test, the constants and the conditional output, outputs and inputs
unfoldable pub masks_by : Shared → Bool
masks_by h =
    ltb h.mask 65536 and lawful_word ConditionalMaskBit h.conditional_mask_set h.conditional_mask and
    lawful_word TestBits h.test_set h.test

unfoldable pub common_by : Shared → Bool
common_by h =
    lawful_row h.floats and lawful_row h.integers and lawful_row h.booleans and lawful_buffer Format h.conditional

unfoldable pub settings_by : Shared → Bool
settings_by h =
    masks_by h and common_by h and every 4 (λ n. lawful_buffer Format (get_or h.outputs n unset)) and
    every 16 (λ n. lawful_buffer InputFormat (get_or h.inputs n unset))

-- two parties keep the same of readiness, number by number
unfoldable pub same_readiness : Readiness → Readiness → Bool
same_readiness a b = every 14 (λ k. eqb (get_or (readiness_cells a) k 0) (get_or (readiness_cells b) k 0))

-- "The stored number must always equal the one worked out from the settings"
unfoldable pub session_by : Session → Bool
session_by s =
    party_by s.party and settings_by s.shared and same_readiness s.party.readiness (readiness_for s.party s.shared)

-- a party that keeps the window of its output `n`, as the settings have it: none where the output is another party's
abbrev pub window_kept : ℕ → Shared → Party → Party
window_kept n h p = with_readiness (with_window n (window_for (output (seen_outputs p.birth.mine h.outputs) n)) p.readiness) p

-- cells in which it can be worked out: of their lengths, with a domain in range
pub record WorkAsked (own shared : List ℕ) : Type 0 where
  pub own_length_lem : length own ≡ own_length
  pub shared_length_lem : length shared ≡ shared_length
  pub domain : DomainValid (party_of own []).domain
