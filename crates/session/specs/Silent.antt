-- What the statements on request 2, "A masked camera is a silent camera", speak of: settings whose set outputs are all silent, the
-- run of no elements that a start then is, and document 01's own start, for which every set output counts. Assumes nothing.
use Rattle.std.specs.Prelude.{◌≡◌, Bool, true, List, [], ◌∷◌, ℕ, ◌+◌, ◌*◌, ◌<◌, ◌≤◌}
use Rattle.laws.specs.Below.{every, count}
use Rattle.laws.specs.Choice.{◌and◌, pick}
use Rattle.refusal.specs.Told.{Told, gives, refuses}
use Rattle.command.specs.Format.{code_of}
use Rattle.command.specs.Commands.{words_of}
use Rattle.command.specs.declared.commands.Command.TheVariants as command
use Rattle.state.specs.State.{Buffer, Domain, Session}
use Rattle.state.specs.Seen.{seen_outputs}
use Rattle.state.specs.Start.{output, is_set, silent, contains_domain, apart, complete, ready_of, pairs_of, claim_of}
use Rattle.session.specs.Feed.{nothing, Fed}

-- every set output is silent
pub record AllSilent (mask : ℕ) (outputs : List Buffer) : Type 0 where
  pub each_silent : (n : ℕ) → n < 4 → is_set outputs n ≡ true → silent mask n (output outputs n).format ≡ true

-- the outputs that a session's party sees
abbrev pub seen_by : Session → List Buffer
seen_by s = seen_outputs s.party.birth.mine s.shared.outputs

-- settings that 7 doesn't refuse, and with every set output silent
pub record SilentSettings (s : Session) : Type 0 where
  pub domain_set_lem : s.party.domain.is_set ≡ 1
  pub instructions_set : s.party.instructions.is_set ≡ 1
  pub number : ℕ
  pub number_most : number < 4
  pub output_set : is_set (seen_by s) number ≡ true
  pub all_silent : AllSilent s.shared.mask (seen_by s)

-- the words of a start
abbrev pub start_words : List ℕ
start_words = words_of command.Start

-- "a run of no elements": a start that is accepted, adds one to the runs and nothing to the claims
pub record EmptyRun (s : Session) (f : Fed) : Type 0 where
  pub commands : f.commands ≡ command.Start ∷ []
  pub unrefused : f.refusal ≡ nothing
  pub runs : f.session.party.tally.runs ≡ s.party.tally.runs + 1
  pub claims : f.session.party.tally.claims ≡ s.party.tally.claims

-- each set output has one of the codes that document 01 accepts, 0 to 4
pub record Coded (outputs : List Buffer) : Type 0 where
  pub code_most : (n : ℕ) → n < 4 → is_set outputs n ≡ true → code_of (output outputs n).format ≤ 4

-- document 01's start: "The mask is kept but doesn't change this"
module _ (outputs : List Buffer) where
  -- output `n` counts in full: it is set
  unfoldable pub counts_in_full : ℕ → Bool
  counts_in_full n = is_set outputs n

  -- 8: "the domain is not inside every set output's window"
  unfoldable pub covered_in_full : Domain → Bool
  covered_in_full d = every 4 (λ n. pick (counts_in_full n) (contains_domain d (output outputs n)) true)

  -- 9: "spans of two set outputs share a byte"
  unfoldable pub disjoint_in_full : Bool
  disjoint_in_full =
      every 4
      (λ n. every n (λ m. pick (counts_in_full n and counts_in_full m) (apart (output outputs n) (output outputs m)) true))

-- 7, 8 and 9
unfoldable pub ready_in_full : Domain → Buffer → List Buffer → Told
ready_in_full d instructions outputs =
    pick (complete d instructions outputs)
    (pick (covered_in_full outputs d) (pick (disjoint_in_full outputs) (gives []) (refuses 9)) (refuses 8))
    (refuses 7)

-- "the number of pairs in the domain times the number of set outputs"
unfoldable pub claim_in_full : Domain → List Buffer → ℕ
claim_in_full d outputs = pairs_of d * count 4 (counts_in_full outputs)

-- a start is document 01's: it is judged so, and claims so much
pub record AsBefore (s : Session) : Type 0 where
  pub judged_so :
      ready_of s.party.domain s.party.instructions s.shared.mask (seen_by s) ≡
      ready_in_full s.party.domain s.party.instructions s.shared.outputs
  pub claims_so : claim_of s.party.birth.edition s.party.domain s.shared.mask (seen_by s) ≡ claim_in_full s.party.domain s.shared.outputs
