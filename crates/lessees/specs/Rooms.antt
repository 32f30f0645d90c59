-- Two parties in the cells that a caller lends: each party's own cells and tallies, and the shared ones; and what a beginning and a
-- piece leave there. Assumes nothing.
use Rattle.std.specs.Prelude.{◌≡◌, Bool, true, false, Option, None, Some, Result, Ok, Err, List, [], ◌∷◌, ◌++◌, ℕ, suc, ◌+◌, ◌-◌, ◌/◌, ◌%◌, ◌<◌, ◌≤◌, ◌^◌, eqb, length, get_or, take, drop}
use Rattle.laws.specs.Choice.{pick}
use Rattle.laws.specs.Masks.{on}
use Rattle.refusal.specs.Crossing.{status_of}
use Rattle.state.specs.Cells.{Sized, party_of, shared_of, party_cells, tally_cells, shared_cells}
use Rattle.state.specs.Asked.{Given, Held}
use Rattle.refusal.specs.declared.Refusal.{Refusal}
use Rattle.session.specs.Answers.{first_of}
use Rattle.session.specs.Feed.{first_status, Fed}
use Rattle.session.specs.declared.stream.Progress.{Progress}
use Rattle.session.specs.declared.stream.Progress.TheVariants.{Open, Whole}
use Rattle.lessees.specs.declared.Told.{Told}
use Rattle.lessees.specs.Pair.{Pair, Sent, Part, PairFed, PairValid, piece_of}
use Rattle.lessees.specs.Begin.{new_pair, may_begin, begin_told}

-- the party of word `k`: "bit k of number i is word 32 i + k's"
abbrev pub party_at : List ℕ → ℕ → Bool
party_at parties k = on (k % 32) (get_or parties (k / 32) 0)

-- words with their parties, the first of them word `k`
unfoldable pub sent_from : List ℕ → ℕ → List ℕ → List Sent
sent_from parties k [] = []
sent_from parties k (w ∷ ws) = record { party = party_at parties k; word = w } ∷ sent_from parties (suc k) ws

abbrev pub sent_of : List ℕ → List ℕ → List Sent
sent_of words parties = sent_from parties 0 words

-- the numbers that the parties of so many words take
abbrev pub groups_of : ℕ → ℕ
groups_of n = (n + 31) / 32

abbrev pub pair_of : List ℕ → List ℕ → List ℕ → List ℕ → List ℕ → Pair
pair_of own0 tallies0 own1 tallies1 shared =
    record { party0 = party_of own0 tallies0; party1 = party_of own1 tallies1; shared = shared_of shared }

-- cells that hold a pair whole
pub record PairHeld (q : Pair) (own0 tallies0 own1 tallies1 shared : List ℕ) : Type 0 where
  pub own0_cells : own0 ≡ party_cells q.party0
  pub tally0_cells : tallies0 ≡ tally_cells q.party0
  pub own1_cells : own1 ≡ party_cells q.party1
  pub tally1_cells : tallies1 ≡ tally_cells q.party1
  pub shared_cells_lem : shared ≡ shared_cells q.shared

-- cells of the right lengths that hold a valid pair
pub record PairGiven (own0 tallies0 own1 tallies1 shared : List ℕ) : Type 0 where
  pub sized0 : Sized own0 tallies0 shared
  pub sized1 : Sized own1 tallies1 shared
  pub valid : PairValid (pair_of own0 tallies0 own1 tallies1 shared)

-- cells that are as they were
pub record PairUntouched (own0 tallies0 own1 tallies1 shared own0' tallies0' own1' tallies1' shared' : List ℕ) : Type 0 where
  pub own0_cells : own0' ≡ own0
  pub tally0_cells : tallies0' ≡ tallies0
  pub own1_cells : own1' ≡ own1
  pub tally1_cells : tallies1' ≡ tallies1
  pub shared_cells_lem : shared' ≡ shared

-- a new pair, or a refusal that touches nothing
pub record PairBegins
    (inputs outputs edition r : ℕ) (own0 tallies0 own1 tallies1 shared own0' tallies0' own1' tallies1' shared' : List ℕ) : Type 0 where
  pub status : r ≡ status_of (begin_told inputs outputs edition)
  pub held : may_begin inputs outputs edition ≡ true → PairHeld (new_pair inputs outputs edition) own0' tallies0' own1' tallies1' shared'
  pub untouched :
      may_begin inputs outputs edition ≡ false → PairUntouched own0 tallies0 own1 tallies1 shared own0' tallies0' own1' tallies1' shared'

-- what a party is told, in three numbers: words taken, commands completed, and the first refusal, 0 for none
abbrev pub part_cells : Part → List ℕ
part_cells t = t.taken ∷ length t.commands ∷ first_status t.refusal ∷ []

-- what a piece leaves: what each party is told, and the pair
pub record PairLeft (f : PairFed) (own0 tallies0 own1 tallies1 shared fed : List ℕ) : Type 0 where
  pub told : fed ≡ part_cells f.told0 ++ part_cells f.told1
  pub held : PairHeld f.pair own0 tallies0 own1 tallies1 shared

-- the earlier of two refusals as numbers, 0 for none
unfoldable pub earlier_number : ℕ → ℕ → ℕ
earlier_number before now = pick (eqb before 0) now before

-- what a run adds to the three numbers of what its party was told: a first refusal that isn't told as if there were none
abbrev pub told_more : List ℕ → ℕ → ℕ → ℕ → List ℕ
told_more told taken commands refusal =
    (get_or told 0 0 + taken) ∷ (get_or told 1 0 + commands) ∷ earlier_number (get_or told 2 0) refusal ∷ []

-- what a party was told so far, in three numbers
abbrev pub cells_of : Told → List ℕ
cells_of t = t.taken ∷ t.commands ∷ first_status (first_of t.refusal) ∷ []

-- nothing yet
abbrev pub untold : Told
untold = record { taken = 0; commands = 0; refusal = None }

-- a refusal more: the first one stays
abbrev pub first_kept : Option Refusal → Refusal → Option Refusal
first_kept None why = Some why
first_kept (Some first) why = Some first

abbrev pub refused_first : Told → Refusal → Told
refused_first t why = record { taken = t.taken; commands = t.commands; refusal = first_kept t.refusal why }

-- what the answer to a word adds
abbrev pub word_told : Told → Result Progress Refusal → Told
word_told t (Ok Open) = record { taken = t.taken + 1; commands = t.commands; refusal = t.refusal }
word_told t (Ok Whole) = record { taken = t.taken + 1; commands = t.commands + 1; refusal = t.refusal }
word_told t (Err why) = refused_first t why

-- three numbers, with room for so many words and commands more
pub record RoomFor (told : List ℕ) (taken commands : ℕ) : Type 0 where
  pub told_length : length told ≡ 3
  pub taken_room : get_or told 0 0 + taken < 2 ^ 64
  pub commands_room : get_or told 1 0 + commands < 2 ^ 64

-- a run of one party's words: its cells, and the three numbers of what it was told, with room for so many words more
pub record RunAsked (own tallies shared words told : List ℕ) : Type 0 where
  pub given : Given own tallies shared
  pub told_length : length told ≡ 3
  pub taken_room : get_or told 0 0 + length words < 2 ^ 64
  pub commands_room : get_or told 1 0 + length words < 2 ^ 64

-- what it leaves
pub record RunLeft (f : Fed) (own tallies shared told told' : List ℕ) : Type 0 where
  pub told_after : told' ≡ told_more told f.taken (length f.commands) (first_status f.refusal)
  pub held : Held f.session own tallies shared

-- the words of a run, from a place up to its end
abbrev pub run_of : List ℕ → ℕ → ℕ → List ℕ
run_of words from end = take (end - from) (drop from words)

-- every word from a place on to another is one party's; nothing is said of the words after that
pub record RunTo (parties : List ℕ) (length from : ℕ) (party : Bool) (at : ℕ) : Type 0 where
  pub from_at : from ≤ at
  pub at_most : at ≤ length
  pub same_party : (k : ℕ) → from ≤ k → k < at → party_at parties k ≡ party

-- the number of 32 words that are all one party's
abbrev pub whole_group : Bool → ℕ
whole_group true = 4294967295
whole_group false = 0

-- where a run of one party's words ends that goes on at a place
pub record RunEnds (parties : List ℕ) (length from : ℕ) (party : Bool) (end : ℕ) : Type 0 where
  pub from_end : from ≤ end
  pub end_most : end ≤ length
  pub same_party : (k : ℕ) → from ≤ k → k < end → party_at parties k ≡ party
  pub goes_on : from < length → party_at parties from ≡ party → from < end

-- a piece of both parties' words: what it is answered; or 11, where the parties' numbers are too many or too few, and nothing is touched
pub record PairFeeds
    (words parties : List ℕ)
    (r : ℕ)
    (own0 tallies0 own1 tallies1 shared fed own0' tallies0' own1' tallies1' shared' fed' : List ℕ)
    : Type 0 where
  pub status : r ≡ pick (eqb (length parties) (groups_of (length words))) 0 11
  pub left :
      length parties ≡ groups_of (length words) →
      PairLeft (piece_of (pair_of own0 tallies0 own1 tallies1 shared) (sent_of words parties)) own0' tallies0' own1' tallies1' shared' fed'
  pub untouched :
      (length parties ≡ groups_of (length words) → ⊥) →
      PairUntouched own0 tallies0 own1 tallies1 shared own0' tallies0' own1' tallies1' shared' × (fed' ≡ fed)
