-- Document 01's table over a session whose party owns every number, as the one party of a session and of a log does: which numbers refuse
-- its words; and of any session, where request 9's 20 comes. Assumes nothing.
use Rattle.std.specs.Prelude.{◌≡◌, true, false, ℕ, ◌<◌, ◌≤◌, length}
use Rattle.laws.specs.Choice.{place_of}
use Rattle.command.specs.Table.{headers}
use Rattle.command.specs.Kinds.{kind_of}
use Rattle.command.specs.declared.kinds.Kind.TheVariants as kind
use Rattle.owners.specs.Owners.{everything, owns_input, owns_output, owns_common, sets_common}
use Rattle.state.specs.State.{Session}
use Rattle.state.specs.Effects.{limit, stop}

-- the session's party owns every input, every output and what isn't a number's
abbrev pub OwnsAll : Session → Type 0
OwnsAll s = s.party.birth.mine ≡ everything

-- "refusals 2 to 9 and 17"
pub data OwnerNumber : ℕ → Type 0 where
  low : {n : ℕ} → 2 ≤ n → n ≤ 9 → OwnerNumber n
  full : OwnerNumber 17

-- the session after a word that was refused with a number
pub data OwnerRefused (s : Session) : ℕ → Session → Type 0 where
  -- 1: nothing at all has changed
  unchanged : s.party.stopped ≡ 1 → OwnerRefused s 1 s
  -- any other: the open command is dropped and the session is stopped; all else stands
  stopping : {n : ℕ} → OwnerNumber n → OwnerRefused s n (record { party = stop s.party; shared = s.shared })

-- what a log reports of its words: 0 where none was refused, or the first refused one's number
pub data LogNumber : ℕ → Type 0 where
  none : LogNumber 0
  refused : {n : ℕ} → OwnerNumber n → LogNumber n

-- the session takes words: neither 1 nor 17 comes before
pub record Takes (s : Session) : Type 0 where
  pub unstopped : s.party.stopped ≡ 1 → ⊥
  pub unfilled : s.party.taken < limit

-- a word that gets 20
pub data Foreign (s : Session) (w : ℕ) : Type 0 where
  -- "Constant formats and the conditional buffer, mask and test belong to party 0; party 1's header setting them gets 20": after 2
  header :
      Takes s → s.party.opened.line ≡ 21 → place_of w headers < length headers → sets_common (place_of w headers) ≡ true →
      owns_common s.party.birth.mine ≡ false → Foreign s w
  -- "A number one doesn't own gets 20 at its word, after 4."
  input :
      Takes s → (s.party.opened.line ≡ 21 → ⊥) → kind_of s.party.opened.line s.party.opened.count ≡ kind.InputNumber → w ≤ 15 →
      owns_input s.party.birth.mine w ≡ false → Foreign s w
  output :
      Takes s → (s.party.opened.line ≡ 21 → ⊥) → kind_of s.party.opened.line s.party.opened.count ≡ kind.OutputNumber → w ≤ 3 →
      owns_output s.party.birth.mine w ≡ false → Foreign s w
