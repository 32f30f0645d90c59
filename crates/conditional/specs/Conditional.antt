-- Request 12, "Conditional output tests": "the unit that compares an unsigned 32-bit v with b read from the conditional buffer at the
-- pair: result v op b, for UINT16_1 only (other formats get 3 here), low byte first, from lent memory". The unit reads a session's
-- settings and nothing else of it. Assumes nothing.
use Rattle.std.specs.Prelude.{◌≡◌, Bool, List, [], ◌∷◌, ℕ, zero, suc, ◌+◌, ◌-◌, ◌*◌, ◌/◌, ◌%◌, leb, eqb, length}
use Rattle.laws.specs.Below.{every, sum}
use Rattle.laws.specs.Choice.{◌and◌, pick}
use Rattle.laws.specs.Masks.{digit}
use Rattle.refusal.specs.Number.{number_of}
use Rattle.refusal.specs.Told.{Told, gives, refuses}
use Rattle.layout.specs.declared.Layout.{Layout}
use Rattle.address.specs.Address.{if_accepted, inside, address_of}
use Rattle.memory.specs.Elements.{held_at, in_order}
use Rattle.command.specs.Format.{pitch_of, tiled_of, code_of}
use Rattle.state.specs.State.{Buffer, Shared}
use Rattle.conditions.specs.Conditions.{passes, word_in}
use Rattle.conditional.specs.declared.Tested.{Tested}
use Rattle.conditional.specs.declared.Tested.TheVariants as tested
use Rattle.conditional.specs.declared.Surveyed.{Surveyed}
use Rattle.conditional.specs.declared.Surveyed.TheVariants as surveyed

-- "low byte first, from lent memory": the number at an address, in memory `m` that stands at `first`
unfoldable pub word_at : ℕ → List ℕ → ℕ → ℕ
word_at first m a = word_in m (a - first)

-- the conditional buffer's layout: "UINT16_1, 2 bytes"
abbrev pub buffer_layout : Buffer → Layout
buffer_layout b =
    record {
      base = record { 0 = b.base };
      pitch = pitch_of b.format;
      height = b.height;
      size = 2;
      tiled = tiled_of b.format;
    }

-- "With no conditional buffer or test set, 7; then 3" for another format than UINT16_1, whose code is 0
unfoldable pub if_ready : Shared → Told → Told
if_ready s answer =
    pick (eqb s.conditional.is_set 1 and eqb s.test_set 1)
    (pick (eqb (code_of s.conditional.format) 0) answer (refuses 3))
    (refuses 7)

-- "A survey with one v over a given domain", from (i0, j0) to (i1, j1): its pairs, "row by row"
module _ (i0 j0 i1 j1 : ℕ) where
  abbrev pub columns : ℕ
  columns = suc i1 - i0

  abbrev pub pairs : ℕ
  pairs = (suc j1 - j0) * columns

  -- pair `k`, counted from 0
  abbrev pub pair_x : ℕ → ℕ
  pair_x k = i0 + k % columns

  abbrev pub pair_y : ℕ → ℕ
  pair_y k = j0 + k / columns

  -- "10 at any pair": all are inside
  unfoldable pub all_inside : Layout → Bool
  all_inside l = every pairs (λ k. inside l (pair_x k) (pair_y k))

  -- "and 11": memory of `n` bytes holds the whole element of each
  unfoldable pub all_held : Layout → ℕ → ℕ → Bool
  all_held l first n = every pairs (λ k. held_at l (pair_x k) (pair_y k) first n)

-- a layout with a test, a value and lent memory
module _ (l : Layout) (test v first : ℕ) (m : List ℕ) where
  -- whether the test passes at a pair
  unfoldable pub passes_at : ℕ → ℕ → Bool
  passes_at x y = passes test v (word_at first m (address_of l x y))

  -- the test of one pair: 1 or 0; 10, then 11
  unfoldable pub pair_of : ℕ → ℕ → Told
  pair_of x y = if_accepted l (in_order (inside l x y) (held_at l x y first (length m)) (gives (digit (passes_at x y) ∷ [])))

  module _ (i0 j0 i1 j1 : ℕ) where
    -- "a byte 1 or 0 a pair, row by row"
    unfoldable pub bit_at : ℕ → ℕ
    bit_at k = digit (passes_at (pair_x i0 j0 i1 j1 k) (pair_y i0 j0 i1 j1 k))

    -- "how many pairs pass"; 5 "for a bad domain, 10 at any pair, and 11", which also comes where the room isn't as long as the pairs
    -- are many
    unfoldable pub domain_of : ℕ → Told
    domain_of room =
        pick (leb i0 i1 and leb j0 j1)
        (if_accepted l
        (in_order (all_inside i0 j0 i1 j1 l) (eqb room (pairs i0 j0 i1 j1) and all_held i0 j0 i1 j1 l first (length m))
        (gives (sum (pairs i0 j0 i1 j1) bit_at ∷ []))))
        (refuses 5)

-- numbers from 0 on, listed
unfoldable pub listed : ℕ → (ℕ → ℕ) → List ℕ
listed zero f = []
listed (suc k) f = f zero ∷ listed k (λ i. f (suc i))

-- the unit with a session's settings: the test of one pair, the survey of a domain, and the survey's bytes
module _ (s : Shared) (v first : ℕ) (m : List ℕ) where
  unfoldable pub test_of : ℕ → ℕ → Told
  test_of x y = if_ready s (pair_of (buffer_layout s.conditional) s.test v first m x y)

  unfoldable pub survey_of : ℕ → ℕ → ℕ → ℕ → ℕ → Told
  survey_of i0 j0 i1 j1 room = if_ready s (domain_of (buffer_layout s.conditional) s.test v first m i0 j0 i1 j1 room)

  unfoldable pub bytes_of : ℕ → ℕ → ℕ → ℕ → List ℕ
  bytes_of i0 j0 i1 j1 = listed (pairs i0 j0 i1 j1) (bit_at (buffer_layout s.conditional) s.test v first m i0 j0 i1 j1)

-- the room at return: the bytes of all pairs, or as it was where the survey is refused
unfoldable pub room_after : Told → List ℕ → List ℕ → List ℕ
room_after (gives values) bytes room = bytes
room_after (refuses number) bytes room = room

-- a survey's answer `r`, and its room before and after: what is told, with the bytes of all pairs in the room, or a room as it was
pub record Answers (told : Told) (bytes : List ℕ) (r : Told) (before after : List ℕ) : Type 0 where
  pub answer : r ≡ told
  pub room : after ≡ room_after told bytes before

-- the survey of a layout's domain, and that of a session's settings
abbrev pub SurveyedIn : Layout → ℕ → ℕ → ℕ → List ℕ → ℕ → ℕ → ℕ → ℕ → Told → List ℕ → List ℕ → Type 0
SurveyedIn l test v first m i0 j0 i1 j1 r before after =
    Answers (domain_of l test v first m i0 j0 i1 j1 (length before)) (listed (pairs i0 j0 i1 j1) (bit_at l test v first m i0 j0 i1 j1)) r
    before after

abbrev pub SurveyedBy : Shared → ℕ → ℕ → List ℕ → ℕ → ℕ → ℕ → ℕ → Told → List ℕ → List ℕ → Type 0
SurveyedBy s v first m i0 j0 i1 j1 r before after =
    Answers (survey_of s v first m i0 j0 i1 j1 (length before)) (bytes_of s v first m i0 j0 i1 j1) r before after

-- what the answers tell, case by case
abbrev pub told_tested : Tested → Told
told_tested (tested.Result passed) = gives (digit passed ∷ [])
told_tested (tested.Refused why) = refuses (number_of why)

abbrev pub told_surveyed : Surveyed → Told
told_surveyed (surveyed.Passed count) = gives (count ∷ [])
told_surveyed (surveyed.Refused why) = refuses (number_of why)
