-- Request 12, "Conditional output tests", over calls of egretfold_conditional_test and egretfold_conditional_survey. Assumes nothing.
use Rattle.std.specs.Prelude.{◌≡◌, Bool, List, [], ◌∷◌, ℕ, ◌+◌, ◌<◌, leb, eqb, length, get_or}
use Rattle.laws.specs.Below.{sum}
use Rattle.laws.specs.Choice.{◌and◌, pick}
use Rattle.refusal.specs.Told.{Told, refuses}
use Rattle.refusal.specs.Crossing.{Crosses}
use Rattle.layout.specs.declared.Layout.{Layout}
use Rattle.layout.specs.Layout.{well_formed, window_rule}
use Rattle.address.specs.Address.{step_of, inside}
use Rattle.memory.specs.Elements.{held_at}
use Rattle.command.specs.Format.{code_of}
use Rattle.state.specs.State.{Buffer, Shared}
use Rattle.conditional.specs.Conditional.{buffer_layout, pairs, pair_x, pair_y, all_inside, all_held, test_of, survey_of, bytes_of}

-- a question with the number that refuses where the answer is no
pub data Question : Type 0 where
  asks : Bool → ℕ → Question

-- questions in turn: the first that is answered no refuses
unfoldable pub in_turn : List Question → Told → Told
in_turn [] answer = answer
in_turn (asks holds number ∷ rest) answer = pick holds (in_turn rest answer) (refuses number)

-- what is asked of the settings, a conditional buffer and whether a test is set: whichever test it is, and whatever the value
module _ (b : Buffer) (test_set : ℕ) where
  -- "With no conditional buffer or test set, 7; then 3": whether both are set, and whether the format is UINT16_1
  abbrev pub both_set : Question
  both_set = asks (eqb b.is_set 1 and eqb test_set 1) 7

  abbrev pub plain_format : Question
  plain_format = asks (eqb (code_of b.format) 0) 3

  abbrev pub layout_in : Layout
  layout_in = buffer_layout b

  -- the buffer's window is judged as every other, 3 and 6
  abbrev pub good_form : Question
  good_form = asks (well_formed layout_in.base.0 layout_in.pitch 2) 3

  abbrev pub good_window : Question
  good_window = asks (window_rule layout_in.base.0 layout_in.tiled 2 (step_of layout_in) layout_in.height) 6

  -- what a test asks of memory of `n` bytes: "10 .., and 11"
  abbrev pub test_asks : ℕ → ℕ → ℕ → ℕ → List Question
  test_asks x y first n =
      both_set ∷ plain_format ∷ good_form ∷ good_window ∷ asks (inside layout_in x y) 10 ∷ asks (held_at layout_in x y first n) 11 ∷ []

  -- what a survey asks: "7; then 3, 5 for a bad domain, 10 at any pair, and 11", which is for the room's length too
  abbrev pub survey_asks : ℕ → ℕ → ℕ → ℕ → ℕ → ℕ → ℕ → List Question
  survey_asks i0 j0 i1 j1 first n room =
      both_set ∷ plain_format ∷ asks (leb i0 i1 and leb j0 j1) 5 ∷ good_form ∷ good_window ∷ asks (all_inside i0 j0 i1 j1 layout_in) 10 ∷
      asks (eqb room (pairs i0 j0 i1 j1) and all_held i0 j0 i1 j1 layout_in first n) 11 ∷ []

-- a survey that isn't refused, beside calls that test its pairs one by one
pub record ByTests (s : Shared) (v first : ℕ) (m : List ℕ) (i0 j0 i1 j1 : ℕ) (room passed : List ℕ) : Type 0 where
  -- "a byte 1 or 0 a pair"
  pub long : length room ≡ pairs i0 j0 i1 j1
  -- each of these calls is answered, with the pair's byte
  pub each :
      (k : ℕ) → k < pairs i0 j0 i1 j1 → (r : ℕ) (one one' : List ℕ) →
      Crosses (test_of s v first m (pair_x i0 j0 i1 j1 k) (pair_y i0 j0 i1 j1 k)) r one one' → (r ≡ 0) × (one' ≡ get_or room k 0 ∷ [])
  -- "how many pairs pass": the sum of the bytes
  pub number : passed ≡ sum (pairs i0 j0 i1 j1) (λ k. get_or room k 0) ∷ []

-- a test and its opposite
pub data Opposite : ℕ → ℕ → Type 0 where
  less : Opposite 1 4
  less_or_equal : Opposite 2 5
  equal : Opposite 3 6
  never : Opposite 0 7

-- two surveys that differ in the test alone, with opposite tests: one is refused where the other is, and else they split the pairs
pub record Split (pairs_all r r' : ℕ) (room passed room' passed' : List ℕ) : Type 0 where
  pub same : r' ≡ r
  pub bytes : r ≡ 0 → (k : ℕ) → k < pairs_all → get_or room k 0 + get_or room' k 0 ≡ 1
  pub numbers : r ≡ 0 → get_or passed 0 0 + get_or passed' 0 0 ≡ pairs_all

-- settings with which every test and every survey are the same
pub record SameTests (s s' : Shared) : Type 0 where
  pub tests : (v first : ℕ) (m : List ℕ) (x y : ℕ) → test_of s' v first m x y ≡ test_of s v first m x y
  pub surveys :
      (v first : ℕ) (m : List ℕ) (i0 j0 i1 j1 room : ℕ) → survey_of s' v first m i0 j0 i1 j1 room ≡ survey_of s v first m i0 j0 i1 j1 room
  pub bytes : (v first : ℕ) (m : List ℕ) (i0 j0 i1 j1 : ℕ) → bytes_of s' v first m i0 j0 i1 j1 ≡ bytes_of s v first m i0 j0 i1 j1
