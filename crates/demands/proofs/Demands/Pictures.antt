-- Pictures and tests: conditional output tests (request 12) and rectangles in any order (request 13).
-- A page behind Demands.antt, made as that one is: each statement under its sentence, each proof a citation. Assumes nothing.
use mathlib.Core.Path.{◌≡◌}
use mathlib.Core.List.{List, [], ◌∷◌, Permᴰ}
use Prim.Native.Nat.{ℕ, ◌<◌, ◌≤◌}
use lib.ListN.{length}
use Rattle.laws.specs.Below.{sum}
use Rattle.laws.specs.Masks.{digit}
use Rattle.refusal.specs.Told.{gives}
use Rattle.refusal.specs.Crossing.{Crosses}
use Rattle.layout.specs.declared.Layout.{Layout}
use Rattle.picture.specs.Picture.{Spot, Scene, Domain, Lent, spots_of}
use Rattle.picture.specs.Example.{example, example_domain}
use Rattle.picture.proofs.Example.{example_lent}
use Rattle.state.specs.Cells.{session_of, shared_of}
use Rattle.session.specs.Step.{refused, step_of}
use Rattle.session.specs.Feed.{first}
use Rattle.picture_rooms.specs.Rooms.{copy_of}
use Rattle.session_rooms.specs.Rooms.{WordCrosses}
use Rattle.demands.specs.Painting.{Painting, Painted}
use Rattle.demands.specs.Rectangles.{RectangleRead}
use Rattle.demands.specs.Pieces.{Handed}
use Rattle.demands.proofs.Painting.{every_order}
use Rattle.demands.proofs.Rectangles.{rectangle_read}
use Rattle.state.specs.State.{Shared}
use Rattle.conditional.specs.Conditional.{buffer_layout, pairs, passes_at, bit_at, test_of}
use Rattle.conditional_rooms.specs.Rooms.{SurveyCrosses}
use Rattle.demands.specs.Surveys.{in_turn, test_asks, survey_asks, Opposite, Split, SameTests}
use Rattle.demands.proofs.Pieces.{handed_given, word_refused}
use Rattle.demands.proofs.Surveys.{test_called, survey_called, test_left, survey_left, opposites_split, same_tests}

-- REQUEST 12, "Conditional output tests"

-- "With no conditional buffer or test set, 7; then 3, 5 for a bad domain, 10 at any pair, and 11.": the first question that fails refuses a
-- call; where all hold, status 0 comes with 1 or 0, whether v op b, and a survey's with how many pairs pass. (A buffer's window is judged for its 3 and 6
-- before a pair is asked for 10.)
pub conditional_test :
    (s : Shared) (v first : ℕ) (m : List ℕ) (x y r : ℕ) (passed passed' : List ℕ) → Crosses (test_of s v first m x y) r passed passed' →
    Crosses
    (in_turn (test_asks s.conditional s.test_set x y first (length m))
    (gives (digit (passes_at (buffer_layout s.conditional) s.test v first m x y) ∷ [])))
    r passed passed'
conditional_test = test_called

pub conditional_survey :
    (s : Shared) (v first : ℕ) (m : List ℕ) (i0 j0 i1 j1 r : ℕ) (room room' passed passed' : List ℕ) →
    SurveyCrosses s v first m i0 j0 i1 j1 r room room' passed passed' →
    Crosses
    (in_turn (survey_asks s.conditional s.test_set i0 j0 i1 j1 first (length m) (length room))
    (gives (sum (pairs i0 j0 i1 j1) (bit_at (buffer_layout s.conditional) s.test v first m i0 j0 i1 j1) ∷ [])))
    r passed passed'
conditional_survey = survey_called

-- A call with another status than 0 has touched no room.
pub conditional_test_refused :
    (s : Shared) (v first : ℕ) (m : List ℕ) (x y r : ℕ) (passed passed' : List ℕ) → Crosses (test_of s v first m x y) r passed passed' →
    1 ≤ r → passed' ≡ passed
conditional_test_refused = test_left

pub conditional_survey_refused :
    (s : Shared) (v first : ℕ) (m : List ℕ) (i0 j0 i1 j1 r : ℕ) (room room' passed passed' : List ℕ) →
    SurveyCrosses s v first m i0 j0 i1 j1 r room room' passed passed' → 1 ≤ r → (room' ≡ room) × (passed' ≡ passed)
conditional_survey_refused = survey_left

-- A test and its opposite split the pairs: 1 and 4, 2 and 5, 3 and 6, 0 and 7. Two surveys of one domain that differ in the test alone have the
-- same status; where it is 0, each pair passes just one of them, and their numbers add up to all pairs.
pub conditional_opposites :
    (s s' : Shared) → s'.conditional ≡ s.conditional → s'.test_set ≡ s.test_set → Opposite s.test s'.test →
    (v first : ℕ) (m : List ℕ) (i0 j0 i1 j1 r r' : ℕ) (room room₁ passed passed₁ other other₁ number number₁ : List ℕ) →
    length other ≡ length room → SurveyCrosses s v first m i0 j0 i1 j1 r room room₁ passed passed₁ →
    SurveyCrosses s' v first m i0 j0 i1 j1 r' other other₁ number number₁ → Split (pairs i0 j0 i1 j1) r r' room₁ passed₁ other₁ number₁
conditional_opposites = opposites_split

-- "The unit only reads the session's settings, stopped or not": the settings that a refused word leaves, with which the session is
-- stopped, give every test and every survey the answer that they gave before.
pub conditional_stopped :
    (own tallies shared : List ℕ) → Handed own tallies shared → (w r : ℕ) (own' tallies' shared' room room' : List ℕ) →
    WordCrosses (step_of (session_of own tallies shared) w) r own' tallies' shared' room room' →
    (n : ℕ) → (step_of (session_of own tallies shared) w).reply ≡ refused n → SameTests (shared_of shared) (shared_of shared')
conditional_stopped own tallies shared h w r own' tallies' shared' room room' c n e =
    same_tests shared shared' (word_refused own tallies shared (handed_given h) w r own' tallies' shared' room room' c n e).settings_same

-- REQUEST 13, "Every order paints the same picture"

-- "Take one accepted output window, a domain inside it and lent memory covering its span. Write each pair's given element once. Prove that
-- every order of these writes gives the same memory, that each pair reads back its own element, and that bytes no pair of the domain owns
-- are unchanged. For outputs whose spans are disjoint the same holds together."
pub picture_orders :
    (c : Scene) (outputs : ℕ) (d : Domain) (first : ℕ) (m : List ℕ) → Lent c outputs d first (length m) → (order : List Spot) →
    Permᴰ order (spots_of d outputs) → (m' : List ℕ) → Painting c first order m m' → Painted c outputs d first m m'
picture_orders = every_order

-- There are such scenes: two outputs, one tiled and one linear, in 4,096 bytes of memory.
pub picture_example : Lent example 2 example_domain 0 4096
picture_example = example_lent

-- One call that copies a rectangle out leaves the reads of its pairs in the room, row by row.
pub rectangle_reads :
    (l : Layout) (x y w h first : ℕ) (m room room' : List ℕ) → (0 < w) × (0 < h) →
    Crosses (copy_of l x y w h first (length room) m) 0 room room' → RectangleRead l x y w h first m room'
rectangle_reads = rectangle_read
